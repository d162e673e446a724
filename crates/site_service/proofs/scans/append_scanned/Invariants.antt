use Rattle.schema.specs.Rows.{Rows}
use Rattle.site_service.proofs.ScanLemmas.{HasScanned}
use Rattle.site_service.proofs.scans.append_scanned.Given as goal

abbrev pub invariant-loop-count : goal.invariant-loop-count
invariant-loop-count g l = (rows : Rows) → g.T.Store.answers_from l.initial.store rows
    → HasScanned g.S.ByteSink.appends l.initial.sink l.sink l.initial.scan rows l.left l.count
