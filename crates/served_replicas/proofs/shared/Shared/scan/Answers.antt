use Rattle.std.proofs.Common.{◌≡◌, Ok, sym, ap, ◌∙◌}
use Rattle.std.specs.FinMap.{entries}
use Rattle.schema.specs.Rows.{rows_in}
use Rattle.row_scan.specs.Left.{first_rows, rows_left}
use Rattle.served_replicas.specs.Scanned.{rows_seen}
use Rattle.served_replicas.proofs.ScanLemmas.{copied_first}
use Rattle.served_replicas.proofs.shared.Shared.scan.Goals as goal

pub returns-then-branch-clause-rows : goal.returns-then-branch-clause-rows
returns-then-branch-clause-rows g c =
    let w = g.J.LogSetting.setting in
    let rows = rows_seen w c.loop.scanned.seen in
    let page = c.in_ok-copy_page.ensures in
    copied_first c.copy_page.new.self.rows.items (rows_left c.copy_page.new.scan.left rows) (entries (rows_in c.args.look rows)) c.args.most
    (page.split ∙ c.loop.invariant.4) page.few (page.end (ap Ok c.if-branch.true))
    ∙ ap (λ s. first_rows c.args.most c.args.look (rows_seen w s)) (sym page.seen)
