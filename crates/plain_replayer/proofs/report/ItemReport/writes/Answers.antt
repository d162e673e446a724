use Rattle.std.proofs.Common.{◌∙◌, sym, ap, List, ℕ}
use Rattle.std.specs.Prelude.{Option}
use Rattle.std.specs.FinMap.{empty, entries}
use Rattle.bpf_semantics.specs.Run.{Run}
use Rattle.log_model.specs.Log.{or_idle}
use Rattle.plain_replayer.specs.Report.{Report}
use Rattle.plain_replayer.proofs.RowLemmas.{no_entries}
use Rattle.plain_replayer.proofs.report.ItemReport.writes.Goals as goal

pub returns-in-None : goal.returns-in-None
returns-in-None g c =
    sym (no_entries (Option (List ℕ)))
    ∙ ap (λ (run : Option Run). entries (or_idle empty run).writes) (sym c.in-None.is)
    ∙ ap (λ (report : Report). entries report.writes) c.self.view_is
