use Rattle.std.proofs.Common.{sym, ap, ◌∙◌}
use Rattle.std.specs.FinMap.{entries}
use Rattle.log_model.specs.Log.{rows_after}
use Rattle.log_model.specs.Entries.{items_of}
use Rattle.dsm_world.specs.System.{setting_of}
use Rattle.dsm_world.proofs.RowLemmas.{rows_listed}
use Rattle.dsm_world.proofs.world.World.rows.Goals as goal

pub returns-clause-rows : goal.returns-clause-rows
returns-clause-rows g c =
    let s = c.args.self.now in
    let r = c.in-Some.kept.now in
    let keeps = c.keeps_what_was_delivered.ensures.replicas c.args.replica r (sym c.in-Some.ensures) in
    rows_listed c.entries_suffice.ensures.rows s r c.in_ok-rows.rows.items keeps c.in_ok-rows.ensures
    ∙ ap (λ n. entries (rows_after (setting_of s) (items_of s.entries) n)) (sym c.position.ensures)
