use Rattle.std.proofs.Common.{◌∙◌, ap}
use Rattle.schema.specs.Rows.{Rows, is_behind, key_cmp_total}
use Rattle.row_sets.proofs.FirstRowsLemmas.{behind_all}
use Rattle.row_sets.proofs.first_rows.FirstRows.is_behind.Goals as goal

pub returns : goal.returns
returns g c =
    c.is_behind_last.ensures
    ∙ behind_all key_cmp_total (c.args.table, c.args.key) c.self.inside.rows c.self.invariant
    ∙ ap (λ (rows : Rows). is_behind rows (c.args.table, c.args.key)) c.self.view_is
