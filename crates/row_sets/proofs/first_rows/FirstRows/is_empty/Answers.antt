use Rattle.std.proofs.Common.{◌∙◌, List, length, sym, ap}
use Rattle.std.specs.Prelude.{◌==◌}
use Rattle.std.specs.FinMap.{entries, entries-from_sorted}
use Rattle.schema.specs.Rows.{Rows, key_cmp}
use Rattle.row_sets.specs.FlatRows.{Row}
use Rattle.row_sets.proofs.first_rows.FirstRows.is_empty.Goals as goal

pub returns : goal.returns
returns g c =
    c.is_empty.ensures
    ∙ ap (λ (rows : List Row). length rows == 0) (sym (entries-from_sorted key_cmp c.self.inside.rows c.self.invariant) ∙ ap (λ (rows : Rows). entries rows) c.self.view_is)
