use Rattle.std.proofs.Common.{◌∙◌, sym, ap}
use Rattle.std.specs.FinMap.{entries, entries-from_sorted}
use Rattle.schema.specs.Rows.{key_cmp}
use Rattle.row_sets.proofs.first_rows.FirstRows.rows.Goals as goal

pub returns : goal.returns
returns g c = c.iter.ensures ∙ sym (entries-from_sorted key_cmp c.self.inside.rows c.self.invariant) ∙ ap entries c.self.view_is
