use Rattle.std.proofs.Common.{◌∙◌, List, length, ℕ, sym, ap}
use Rattle.std.specs.Prelude.{◌==◌}
use Rattle.schema.specs.Rows.{Key}
use Rattle.row_sets.specs.FlatRows.{Row}
use Rattle.row_sets.proofs.FlatRowsLemmas.{length_is}
use Rattle.row_sets.proofs.flat_rows.FlatRows.is_empty.Goals as goal

pub returns : goal.returns
returns g c =
    c.is_empty.ensures
    ∙ ap (λ (l : List Key). length l == 0) c.deref-keys.ensures.value
    ∙ ap (λ (n : ℕ). n == 0) (sym (length_is c.self.inside.keys.items c.self.inside.lengths.items c.self.inside.bytes.items c.self.invariant.counted) ∙ ap (λ (l : List Row). length l) c.self.view_is)
