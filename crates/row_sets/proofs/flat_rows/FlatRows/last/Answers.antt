use Rattle.std.proofs.Common.{◌∙◌, ◌-◌, List, length, ℕ, sym, ap}
use Rattle.std.specs.Prelude.{option_map, slice_get}
use Rattle.schema.specs.Rows.{Key}
use Rattle.row_sets.specs.FlatRows.{Row}
use Rattle.row_sets.proofs.FlatRowsLemmas.{key_at, length_is}
use Rattle.row_sets.proofs.flat_rows.FlatRows.last.Goals as goal

pub returns : goal.returns
returns g c =
    let keys = c.self.inside.keys.items in
    let lengths = c.self.inside.lengths.items in
    let bytes = c.self.inside.bytes.items in
    c.copied.ensures
    ∙ c.last.ensures.value
    ∙ ap (λ (l : List Key). slice_get l (length l - 1)) c.deref.ensures.value
    ∙ ap (λ (n : ℕ). slice_get keys (n - 1)) (sym (length_is keys lengths bytes c.self.invariant.counted))
    ∙ key_at keys lengths bytes _ c.self.invariant.counted
    ∙ ap (λ (l : List Row). option_map (λ row. row.0) (slice_get l (length l - 1))) c.self.view_is
