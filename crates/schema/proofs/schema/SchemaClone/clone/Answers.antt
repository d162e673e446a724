use Rattle.std.proofs.Common.{◌≡◌, ℕ, List, sym, subst}
use Rattle.std.specs.FinMap.{from_entries}
use Rattle.std.proofs.lemmas.Map.Entries.{entries_from_clone}
use Rattle.schema.specs.Schema.{AreTables}
use Rattle.schema.proofs.schema.SchemaClone.clone.Goals as goal

pub invariant_of-result : goal.invariant_of-result
invariant_of-result g c =
    let same : c.in_ok-widths.widths.entries ≡ c.self.inside.widths.entries = entries_from_clone _ _ (λ x y e. e) (λ v w e. e) _ _ c.in_ok-widths.ensures.cases in
    subst (λ (es : List (ℕ × ℕ)). AreTables (from_entries es)) (sym same) c.self.invariant
