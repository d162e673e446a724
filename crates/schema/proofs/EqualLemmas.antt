-- When two schemas are equal.
use Rattle.std.proofs.Common.{◌≡◌, ℕ, List, [], ◌∷◌, refl, sym, ap, ◌∙◌, Bool, true, false, arith}
use Rattle.std.specs.Prelude.{IsTrue, ◌≢◌, length, ◌==◌, ◌&&◌, ◌↔◌}
use Rattle.std.specs.Ordering.{nat_cmp}
use Rattle.std.specs.Cmp.{nat_cmp_total}
use Rattle.std.specs.Cmp.Lexicographic.{pointwise, unequal}
use Rattle.std.specs.List.Sorted.{IsStrictlySortedBy}
use Rattle.std.specs.Map.{keys_of}
use Rattle.std.specs.FinMap.{entries, same_entries_map, from_entries, nat_cmp-IsAntisymmetric}
use Rattle.std.proofs.lemmas.Bool.Decides.{nat_tests}
use Rattle.schema.proofs.MapLemmas.{entries-from_entries}
use Rattle.schema.specs.Schema.{Tables, tables_eq, tables_eq_equiv}

entries_of : (es : List (ℕ × ℕ)) → IsStrictlySortedBy nat_cmp (keys_of es) → entries (from_entries {R = nat_cmp} es) ≡ es
entries_of = entries-from_entries nat_cmp_total nat_cmp-IsAntisymmetric

-- ---- the test

abbrev pair_eq : ℕ × ℕ → ℕ × ℕ → Bool
pair_eq p q = (p.0 == q.0) && (p.1 == q.1)

one_pair : (p q : ℕ × ℕ) → pair_eq p q ≡ true → p ≡ q
one_pair p q e =
    let first : p.0 ≡ q.0 = grind (arith, nat_tests) in
    let second : p.1 ≡ q.1 = grind (arith, nat_tests) in
    λ i. (first i, second i)

split : (a b : Bool) → (a && b) ≡ true → (a ≡ true) × (b ≡ true)
split true b e = (refl, e)
split false b e = absurd (cc)

one_list : (es fs : List (ℕ × ℕ)) → pointwise pair_eq es fs ≡ true → es ≡ fs
one_list [] [] e = refl
one_list [] (f ∷ fs) e = absurd (cc)
one_list (p ∷ es) [] e = absurd (cc)
one_list (p ∷ es) (q ∷ fs) e =
    let parts : (pair_eq p q ≡ true) × (pointwise pair_eq es fs ≡ true) = split _ _ e in
    let first = one_pair p q parts.0 in
    let rest = one_list es fs parts.1 in
    λ i. first i ∷ rest i

pub one_schema : (m n : Tables) → tables_eq m n ≡ true → m ≡ n
one_schema m n e = same_entries_map m n (one_list (entries m) (entries n) e)

pub same_schema : (m n : Tables) → m ≡ n → tables_eq m n ≡ true
same_schema m n e = ap (tables_eq m) (sym e) ∙ tables_eq_equiv.refl m

pub exactly_one_schema : (m n : Tables) (same : Bool) → same ≡ tables_eq m n → IsTrue same ↔ (m ≡ n)
exactly_one_schema m n same e = (λ t. one_schema m n (sym e ∙ t), λ h. e ∙ same_schema m n h)

pub tables_eq-from_entries : (es fs : List (ℕ × ℕ)) → IsStrictlySortedBy nat_cmp (keys_of es) → IsStrictlySortedBy nat_cmp (keys_of fs) → tables_eq (from_entries es) (from_entries fs) ≡ pointwise pair_eq es fs
tables_eq-from_entries es fs s t = λ i. pointwise pair_eq (entries_of es s i) (entries_of fs t i)

-- of one length at least, where they are equal
pub other_lengths : (es fs : List (ℕ × ℕ)) → IsStrictlySortedBy nat_cmp (keys_of es) → IsStrictlySortedBy nat_cmp (keys_of fs) → length es ≢ length fs → tables_eq (from_entries es) (from_entries fs) ≡ false
other_lengths es fs s t apart = tables_eq-from_entries es fs s t ∙ unequal pair_eq es fs apart
