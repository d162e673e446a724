-- Lists of what stands at keys, and the maps that they make.
use Rattle.std.proofs.Common.{◌≡◌, List, [], ◌∷◌, refl, sym, ap, ◌∙◌, cond, Bool, true, false}
use Rattle.std.specs.Prelude.{Option, Some, filter, slice_get}
use Rattle.std.specs.Prelude as prelude
use Rattle.std.specs.FinMap.{FinMap, entries, from_entries, find, get-from_entries, get-entries, same_map}
use Rattle.schema.specs.Rows.{Key, key_cmp, key_cmp_total, key_cmp-IsAntisymmetric}
use Rattle.plain_runner.specs.Listed.{AreInOrder}

pub find-filter : {X : Type 0} (test : X → Bool) (xs : List X) → prelude.find test xs ≡ slice_get (filter test xs) 0
find-filter test [] = refl
find-filter test (x ∷ xs) = elim (test x) as (λ b. cond b (Some x) (prelude.find test xs) ≡ slice_get (cond b (x ∷ filter test xs) (filter test xs)) 0) [ true ↦ refl | false ↦ find-filter test xs ]

-- a list that is a map's is in order, and makes that map
pub listed_map : {V : Type 0} (es : List (Key × V)) (m : FinMap key_cmp V) → es ≡ entries m → from_entries {R = key_cmp} es ≡ m
listed_map es m e = same_map key_cmp_total key_cmp-IsAntisymmetric _ _ (λ q. get-from_entries key_cmp_total es q ∙ ap (find key_cmp q) e ∙ sym (get-entries m q))

pub listed_order : {V : Type 0} (es : List (Key × V)) (m : FinMap key_cmp V) → es ≡ entries m → AreInOrder es
listed_order es m e = ap entries (listed_map es m e) ∙ sym e
