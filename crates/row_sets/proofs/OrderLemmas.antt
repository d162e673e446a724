-- Entries in the order of their keys: what stands at a key's place, and what an edit there makes of them.
use Rattle.std.proofs.Common.{◌≡◌, ℕ, zero, suc, ◌<◌, ◌≤◌, List, [], ◌∷◌, length, get_or, set, take, drop, take_all, drop_of_length-le, refl, sym, ap, subst, ◌∙◌, cond, Bool, true, false, not, ◌&&◌, filter, Some, None, arith}
use Rattle.std.specs.Prelude.{T, Result, Ok, Err, IfOk, IfErr}
use Rattle.std.specs.List.{insert, HoldsAt}
use Rattle.std.specs.List.Sorted.{IsPartitionPoint, IsPartitionedBy, IsNonDecreasingBy, IsBinarySearchResult}
use Rattle.std.specs.declared.cmp.Ordering.{Ordering}
use Rattle.std.specs.declared.cmp.Ordering.TheVariants.{Less, Equal, Greater}
use Rattle.std.specs.Ordering.{is_lt, is_le, is_eq, ordering_index, ordering_reverse}
use Rattle.std.specs.Cmp.{IsTotalOrder, alike_right}
use Rattle.std.specs.FinMap.{IsAntisymmetric, empty, empty_of_len, entries, from_sorted, entries-from_sorted, insert as insert_key, entries-insert, len-entries, same_entries_map, find, put, is_sorted}
use Rattle.std.specs.FinMap.Entries.{below_all, by_order, is_sorted-put}
use Rattle.schema.proofs.LookLemmas.{split_and}

less : (o : Ordering) → T (is_lt o) → o ≡ Less
less Less p = refl
less Equal p = absurd p
less Greater p = absurd p

-- ---- where a list goes over from what is so to what isn't

one_less : {X : Type 0} (P Q : X → Type 0) (x : X) (xs : List X) (i : ℕ) → IsPartitionPoint P Q (x ∷ xs) (suc i) → IsPartitionPoint P Q xs i
one_less P Q x xs i at = ((λ k d ge lt. at.0 (suc k) d (omega arith) (omega (arith, lt))), (λ k d ge lt. at.1 (suc k) d (omega (arith, ge)) (omega (arith, lt))))

still_first : {X : Type 0} (P Q : X → Type 0) (x : X) (xs : List X) → IsPartitionPoint P Q (x ∷ xs) zero → IsPartitionPoint P Q xs zero
still_first P Q x xs at = ((λ k d ge lt. absurd (omega (arith, lt))), (λ k d ge lt. at.1 (suc k) d (omega arith) (omega (arith, lt))))

module _ {X : Type 0} (p : X → Bool) where
  abbrev Passes : X → Type 0
  Passes x = p x ≡ true

  abbrev Fails : X → Type 0
  Fails x = p x ≡ false

  -- those before it are the ones that pass
  pub passing_before : (xs : List X) (i : ℕ) → i ≤ length xs → IsPartitionPoint Passes Fails xs i → take i xs ≡ filter p xs
  passing_before [] i le at = take_all i [] (omega arith)
  passing_before (x ∷ xs) zero le at =
      passing_before xs zero (omega arith) (still_first Passes Fails x xs at)
      ∙ ap (λ b. cond b (x ∷ filter p xs) (filter p xs)) (sym (at.1 0 x (omega arith) (omega arith)))
  passing_before (x ∷ xs) (suc i) le at =
      ap (λ rest. x ∷ rest) (passing_before xs i (omega (arith, le)) (one_less Passes Fails x xs i at))
      ∙ ap (λ b. cond b (x ∷ filter p xs) (filter p xs)) (sym (at.0 0 x (omega arith) (omega arith)))

  -- and those behind it the ones that fail
  pub failing_behind : (xs : List X) (i : ℕ) → i ≤ length xs → IsPartitionPoint Passes Fails xs i → drop i xs ≡ filter (λ x. not (p x)) xs
  failing_behind [] i le at = drop_of_length-le [] (omega arith)
  failing_behind (x ∷ xs) zero le at =
      ap (λ rest. x ∷ rest) (failing_behind xs zero (omega arith) (still_first Passes Fails x xs at))
      ∙ ap (λ b. cond (not b) (x ∷ filter (λ y. not (p y)) xs) (filter (λ y. not (p y)) xs)) (sym (at.1 0 x (omega arith) (omega arith)))
  failing_behind (x ∷ xs) (suc i) le at =
      failing_behind xs i (omega (arith, le)) (one_less Passes Fails x xs i at)
      ∙ ap (λ b. cond (not b) (x ∷ filter (λ y. not (p y)) xs) (filter (λ y. not (p y)) xs)) (sym (at.0 0 x (omega arith) (omega arith)))

  -- those that pass, and pass another test too
  pub passing_both : (q : X → Bool) (xs : List X) → filter q (filter p xs) ≡ filter (λ x. p x && q x) xs
  passing_both q [] = refl
  passing_both q (x ∷ xs) =
      elim (p x) as (λ b. filter q (cond b (x ∷ filter p xs) (filter p xs)) ≡ cond (b && q x) (x ∷ filter (λ y. p y && q y) xs) (filter (λ y. p y && q y) xs)) [
        | true ↦ ap (λ rest. cond (q x) (x ∷ rest) rest) (passing_both q xs)
        | false ↦ passing_both q xs
      ]

-- ---- what a search by halves answers

pub found_there : {X : Type 0} (ord : X → Ordering) (xs : List X) (r : Result ℕ ℕ) → IsBinarySearchResult ord xs r → IfOk r (HoldsAt (λ x. ord x ≡ Equal) xs)
found_there ord xs (Ok at) there = there
found_there ord xs (Err at) gap = tt

pub found_gap : {X : Type 0} (ord : X → Ordering) (xs : List X) (r : Result ℕ ℕ) → IsBinarySearchResult ord xs r → IsNonDecreasingBy (λ x. ordering_index (ord x)) xs → IfErr r (IsPartitionPoint (λ x. ord x ≡ Less) (λ x. ord x ≡ Greater) xs)
found_gap ord xs (Ok at) there rise = tt
found_gap ord xs (Err at) gap rise = gap rise

module _ {K : Type 0} {R : K → K → Ordering} (o : IsTotalOrder R) where
  -- a test that holds of each key before one of which it holds
  abbrev pub HoldsBefore : (K → Bool) → Type 0
  HoldsBefore p = (x y : K) → R x y ≡ Less → p y ≡ true → p x ≡ true

  pub before_less : (k : K) → HoldsBefore (λ x. is_lt (R x k))
  before_less k x y under holds =
      let above : R y k ≡ Less = less (R y k) (subst T (sym holds) tt) in
      ap is_lt (o.trans x y k under above)

  -- what comes before a key that another is or comes behind
  before_tied : (k x y : K) → R x y ≡ Less → R y k ≡ Equal → R x k ≡ Less
  before_tied k x y under same = sym (alike_right o y k x same) ∙ under

  pub before_at_most : (k : K) → HoldsBefore (λ x. is_le (R x k))
  before_at_most k x y under holds = elim (R y k) as (λ r. R y k ≡ r → is_le r ≡ true → is_le (R x k) ≡ true) [
    | Less ↦ λ above _. ap is_le (o.trans x y k under above)
    | Equal ↦ λ same _. ap is_le (before_tied k x y under same)
    | Greater ↦ λ _ fails. absurd (subst T (sym fails) tt)
  ] refl holds

  pub turned : (k x : K) (r : Ordering) → R x k ≡ r → R k x ≡ ordering_reverse r
  turned k x r e = o.antisymm k x ∙ ap ordering_reverse e

  rising : (k x y : K) → R x y ≡ Less → ordering_index (R x k) ≤ ordering_index (R y k)
  rising k x y under = elim (R y k) as (λ r. R y k ≡ r → ordering_index (R x k) ≤ ordering_index r) [
    | Less ↦ λ above. let now = ap ordering_index (o.trans x y k under above) in omega arith
    | Equal ↦ λ same. let now = ap ordering_index (before_tied k x y under same) in omega arith
    | Greater ↦ λ _. elim (R x k) as (λ r. ordering_index r ≤ 2) [ Less ↦ omega arith | Equal ↦ omega arith | Greater ↦ omega arith ]
  ] refl

module _ {K X : Type 0} {R : K → K → Ordering} (o : IsTotalOrder R) where
  behind_first : (x : K) (es : List (K × X)) → T (below_all R x es) → (j : ℕ) (d : K × X) → j < length es → R x (get_or es j d).0 ≡ Less
  behind_first x [] h j d lt = absurd (omega (arith, lt))
  behind_first x (e ∷ es) h zero d lt = less _ (split_and _ _ h).0
  behind_first x (e ∷ es) h (suc j) d lt = behind_first x es (split_and _ _ h).1 j d (omega (arith, lt))

  -- the tests of keys that a search by halves makes
  pub parted : (p : K → Bool) → HoldsBefore o p → (es : List (K × X)) → T (is_sorted R es) → IsPartitionedBy (λ e. p e.0) es
  parted p before [] h i j d le lt holds = absurd (omega (arith, lt))
  parted p before (e ∷ es) h zero zero d le lt holds = holds
  parted p before (e ∷ es) h zero (suc j) d le lt holds = before e.0 _ (behind_first e.0 es (split_and _ _ h).0 j d (omega (arith, lt))) holds
  parted p before (e ∷ es) h (suc i) zero d le lt holds = absurd (omega (arith, le))
  parted p before (e ∷ es) h (suc i) (suc j) d le lt holds = parted p before es (split_and _ _ h).1 i j d (omega (arith, le)) (omega (arith, lt)) holds

  pub comparisons_rise : (k : K) (es : List (K × X)) → T (is_sorted R es) → IsNonDecreasingBy (λ e. ordering_index (R e.0 k)) es
  comparisons_rise k [] h i j d le lt = absurd (omega (arith, lt))
  comparisons_rise k (e ∷ es) h zero zero d le lt = omega arith
  comparisons_rise k (e ∷ es) h zero (suc j) d le lt = rising o k e.0 _ (behind_first e.0 es (split_and _ _ h).0 j d (omega (arith, lt)))
  comparisons_rise k (e ∷ es) h (suc i) zero d le lt = absurd (omega (arith, le))
  comparisons_rise k (e ∷ es) h (suc i) (suc j) d le lt = comparisons_rise k es (split_and _ _ h).1 i j d (omega (arith, le)) (omega (arith, lt))

  -- ---- at a key's place, and where it would be

  module _ (k : K) where
    abbrev pub IsThere : List (K × X) → ℕ → Type 0
    IsThere es at = HoldsAt (λ e. R e.0 k ≡ Equal) es at

    abbrev IsBefore : K × X → Type 0
    IsBefore e = R e.0 k ≡ Less

    abbrev IsBehind : K × X → Type 0
    IsBehind e = R e.0 k ≡ Greater

    abbrev pub IsInsertionPoint : List (K × X) → ℕ → Type 0
    IsInsertionPoint es at = IsPartitionPoint IsBefore IsBehind es at

    -- those before it are less
    first_less : (e : K × X) (es : List (K × X)) (at : ℕ) (d : K × X) → T (below_all R e.0 es) → at < length es → IsThere es at → R k e.0 ≡ Greater
    first_less e es at d h lt there = turned o k e.0 Less (before_tied o k e.0 _ (behind_first e.0 es h at d lt) (there d))

    pub find_there : (es : List (K × X)) (at : ℕ) (d : K × X) → T (is_sorted R es) → at < length es → IsThere es at → find R k es ≡ Some (get_or es at d).1
    find_there [] at d h lt there = absurd (omega (arith, lt))
    find_there (e ∷ es) zero d h lt there = ap (λ r. cond (is_eq r) (Some e.1) (find R k es)) (turned o k e.0 Equal (there d))
    find_there (e ∷ es) (suc at) d h lt there =
        ap (λ r. cond (is_eq r) (Some e.1) (find R k es)) (first_less e es at d (split_and _ _ h).0 (omega (arith, lt)) there)
        ∙ find_there es at d (split_and _ _ h).1 (omega (arith, lt)) there

    pub find_nowhere : (es : List (K × X)) (at : ℕ) → IsInsertionPoint es at → find R k es ≡ None
    find_nowhere [] at gap = refl
    find_nowhere (e ∷ es) zero gap =
        ap (λ r. cond (is_eq r) (Some e.1) (find R k es)) (turned o k e.0 Greater (gap.1 0 e (omega arith) (omega arith)))
        ∙ find_nowhere es zero (still_first IsBefore IsBehind e es gap)
    find_nowhere (e ∷ es) (suc at) gap =
        ap (λ r. cond (is_eq r) (Some e.1) (find R k es)) (turned o k e.0 Less (gap.0 0 e (omega arith) (omega arith)))
        ∙ find_nowhere es at (one_less IsBefore IsBehind e es at gap)

    pub put_there : IsAntisymmetric R → (v : X) (es : List (K × X)) (at : ℕ) (d : K × X) → T (is_sorted R es) → at < length es → IsThere es at → set es at (k, v) ≡ put R k v es
    put_there exact v [] at d h lt there = absurd (omega (arith, lt))
    put_there exact v (e ∷ es) zero d h lt there =
        ap (λ key. (key, v) ∷ es) (sym (exact e.0 k (there d)))
        ∙ ap (λ r. by_order r ((k, v) ∷ e ∷ es) ((e.0, v) ∷ es) (e ∷ put R k v es)) (sym (turned o k e.0 Equal (there d)))
    put_there exact v (e ∷ es) (suc at) d h lt there =
        ap (λ rest. e ∷ rest) (put_there exact v es at d (split_and _ _ h).1 (omega (arith, lt)) there)
        ∙ ap (λ r. by_order r ((k, v) ∷ e ∷ es) ((e.0, v) ∷ es) (e ∷ put R k v es)) (sym (first_less e es at d (split_and _ _ h).0 (omega (arith, lt)) there))

    pub put_new : (v : X) (es : List (K × X)) (at : ℕ) → at ≤ length es → IsInsertionPoint es at → insert es at (k, v) ≡ put R k v es
    put_new v [] zero le gap = refl
    put_new v [] (suc at) le gap = absurd (omega (arith, le))
    put_new v (e ∷ es) zero le gap =
        ap (λ r. by_order r ((k, v) ∷ e ∷ es) ((e.0, v) ∷ es) (e ∷ put R k v es)) (sym (turned o k e.0 Greater (gap.1 0 e (omega arith) (omega arith))))
    put_new v (e ∷ es) (suc at) le gap =
        ap (λ rest. e ∷ rest) (put_new v es at (omega (arith, le)) (one_less IsBefore IsBehind e es at gap))
        ∙ ap (λ r. by_order r ((k, v) ∷ e ∷ es) ((e.0, v) ∷ es) (e ∷ put R k v es)) (sym (turned o k e.0 Less (gap.0 0 e (omega arith) (omega arith))))

  -- ---- the map that has them

  pub no_entries : (es : List (K × X)) → es ≡ [] → from_sorted {R = R} es ≡ empty
  no_entries es none = empty_of_len (from_sorted {R = R} es) (len-entries (from_sorted {R = R} es) ∙ ap (λ l. length (entries (from_sorted {R = R} l))) none ∙ ap length (entries-from_sorted R [] tt))

  pub one_put : (k : K) (v : X) (es : List (K × X)) → T (is_sorted R es) → from_sorted {R = R} (put R k v es) ≡ insert_key (from_sorted es) k v
  one_put k v es h = same_entries_map _ _ (entries-from_sorted R (put R k v es) (is_sorted-put R o k v es h)
      ∙ sym (entries-insert o (from_sorted es) k v ∙ ap (put R k v) (entries-from_sorted R es h)))
