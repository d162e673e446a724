-- The entries of a map, one behind another: each is found, and to insert a key behind all others is to append.
use Rattle.std.proofs.Common.{◌≡◌, ℕ, ◌<◌, Bool, true, false, cond, List, [], ◌∷◌, ◌++◌, map, Some, refl, ap, ◌∙◌}
use Rattle.std.specs.Prelude.{T}
use Rattle.std.specs.List.{AllByRecursion, list_all}
use Rattle.std.specs.declared.cmp.Ordering.{Ordering}
use Rattle.std.specs.declared.cmp.Ordering.TheVariants.{Less, Equal, Greater}
use Rattle.std.specs.Ordering.{MatchOrdering, is_eq, is_lt, nat_cmp, ordering_reverse}
use Rattle.std.specs.Cmp.{IsTotalOrder, ranks, tied_itself}
use Rattle.std.specs.FinMap.{FinMap, entries, entries-insert, entries_sorted, find, get, get-entries, insert, is_sorted, put}
use Rattle.std.specs.FinMap.Entries.{below_all, by_order}
use Rattle.schema.proofs.SortedLemmas.{both, first, second}

less_is : (o : Ordering) → T (is_lt o) → o ≡ Less
less_is Less h = refl
less_is Equal h = absurd h
less_is Greater h = absurd h

pub true_is : (b : Bool) → T b → b ≡ true
true_is true h = refl
true_is false h = absurd h

above : {K : Type 0} (R : K → K → Ordering) → IsTotalOrder R → (x y : K) → T (is_lt (R x y)) → R y x ≡ Greater
above R o x y h = o.antisymm y x ∙ ap ordering_reverse (less_is (R x y) h)

module _ {K X : Type 0} (R : K → K → Ordering) where
  -- each is found at its key
  module _ (o : IsTotalOrder R) where
    past_first : (e d : K × X) (es : List (K × X)) → T (is_lt (R e.0 d.0)) → find R d.0 (e ∷ es) ≡ find R d.0 es
    past_first e d es less = ap (λ (r : Ordering). cond (is_eq r) (Some e.1) (find R d.0 es)) (above R o e.0 d.0 less)

    all_past : (e : K × X) (ds es : List (K × X)) → T (below_all R e.0 ds) → AllByRecursion (λ d. find R d.0 es ≡ Some d.1) ds → AllByRecursion (λ d. find R d.0 (e ∷ es) ≡ Some d.1) ds
    all_past e [] es h found = tt
    all_past e (d ∷ ds) es h found = (past_first e d es (first _ _ h) ∙ found.0, all_past e ds es (second _ _ h) found.1)

    found_all : (es : List (K × X)) → T (is_sorted R es) → AllByRecursion (λ d. find R d.0 es ≡ Some d.1) es
    found_all [] h = tt
    found_all (e ∷ es) h = (
      ap (λ (r : Ordering). cond (is_eq r) (Some e.1) (find R e.0 es)) (tied_itself o e.0),
      all_past e es es (first _ _ h) (found_all es (second _ _ h)),
    )

    pub each_is_found : (m : FinMap R X) → AllByRecursion (λ e. get m e.0 ≡ Some e.1) (entries m)
    each_is_found m = all (entries m) (found_all (entries m) (entries_sorted m))
      where
        all : (es : List (K × X)) → AllByRecursion (λ d. find R d.0 (entries m) ≡ Some d.1) es → AllByRecursion (λ e. get m e.0 ≡ Some e.1) es
        all [] found = tt
        all (e ∷ es) found = (get-entries m e.0 ∙ found.0, all es found.1)

    -- a key behind all others
    put_last : (before : List (K × X)) (k : K) (x : X) → T (list_all (λ q. is_lt (R q k)) (map (λ e. e.0) before)) → put R k x before ≡ before ++ (k, x) ∷ []
    put_last [] k x h = refl
    put_last (b ∷ before) k x h =
        ap (λ (r : Ordering). by_order r ((k, x) ∷ b ∷ before) ((b.0, x) ∷ before) (b ∷ put R k x before)) (above R o b.0 k (first _ _ h))
        ∙ ap (λ (es : List (K × X)). b ∷ es) (put_last before k x (second _ _ h))

    pub insert_last : (m : FinMap R X) (before : List (K × X)) (k : K) (x : X) → entries m ≡ before → T (list_all (λ q. is_lt (R q k)) (map (λ e. e.0) before)) → entries (insert m k x) ≡ before ++ (k, x) ∷ []
    insert_last m before k x is h = entries-insert o m k x ∙ ap (put R k x) is ∙ put_last before k x h

  below_at : (x : K) (before after : List (K × X)) (e : K × X) → T (below_all R x (before ++ e ∷ after)) → T (is_lt (R x e.0))
  below_at x [] after e h = first _ _ h
  below_at x (b ∷ before) after e h = below_at x before after e (second _ _ h)

  -- in a list in order each key is behind those before it
  pub is_last : (before after : List (K × X)) (e : K × X) → T (is_sorted R (before ++ e ∷ after)) → T (list_all (λ q. is_lt (R q e.0)) (map (λ d. d.0) before))
  is_last [] after e h = tt
  is_last (b ∷ before) after e h = both _ _ (below_at b.0 before after e (first _ _ h)) (is_last before after e (second _ _ h))

-- ---- numbers in order

pub less_of : (a b : ℕ) → T (is_lt (nat_cmp a b)) → a < b
less_of a b = by_order (nat_cmp a b) (ranks a b)
  where
    by_order : (o : Ordering) → MatchOrdering o (a < b) (a ≡ b) (b < a) → T (is_lt o) → a < b
    by_order Less is h = is
    by_order Equal is h = absurd h
    by_order Greater is h = absurd h
