-- Entries in the order of their keys: a key behind those of all.
use Rattle.std.proofs.Common.{◌≡◌, ◌∙◌, ℕ, zero, suc, List, [], ◌∷◌, ◌++◌, length, map, refl, sym, ap, subst, Bool, true, false, ◌&&◌, arith}
use Rattle.std.specs.Prelude.{T, Some, slice_get, ◌-◌}
use Rattle.std.specs.List.{list_all}
use Rattle.std.specs.declared.cmp.Ordering.{Ordering}
use Rattle.std.specs.declared.cmp.Ordering.TheVariants.{Less, Equal, Greater}
use Rattle.std.specs.Ordering.{is_lt, ordering_reverse}
use Rattle.std.specs.Cmp.{IsTotalOrder}
use Rattle.std.specs.FinMap.{from_sorted, insert, entries-from_sorted, keys, put, is_sorted}
use Rattle.std.specs.FinMap.Entries.{below_all, by_order, is_sorted-put}
use Rattle.schema.proofs.SortedLemmas.{first, second}
use Rattle.row_sets.proofs.OrderLemmas.{one_put}

less : (o : Ordering) → is_lt o ≡ true → o ≡ Less
less Less p = refl
less Equal p = absurd (cc)
less Greater p = absurd (cc)

true_of : (b : Bool) → T b → b ≡ true
true_of true t = refl
true_of false t = absurd t

-- the second of two tests decides both where it implies the first
second_decides : (a b c : Bool) → c ≡ b → (b ≡ true → a ≡ true) → (a && c) ≡ b
second_decides a b true is h = ap (λ x. x && true) (h (sym is)) ∙ is
second_decides true b false is h = is
second_decides false b false is h = is

and_true : (b : Bool) → (b && true) ≡ b
and_true true = refl
and_true false = refl

both_true : (a b : Bool) → (a && b) ≡ true → (a ≡ true) × (b ≡ true)
both_true true b e = (refl, e)
both_true false b e = absurd (cc)

the_same : {X : Type 0} (x y : X) → Some x ≡ Some y → x ≡ y
the_same x y e = cc

module _ {K : Type 0} {R : K → K → Ordering} (o : IsTotalOrder R) where
  passed_on : (a b c : K) → is_lt (R a b) ≡ true → is_lt (R b c) ≡ true → is_lt (R a c) ≡ true
  passed_on a b c p q = ap is_lt (o.trans a b c (less (R a b) p) (less (R b c) q))

  greater : (k x : K) → is_lt (R x k) ≡ true → R k x ≡ Greater
  greater k x p = o.antisymm k x ∙ ap ordering_reverse (less (R x k) p)

module _ {K X : Type 0} {R : K → K → Ordering} (o : IsTotalOrder R) where
  below_one : (k : K) (es : List (K × X)) (i : ℕ) (e : K × X) → T (below_all R k es) → slice_get es i ≡ Some e → is_lt (R k e.0) ≡ true
  below_one k [] i e below is = absurd (cc)
  below_one k (x ∷ es) zero e below is = subst (λ (y : K × X). is_lt (R k y.0) ≡ true) (the_same x e is) (true_of (is_lt (R k x.0)) (first (is_lt (R k x.0)) (below_all R k es) below))
  below_one k (x ∷ es) (suc i) e below is = below_one k es i e (second (is_lt (R k x.0)) (below_all R k es) below) is

  -- the last decides for all
  last_at : (key : K) (es : List (K × X)) (i : ℕ) (e : K × X) → T (is_sorted R es) → suc i ≡ length es → slice_get es i ≡ Some e
      → list_all (λ x. is_lt (R x.0 key)) es ≡ is_lt (R e.0 key)
  last_at key [] i e up last is = absurd (cc)
  last_at key (x ∷ []) zero e up last is = and_true (is_lt (R x.0 key)) ∙ ap (λ (y : K × X). is_lt (R y.0 key)) (the_same x e is)
  last_at key (x ∷ []) (suc i) e up last is = absurd (omega arith)
  last_at key (x ∷ y ∷ es) zero e up last is = absurd (omega arith)
  last_at key (x ∷ y ∷ es) (suc i) e up last is =
      second_decides (is_lt (R x.0 key)) (is_lt (R e.0 key)) (list_all (λ z. is_lt (R z.0 key)) (y ∷ es))
      (last_at key (y ∷ es) i e (second (below_all R x.0 (y ∷ es)) (is_sorted R (y ∷ es)) up) (omega arith) is)
      (passed_on o x.0 e.0 key (below_one x.0 (y ∷ es) i e (first (below_all R x.0 (y ∷ es)) (is_sorted R (y ∷ es)) up) is))

  all_mapped : (test : K → Bool) (es : List (K × X)) → list_all test (map (λ e. e.0) es) ≡ list_all (λ e. test e.0) es
  all_mapped test [] = refl
  all_mapped test (e ∷ es) = ap (λ b. test e.0 && b) (all_mapped test es)

  pub behind_last : (key : K) (es : List (K × X)) (e : K × X) → T (is_sorted R es) → slice_get es (length es - 1) ≡ Some e
      → list_all (λ x. is_lt (R x.0 key)) es ≡ is_lt (R e.0 key)
  behind_last key [] e up is = absurd (cc)
  behind_last key (x ∷ es) e up is = last_at key (x ∷ es) (length (x ∷ es) - 1) e up (omega arith) is

  pub behind_all : (key : K) (es : List (K × X)) → T (is_sorted R es)
      → list_all (λ x. is_lt (R x.0 key)) es ≡ list_all (λ k. is_lt (R k key)) (keys (from_sorted {R = R} es))
  behind_all key es up = sym (ap (λ xs. list_all (λ k. is_lt (R k key)) (map (λ e. e.0) xs)) (entries-from_sorted R es up) ∙ all_mapped (λ k. is_lt (R k key)) es)

  put_last : (k : K) (v : X) (es : List (K × X)) → list_all (λ x. is_lt (R x.0 k)) es ≡ true → put R k v es ≡ es ++ (k, v) ∷ []
  put_last k v [] all = refl
  put_last k v (e ∷ es) all =
      let parts = both_true (is_lt (R e.0 k)) (list_all (λ x. is_lt (R x.0 k)) es) all in
      ap (λ (r : Ordering). by_order r ((k, v) ∷ e ∷ es) ((e.0, v) ∷ es) (e ∷ put R k v es)) (greater o k e.0 parts.0)
      ∙ ap (λ xs. e ∷ xs) (put_last k v es parts.1)

  put_behind : (k : K) (v : X) (es : List (K × X)) → T (is_sorted R es) → list_all (λ x. is_lt (R x k)) (keys (from_sorted {R = R} es)) ≡ true
      → put R k v es ≡ es ++ (k, v) ∷ []
  put_behind k v es up behind = put_last k v es (behind_all k es up ∙ behind)

  pub still_sorted : (k : K) (v : X) (es new : List (K × X)) → T (is_sorted R es) → list_all (λ x. is_lt (R x k)) (keys (from_sorted {R = R} es)) ≡ true
      → new ≡ es ++ (k, v) ∷ [] → T (is_sorted R new)
  still_sorted k v es new up behind is = subst (λ xs. T (is_sorted R xs)) (put_behind k v es up behind ∙ sym is) (is_sorted-put R o k v es up)

  pub added_behind : (k : K) (v : X) (es new : List (K × X)) → T (is_sorted R es) → list_all (λ x. is_lt (R x k)) (keys (from_sorted {R = R} es)) ≡ true
      → new ≡ es ++ (k, v) ∷ [] → from_sorted {R = R} new ≡ insert (from_sorted es) k v
  added_behind k v es new up behind is = ap (λ xs. from_sorted {R = R} xs) (is ∙ sym (put_behind k v es up behind)) ∙ one_put o k v es up
