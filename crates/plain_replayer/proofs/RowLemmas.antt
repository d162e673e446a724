-- The list of a map's rows, put one after another, is the map.
use Rattle.std.proofs.Common.{◌≡◌, List, [], ◌∷◌, length, fold, refl, sym, ap, subst, ◌∙◌, cond, true, false, arith}
use Rattle.std.specs.Prelude.{Option, Some, None, T}
use Rattle.std.specs.declared.cmp.Ordering.{Ordering}
use Rattle.std.specs.declared.cmp.Ordering.TheVariants.{Less, Equal, Greater}
use Rattle.std.specs.Ordering.{is_eq, eq_by_cmp}
use Rattle.std.specs.Cmp.{IsTotalOrder}
use Rattle.std.specs.FinMap.{FinMap, IsAntisymmetric, empty, get, insert, entries, find, entries_sorted, is_sorted, get-empty, get-insert, get-entries, len-empty, len-entries, same_map}
use Rattle.std.specs.FinMap.Entries.{below_all}
use Rattle.schema.specs.Rows.{Rows, key_cmp, key_cmp_total, key_cmp-IsAntisymmetric}
use Rattle.schema.proofs.SortedLemmas.{first, second, not_found}
use Rattle.plain_runner.specs.Listed.{rows_of}

equal : (o : Ordering) → is_eq o ≡ true → o ≡ Equal
equal Less e = absurd cc
equal Equal e = refl
equal Greater e = absurd cc

abbrev or_else : {X : Type 0} → Option X → Option X → Option X
or_else None y = y
or_else (Some x) y = Some x

or_none : {X : Type 0} (x : Option X) → or_else x None ≡ x
or_none None = refl
or_none (Some x) = refl

module _ {K X : Type 0} {R : K → K → Ordering} (total : IsTotalOrder R) (exact : IsAntisymmetric R) where
  one_put : (q : K) (e : K × X) (es : List (K × X)) (before : Option X) → T (below_all R e.0 es) → or_else (find R q es) (cond (eq_by_cmp R q e.0) (Some e.1) before) ≡ or_else (cond (eq_by_cmp R q e.0) (Some e.1) (find R q es)) before
  one_put q e es before h =
      elim (eq_by_cmp R q e.0) as (λ b. eq_by_cmp R q e.0 ≡ b → or_else (find R q es) (cond b (Some e.1) before) ≡ or_else (cond b (Some e.1) (find R q es)) before) [
        | true ↦ λ same.
            let key : q ≡ e.0 = exact q e.0 (equal (R q e.0) same) in
            ap (λ x. or_else x (Some e.1)) (not_found R q es (subst (λ (k : K). T (below_all R k es)) (sym key) h))
        | false ↦ λ other. refl
      ] refl

  all_put : (m : FinMap R X) (es : List (K × X)) (q : K) → T (is_sorted R es) → get (fold (λ n e. insert n e.0 e.1) m es) q ≡ or_else (find R q es) (get m q)
  all_put m [] q h = refl
  all_put m (e ∷ es) q h =
      all_put (insert m e.0 e.1) es q (second _ _ h)
      ∙ ap (or_else (find R q es)) (get-insert total m e.0 e.1 q)
      ∙ one_put q e es (get m q) (first _ _ h)

  again : (m : FinMap R X) → fold (λ n e. insert n e.0 e.1) empty (entries m) ≡ m
  again m = same_map total exact _ _ (λ q.
      all_put empty (entries m) q (entries_sorted m)
      ∙ ap (or_else (find R q (entries m))) (get-empty R q)
      ∙ or_none (find R q (entries m))
      ∙ sym (get-entries m q))

pub rows_of-entries : (rows : Rows) → rows_of (entries rows) ≡ rows
rows_of-entries rows = again key_cmp_total key_cmp-IsAntisymmetric rows

none_left : {X : Type 0} (es : List X) → length es ≡ 0 → es ≡ []
none_left [] e = refl
none_left (x ∷ es) e = absurd (omega arith)

pub no_entries : (X : Type 0) → entries (empty {X = X} {R = key_cmp}) ≡ []
no_entries X = none_left _ (sym (len-entries (empty {X = X} {R = key_cmp})) ∙ len-empty key_cmp X)
