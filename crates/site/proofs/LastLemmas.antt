-- A tree of last requests is a finite map.
use Rattle.std.proofs.Common.{◌≡◌, ◌∙◌, ℕ, ◌+◌, ◌<◌, List, [], ◌∷◌, ◌++◌, map, length, take, refl, sym, ap, subst, cond}
use Rattle.std.specs.Prelude.{T, Option, Some}
use Rattle.std.specs.List.{AllByRecursion}
use Rattle.std.specs.List.Sorted.{IsStrictlySortedBy}
use Rattle.std.proofs.lemmas.List.Sums.{fold-append}
use Rattle.std.specs.declared.cmp.Ordering.{Ordering}
use Rattle.std.specs.declared.cmp.Ordering.TheVariants.{Less, Equal, Greater}
use Rattle.std.specs.Ordering.{is_eq, is_lt, match_ordering, nat_cmp}
use Rattle.std.specs.Cmp.{nat_cmp_total}
use Rattle.std.specs.Map.{lookup}
use Rattle.std.specs.BTreeMap.{insert_entry}
use Rattle.std.specs.FinMap.{empty, empty_of_len, entries, len-entries, entries-from_sorted, entries-insert, find, from_sorted, get, get-from_sorted, insert, is_sorted, put, same_entries_map}
use Rattle.std.specs.FinMap.Entries.{below_all, by_order}
use Rattle.schema.proofs.SortedLemmas.{both}
use Rattle.log_model.specs.Log.{DoneRequest}
use Rattle.site_model.specs.declared.origin.Origin.{Origin}
use Rattle.site_model.specs.Sessions.{lasts_of, told_of, with_done}

module _ {X : Type 0} where
  abbrev pub IsRising : List (ℕ × X) → Type 0
  IsRising es = IsStrictlySortedBy nat_cmp (map (λ e. e.0) es)

  below_of : (k : ℕ) (es : List (ℕ × X)) → AllByRecursion (λ y. nat_cmp k y ≡ Less) (map (λ e. e.0) es) → T (below_all nat_cmp k es)
  below_of k [] h = tt
  below_of k (e ∷ es) h = both _ _ (subst (λ (o : Ordering). T (is_lt o)) (sym h.0) tt) (below_of k es h.1)

  sorted_of : (es : List (ℕ × X)) → IsRising es → T (is_sorted nat_cmp es)
  unfolding IsStrictlySortedBy
  sorted_of [] h = tt
  sorted_of (e ∷ es) h = both _ _ (below_of e.0 es h.0) (sorted_of es h.1)

  found : (q : ℕ) (es : List (ℕ × X)) → lookup (λ k. is_eq (nat_cmp q k)) es ≡ find nat_cmp q es
  found q [] = refl
  found q (e ∷ es) = ap (λ (o : Option X). cond (is_eq (nat_cmp q e.0)) (Some e.1) o) (found q es)

  pub got : (q : ℕ) (es : List (ℕ × X)) → IsRising es → lookup (λ k. is_eq (nat_cmp q k)) es ≡ get (from_sorted {R = nat_cmp} es) q
  got q es rising = found q es ∙ sym (get-from_sorted nat_cmp es q (sorted_of es rising))

  put_is : (k : ℕ) (v : X) (es : List (ℕ × X)) → insert_entry nat_cmp es k v ≡ put nat_cmp k v es
  put_is k v [] = refl
  put_is k v (e ∷ es) =
      elim (nat_cmp k e.0) as (λ (o : Ordering). match_ordering o ((k, v) ∷ e ∷ es) ((e.0, v) ∷ es) (e ∷ insert_entry nat_cmp es k v) ≡ by_order o ((k, v) ∷ e ∷ es) ((e.0, v) ∷ es) (e ∷ put nat_cmp k v es)) [
        | Less ↦ refl
        | Equal ↦ refl
        | Greater ↦ ap (λ (l : List (ℕ × X)). e ∷ l) (put_is k v es)
      ]

  pub inserted : (k : ℕ) (v : X) (es new : List (ℕ × X)) → IsRising es → IsRising new → new ≡ insert_entry nat_cmp es k v → from_sorted {R = nat_cmp} new ≡ insert (from_sorted es) k v
  inserted k v es new rising rises is =
      same_entries_map (from_sorted {R = nat_cmp} new) (insert (from_sorted es) k v)
      (entries-from_sorted nat_cmp new (sorted_of new rises)
      ∙ is
      ∙ put_is k v es
      ∙ ap (put nat_cmp k v) (sym (entries-from_sorted nat_cmp es (sorted_of es rising)))
      ∙ sym (entries-insert nat_cmp_total (from_sorted es) k v))

  pub listed : (es : List (ℕ × X)) → IsRising es → map (λ e. e.1) es ≡ map (λ e. e.1) (entries (from_sorted {R = nat_cmp} es))
  listed es rising = ap (map (λ e. e.1)) (sym (entries-from_sorted nat_cmp es (sorted_of es rising)))

  pub none_is : (es : List (ℕ × X)) → es ≡ [] → from_sorted {R = nat_cmp} es ≡ empty
  none_is [] none = empty_of_len (from_sorted []) (len-entries (from_sorted []) ∙ ap (λ (es : List (ℕ × X)). length es) (entries-from_sorted nat_cmp [] tt))
  none_is (e ∷ es) none = absurd (cc)

-- one more request that was done
pub one_more : (origin : Option Origin) (done : List DoneRequest) (i : ℕ) (d : DoneRequest) → i < length done → (take (i + 1) done ≡ take i done ++ d ∷ []) → lasts_of origin (take (i + 1) done) ≡ with_done (lasts_of origin (take i done)) (told_of origin d)
one_more origin done i d lt is = ap (lasts_of origin) is ∙ fold-append (λ lasts d. with_done lasts (told_of origin d)) empty (take i done) (d ∷ [])
