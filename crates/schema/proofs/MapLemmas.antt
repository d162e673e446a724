-- How a map of std, as its entries, is a finite map.
use Rattle.std.proofs.Common.{◌≡◌, ◌+◌, List, [], ◌∷◌, length, refl, sym, ap, subst, ◌∙◌, cond, Bool}
use Rattle.std.specs.Prelude.{Option, Some, None, T, not, filter}
use Rattle.std.specs.declared.cmp.Ordering.{Ordering}
use Rattle.std.specs.declared.cmp.Ordering.TheVariants.{Less, Equal}
use Rattle.std.specs.Ordering.{is_lt}
use Rattle.std.specs.Cmp.{IsTotalOrder, eq_by_cmp_equiv}
use Rattle.std.specs.List.{AllByRecursion}
use Rattle.std.specs.List.Sorted.{IsStrictlySortedBy}
use Rattle.std.specs.Map.{lookup, keys_of}
use Rattle.std.specs.BTreeMap.{is_at}
use Rattle.std.specs.FinMap.{FinMap, IsAntisymmetric, get, insert, remove, entries, from_entries, from_sorted, retain_keys, len, len-entries, entries_sorted, get-entries, find, is_sorted, get-from_entries, get-insert, get-remove, get-from_sorted, get-retain_keys, entries-from_sorted, same_map}
use Rattle.std.proofs.lemmas.List.Filters.{length-filter_both}
use Rattle.std.specs.FinMap.Entries.{below_all, where_key, is_sorted-where_key, find-where_key}
use Rattle.schema.proofs.SortedLemmas.{both}

-- what std's map finds at a key
abbrev pub found_at : {K X : Type 0} → (K → K → Ordering) → List (K × X) → K → Option X
found_at R es k = lookup (is_at (R k)) es

find_at : {K X : Type 0} (R : K → K → Ordering) (es : List (K × X)) (q : K) → find R q es ≡ found_at R es q
find_at R [] q = refl
find_at R (e ∷ es) q = ap (cond (is_at (R q) e.0) (Some e.1)) (find_at R es q)

pub get_at : {K X : Type 0} {R : K → K → Ordering} → IsTotalOrder R → (es : List (K × X)) (q : K) → get (from_entries {R = R} es) q ≡ found_at R es q
get_at {R = R} o es q = get-from_entries o es q ∙ find_at R es q

-- ---- entries that differ at one key make maps that differ there

pub one_put : {K X : Type 0} {R : K → K → Ordering} → IsTotalOrder R → IsAntisymmetric R → (es fs : List (K × X)) (k : K) (x : X) → ((q : K) → found_at R fs q ≡ cond (is_at (R k) q) (Some x) (found_at R es q)) → from_entries {R = R} fs ≡ insert (from_entries es) k x
one_put {R = R} o exact es fs k x h = same_map o exact _ _ (λ q.
    get_at o fs q ∙ h q ∙ ap (λ b. cond b (Some x) (found_at R es q)) ((eq_by_cmp_equiv o).symm k q)
    ∙ sym (get-insert o (from_entries es) k x q ∙ ap (cond (is_at (R q) k) (Some x)) (get_at o es q)))

pub one_removed : {K X : Type 0} {R : K → K → Ordering} → IsTotalOrder R → IsAntisymmetric R → (es fs : List (K × X)) (k : K) → ((q : K) → found_at R fs q ≡ cond (is_at (R k) q) None (found_at R es q)) → from_entries {R = R} fs ≡ remove (from_entries es) k
one_removed {R = R} o exact es fs k h = same_map o exact _ _ (λ q.
    get_at o fs q ∙ h q ∙ ap (λ b. cond b None (found_at R es q)) ((eq_by_cmp_equiv o).symm k q)
    ∙ sym (get-remove o (from_entries es) k q ∙ ap (cond (is_at (R q) k) None) (get_at o es q)))

-- ---- entries in order are those of the map that they make

below_from : {K X : Type 0} (R : K → K → Ordering) (x : K) (es : List (K × X)) → AllByRecursion (λ y. R x y ≡ Less) (keys_of es) → T (below_all R x es)
below_from R x [] h = tt
below_from R x (e ∷ es) h = both _ _ (subst (λ (o : Ordering). T (is_lt o)) (sym h.0) tt) (below_from R x es h.1)

in_order : {K X : Type 0} (R : K → K → Ordering) (es : List (K × X)) → IsStrictlySortedBy R (keys_of es) → T (is_sorted R es)
unfolding IsStrictlySortedBy
in_order R [] h = tt
in_order R (e ∷ es) h = both _ _ (below_from R e.0 es h.0) (in_order R es h.1)

pub entries-from_entries : {K X : Type 0} {R : K → K → Ordering} → IsTotalOrder R → IsAntisymmetric R → (es : List (K × X)) → IsStrictlySortedBy R (keys_of es) → entries (from_entries {R = R} es) ≡ es
entries-from_entries {R = R} o exact es h =
    let s : T (is_sorted R es) = in_order R es h in
    let same : from_entries {R = R} es ≡ from_sorted es = same_map o exact _ _ (λ q. get-from_entries o es q ∙ sym (get-from_sorted R es q s)) in
    ap entries same ∙ entries-from_sorted R es s

-- ---- entries whose keys pass a test

pub entries-kept : {K X : Type 0} {R : K → K → Ordering} → IsTotalOrder R → IsAntisymmetric R → (m : FinMap R X) (p : K → Bool) → entries (retain_keys m p) ≡ filter (λ e. p e.0) (entries m)
entries-kept {K = K} {R = R} o exact m p =
    let s : T (is_sorted R (where_key R p (entries m))) = is_sorted-where_key R p (entries m) (entries_sorted m) in
    let alike : (q x : K) → R q x ≡ Equal → p x ≡ p q = λ q x e. ap p (sym (exact q x e)) in
    let same : retain_keys m p ≡ from_sorted (where_key R p (entries m)) = same_map o exact _ _ (λ q.
    get-retain_keys m p q (alike q) ∙ ap (λ x. cond (p q) x None) (get-entries m q)
    ∙ sym (get-from_sorted R (where_key R p (entries m)) q s ∙ find-where_key R p q (alike q) (entries m))) in
    ap entries same ∙ entries-from_sorted R (where_key R p (entries m)) s

pub entries-retain_keys : {K X : Type 0} {R : K → K → Ordering} → IsTotalOrder R → IsAntisymmetric R → (es : List (K × X)) (p : K → Bool) → IsStrictlySortedBy R (keys_of es) → entries (retain_keys (from_entries {R = R} es) p) ≡ filter (λ e. p e.0) es
entries-retain_keys {R = R} o exact es p h = entries-kept o exact (from_entries {R = R} es) p ∙ ap (filter (λ e. p e.0)) (entries-from_entries o exact es h)

-- those that pass and those that don't are all
pub len_split : {K X : Type 0} {R : K → K → Ordering} → IsTotalOrder R → IsAntisymmetric R → (m : FinMap R X) (p : K → Bool) → len m ≡ len (retain_keys m p) + len (retain_keys m (λ k. not (p k)))
len_split o exact m p =
    let yes : len (retain_keys m p) ≡ length (filter (λ e. p e.0) (entries m)) = len-entries _ ∙ ap length (entries-kept o exact m p) in
    let no : len (retain_keys m (λ k. not (p k))) ≡ length (filter (λ e. not (p e.0)) (entries m)) = len-entries _ ∙ ap length (entries-kept o exact m (λ k. not (p k))) in
    let both : length (filter (λ e. p e.0) (entries m)) + length (filter (λ e. not (p e.0)) (entries m)) ≡ length (entries m) =
    length-filter_both (λ e. p e.0) (λ e. not (p e.0)) (λ e. refl) (entries m) in
    len-entries m ∙ sym both ∙ (λ i. sym yes i + sym no i)
