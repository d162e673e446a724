-- The least keys of pages in one run.
use Rattle.std.proofs.Common.{◌≡◌, ℕ, zero, suc, ◌+◌, ◌≤◌, ◌<◌, nat_le, Bool, true, cond, List, [], ◌∷◌, ◌++◌, length, take, drop, get_or, set, refl, sym, ap, subst, ◌∙◌, arith}
use Rattle.std.specs.List.{insert}
use Rattle.std.proofs.lemmas.List.{length-map, map-set, length-set, get_or_default, take_more, take_all}
use Rattle.std.proofs.Math.ListN.{get_or-map}
use Rattle.std.proofs.Math.Seq.{map-set_same}
use Rattle.row_chain.specs.Slots.{Slot}
use Rattle.key_table.proofs.PageEditLemmas.{halved, halves, upper}
use Rattle.key_table.specs.Pages.{begins_by, least_key, least_keys, AreFilled}

pub begins_first : (k : ℕ) (p : List Slot) → 0 < length p → begins_by k p ≡ nat_le (least_key p) k
begins_first k [] some = absurd (omega arith)
begins_first k (x ∷ p) some = refl

-- a page that has keys begins by its least key
pub begins_least : (most : ℕ) (k : ℕ) (ps : List (List Slot)) (i : ℕ) (p : List Slot) (d : ℕ) → AreFilled most ps → i < length ps → begins_by k (get_or ps i p) ≡ nat_le (get_or (least_keys ps) i d) k
begins_least most k [] i p d filled lt = absurd (omega arith)
begins_least most k (q ∷ ps) zero p d filled lt = begins_first k q filled.0.0
begins_least most k (q ∷ ps) (suc i) p d filled lt = begins_least most k ps i p d filled.1 (omega arith)

pub length-least : (ls : List ℕ) (ps : List (List Slot)) → ls ≡ least_keys ps → length ls ≡ length ps
length-least ls ps is = ap (λ (l : List ℕ). length l) is ∙ length-map ps least_key

-- one page is another, and its least key is noted
pub least_noted : (ps new : List (List Slot)) (ls noted : List ℕ) (i : ℕ) (p q : List Slot) → i < length ps → ls ≡ least_keys ps → new ≡ set ps i p → noted ≡ set ls i (least_key (get_or new i q)) → noted ≡ least_keys new
least_noted ps new ls noted i p q lt is eq note =
    note ∙ ap (λ (l : List ℕ). set l i (least_key (get_or new i q))) is
    ∙ ap (λ (x : List Slot). set (least_keys ps) i (least_key x)) (ap (λ (l : List (List Slot)). get_or l i q) eq ∙ there ps i p q lt)
    ∙ sym (map-set least_key ps i p) ∙ ap least_keys (sym eq)
  where
    there : (ps : List (List Slot)) (i : ℕ) (p q : List Slot) → i < length ps → get_or (set ps i p) i q ≡ p
    there [] i p q lt = absurd (omega arith)
    there (x ∷ ps) zero p q lt = refl
    there (x ∷ ps) (suc i) p q lt = there ps i p q (omega arith)

same_least : (p : List Slot) (at : ℕ) (x d : Slot) → x.key ≡ (get_or p at d).key → least_key (set p at x) ≡ least_key p
same_least [] at x d is = refl
same_least (y ∷ p) zero x d is = is
same_least (y ∷ p) (suc at) x d is = refl

-- a slot of a page is another, of the same key
pub least_kept : (ps new : List (List Slot)) (i at : ℕ) (x d : Slot) → x.key ≡ (get_or (get_or ps i []) at d).key → new ≡ set ps i (set (get_or ps i []) at x) → least_keys new ≡ least_keys ps
least_kept ps new i at x d is eq =
    ap least_keys eq ∙ map-set_same least_key ps i (set (get_or ps i []) at x) [] (same_least (get_or ps i []) at x d is)

split_first : (p : List Slot) → least_key (take 32 p) ≡ least_key p
split_first [] = refl
split_first (x ∷ p) = refl

-- a part is split into two, of which the first keeps the least key
pub least_halves : (ps : List (List Slot)) (i : ℕ) (lo hi d : List Slot) → i < length ps → least_key lo ≡ least_key (get_or ps i d)
    → least_keys (take i ps ++ lo ∷ hi ∷ drop (suc i) ps) ≡ insert (least_keys ps) (suc i) (least_key hi)
least_halves [] i lo hi d lt is = absurd (omega arith)
least_halves (q ∷ ps) zero lo hi d lt is = ap (λ (k : ℕ). k ∷ least_key hi ∷ least_keys ps) is
least_halves (q ∷ ps) (suc i) lo hi d lt is = ap (λ (l : List ℕ). least_key q ∷ l) (least_halves ps i lo hi d (omega arith) is)

-- a page is split
pub least_split : (ps : List (List Slot)) (i : ℕ) (p : List Slot) → i < length ps → p ≡ get_or ps i p → least_keys (halves ps i p) ≡ insert (least_keys ps) (i + 1) (least_key (drop 32 p))
least_split ps i p lt is =
    let n : suc i ≡ i + 1 = omega arith in
    subst (λ (k : ℕ). least_keys (take i ps ++ take 32 p ∷ drop 32 p ∷ drop k ps) ≡ insert (least_keys ps) k (least_key (drop 32 p))) n (least_halves ps i (take 32 p) (drop 32 p) p lt (split_first p ∙ ap least_key is))

-- the least key of the upper half is noted
pub split_noted : (ps new d : List (List Slot)) (ls rs out : List ℕ) (i first : ℕ) (b : Bool) → i < length ps → ls ≡ least_keys ps → rs ≡ ls → new ≡ halves ps i (get_or ps i []) → d ≡ new
    → first ≡ least_key (get_or d (i + 1) []) → out ≡ cond b (insert rs (i + 1) first) rs → b ≡ true → out ≡ least_keys new
split_noted ps new d ls rs out i first b lt is same eq read note out_is ok =
    let p = get_or ps i [] in
    let upper_key : first ≡ least_key (drop 32 p) = note ∙ ap (λ (l : List (List Slot)). least_key (get_or l (i + 1) [])) (read ∙ eq) ∙ ap least_key (upper ps i p [] lt) in
    out_is ∙ ap (λ (t : Bool). cond t (insert rs (i + 1) first) rs) ok
    ∙ ap (λ (l : List ℕ). insert l (i + 1) first) (same ∙ is)
    ∙ ap (insert (least_keys ps) (i + 1)) upper_key
    ∙ sym (least_split ps i p lt (get_or_default ps i [] p lt))
    ∙ ap least_keys (sym eq)

-- the key of a page behind another is noted
pub behind_noted : (ps new : List (List Slot)) (ls rs out : List ℕ) (i k : ℕ) (x : Slot) (b : Bool) → i < length ps → ls ≡ least_keys ps → rs ≡ ls → new ≡ halved ps i (get_or ps i []) (x ∷ [])
    → k ≡ x.key → out ≡ cond b (insert rs (i + 1) k) rs → b ≡ true → out ≡ least_keys new
behind_noted ps new ls rs out i k x b lt is same eq key out_is ok =
    let n : suc i ≡ i + 1 = omega arith in
    out_is ∙ ap (λ (t : Bool). cond t (insert rs (i + 1) k) rs) ok
    ∙ ap (λ (l : List ℕ). insert l (i + 1) k) (same ∙ is)
    ∙ ap (insert (least_keys ps) (i + 1)) key
    ∙ sym (subst (λ (k : ℕ). least_keys (take i ps ++ get_or ps i [] ∷ (x ∷ []) ∷ drop k ps) ≡ insert (least_keys ps) k x.key) n (least_halves ps i (get_or ps i []) (x ∷ []) [] lt refl))
    ∙ ap least_keys (sym eq)

-- ---- all are noted in turn

take_set : (ls : List ℕ) (i x : ℕ) → take i (set ls i x) ≡ take i ls
take_set [] i x = refl
take_set (l ∷ ls) zero x = refl
take_set (l ∷ ls) (suc i) x = ap (λ (t : List ℕ). l ∷ t) (take_set ls i x)

get_set : (ls : List ℕ) (i x d : ℕ) → i < length ls → get_or (set ls i x) i d ≡ x
get_set [] i x d lt = absurd (omega arith)
get_set (l ∷ ls) zero x d lt = refl
get_set (l ∷ ls) (suc i) x d lt = get_set ls i x d (omega arith)

pub one_noted : (ps : List (List Slot)) (ls new : List ℕ) (i : ℕ) → i < length ps → length ls ≡ length ps → take i ls ≡ take i (least_keys ps) → new ≡ set ls i (least_key (get_or ps i [])) → take (i + 1) new ≡ take (i + 1) (least_keys ps)
one_noted ps ls new i lt len noted eq =
    let x = least_key (get_or ps i []) in
    let n : length (set ls i x) ≡ length ls = length-set ls i x in
    let m : length (least_keys ps) ≡ length ps = length-map ps least_key in
    ap (take (i + 1)) eq
    ∙ take_more (set ls i x) i 0 (omega (arith, n, len))
    ∙ ap (λ (t : List ℕ). t ++ get_or (set ls i x) i 0 ∷ []) (take_set ls i x ∙ noted)
    ∙ ap (λ (k : ℕ). take i (least_keys ps) ++ k ∷ []) (get_set ls i x 0 (omega (arith, len)) ∙ sym (get_or-map least_key ps i []))
    ∙ sym (take_more (least_keys ps) i 0 (omega (arith, m)))

pub all_noted : (ps : List (List Slot)) (ls : List ℕ) (n : ℕ) → length ls ≡ length ps → length ps ≤ n → take n ls ≡ take n (least_keys ps) → ls ≡ least_keys ps
all_noted ps ls n len le noted =
    let m : length (least_keys ps) ≡ length ps = length-map ps least_key in
    sym (take_all n ls (omega (arith, len))) ∙ noted ∙ take_all n (least_keys ps) (omega (arith, m))
