-- Slots in order: where a key is, and the rows from there on.
use Rattle.std.proofs.Common.{◌≡◌, ℕ, zero, suc, ◌+◌, ◌≤◌, ◌<◌, nat_le, nat_lt, Bool, true, false, cond, ◌&&◌, List, [], ◌∷◌, length, drop, get_or, refl, sym, ap, subst, ◌∙◌, arith}
use Rattle.std.specs.Prelude.{◌≢◌, Option, Some, None, is_some}
use Rattle.std.proofs.lemmas.Bool.{ltb-true, ltb-false, eq-eqb, ne_eqb}
use Rattle.std.proofs.lemmas.Bool.Decides.{nat_tests}
use Rattle.std.proofs.lemmas.List.{drop_more}
use Rattle.row_chain.specs.Version.{row_up_to}
use Rattle.row_chain.specs.Slots.{Slot, AreAbove, AreRising, AreFrom, below, chain_at, with_row, rows_between}

pub test_true : (m n : ℕ) → m ≤ n → nat_le m n ≡ true
test_true m n e = grind (arith, nat_tests)

pub test_false : (m n : ℕ) → n < m → nat_le m n ≡ false
test_false m n e = grind (arith, nat_tests)

pub below_cases : (k : ℕ) (e : Slot) (es : List Slot) (P : ℕ → Type 0) → (e.key < k → P (suc (below k es))) → (k ≤ e.key → P 0) → P (below k (e ∷ es))
below_cases k e es P low high =
    elim (nat_lt e.key k) as (λ (b : Bool). nat_lt e.key k ≡ b → P (cond b (suc (below k es)) 0)) [
      | true ↦ λ t. low (ltb-true e.key k t)
      | false ↦ λ t. high (ltb-false e.key k t)
    ] refl

pub below-le-length : (k : ℕ) (es : List Slot) → below k es ≤ length es
below-le-length k [] = omega arith
below-le-length k (e ∷ es) = below_cases k e es (λ i. i ≤ suc (length es)) (λ _. omega (arith, below-le-length k es)) (λ _. omega arith)

pub above_at : (n : ℕ) (es : List Slot) (i : ℕ) (d : Slot) → AreAbove n es → i < length es → n < (get_or es i d).key
above_at n [] i d h lt = absurd (omega arith)
above_at n (e ∷ es) zero d h lt = h.0
above_at n (e ∷ es) (suc i) d h lt = above_at n es i d h.1 (omega arith)

pub below_lt : (k : ℕ) (es : List Slot) (i : ℕ) (d : Slot) → AreRising es → i < length es → (get_or es i d).key < k → i < below k es
below_lt k [] i d up lt low = absurd (omega arith)
below_lt k (e ∷ es) zero d up lt low = below_cases k e es (λ n. 0 < n) (λ _. omega arith) (λ h. absurd (omega arith))
below_lt k (e ∷ es) (suc i) d up lt low =
    let first : e.key < (get_or es i d).key = above_at e.key es i d up.0 (omega arith) in
    below_cases k e es (λ n. suc i < n) (λ _. omega (arith, below_lt k es i d up.1 (omega arith) low)) (λ h. absurd (omega arith))

pub below_ge : (k : ℕ) (es : List Slot) (i : ℕ) (d : Slot) → AreRising es → i < length es → k ≤ (get_or es i d).key → below k es ≤ i
below_ge k [] i d up lt high = absurd (omega arith)
below_ge k (e ∷ es) zero d up lt high = below_cases k e es (λ n. n ≤ 0) (λ h. absurd (omega arith)) (λ _. omega arith)
below_ge k (e ∷ es) (suc i) d up lt high = below_cases k e es (λ n. n ≤ suc i) (λ _. omega (arith, below_ge k es i d up.1 (omega arith) high)) (λ _. omega arith)

-- ---- the chain of a key

pub none_above : (n k : ℕ) (es : List Slot) → AreAbove n es → k ≤ n → chain_at es k ≡ None
none_above n k [] h le = refl
none_above n k (e ∷ es) h le =
    let lt : n < e.key = h.0 in
    ap (λ (b : Bool). cond b (Some e.chain) (chain_at es k)) (ne_eqb e.key k (omega arith)) ∙ none_above n k es h.1 le

pub chain_here : (k : ℕ) (es : List Slot) (d : Slot) → AreRising es → below k es < length es → (get_or es (below k es) d).key ≡ k → chain_at es k ≡ Some (get_or es (below k es) d).chain
chain_here k [] d up lt is = absurd (omega arith)
chain_here k (e ∷ es) d up lt is =
    below_cases k e es (λ n. n < suc (length es) → (get_or (e ∷ es) n d).key ≡ k → chain_at (e ∷ es) k ≡ Some (get_or (e ∷ es) n d).chain)
    (λ low l is. ap (λ (b : Bool). cond b (Some e.chain) (chain_at es k)) (ne_eqb e.key k (omega arith)) ∙ chain_here k es d up.1 (omega arith) is)
    (λ high l is. ap (λ (b : Bool). cond b (Some e.chain) (chain_at es k)) (eq-eqb e.key k is))
    lt is

pub chain_other : (k : ℕ) (es : List Slot) (d : Slot) → AreRising es → below k es < length es → (get_or es (below k es) d).key ≢ k → chain_at es k ≡ None
chain_other k [] d up lt is = absurd (omega arith)
chain_other k (e ∷ es) d up lt is =
    below_cases k e es (λ n. n < suc (length es) → (get_or (e ∷ es) n d).key ≢ k → chain_at (e ∷ es) k ≡ None)
    (λ low l is. ap (λ (b : Bool). cond b (Some e.chain) (chain_at es k)) (ne_eqb e.key k (omega arith)) ∙ chain_other k es d up.1 (omega arith) is)
    (λ high l is. ap (λ (b : Bool). cond b (Some e.chain) (chain_at es k)) (ne_eqb e.key k (omega arith)) ∙ none_above e.key k es up.0 high)
    lt is

pub chain_past : (k : ℕ) (es : List Slot) → length es ≤ below k es → chain_at es k ≡ None
chain_past k [] le = refl
chain_past k (e ∷ es) le =
    below_cases k e es (λ n. suc (length es) ≤ n → chain_at (e ∷ es) k ≡ None)
    (λ low l. ap (λ (b : Bool). cond b (Some e.chain) (chain_at es k)) (ne_eqb e.key k (omega arith)) ∙ chain_past k es (omega arith))
    (λ high l. absurd (omega arith))
    le

-- ---- the rows of a range

pub rows_above : (s lo hi n : ℕ) (es : List Slot) → AreAbove n es → hi ≤ n → rows_between s lo hi es ≡ []
rows_above s lo hi n [] h le = refl
rows_above s lo hi n (e ∷ es) h le =
    let lt : n < e.key = h.0 in
    ap (λ (b : Bool). with_row (nat_le lo e.key && b) e.key (row_up_to s e.chain.versions) (rows_between s lo hi es)) (test_false e.key hi (omega arith))
    ∙ ap (λ (b : Bool). with_row b e.key (row_up_to s e.chain.versions) (rows_between s lo hi es)) (never (nat_le lo e.key))
    ∙ rows_above s lo hi n es h.1 le
  where
    never : (b : Bool) → (b && false) ≡ false
    never true = refl
    never false = refl

pub rising-drop : (i : ℕ) (es : List Slot) → AreRising es → AreRising (drop i es)
rising-drop zero es up = up
rising-drop (suc i) [] up = up
rising-drop (suc i) (e ∷ es) up = rising-drop i es up.1

from_above : (n lo : ℕ) (es : List Slot) → AreAbove n es → lo ≤ n → AreFrom lo es
from_above n lo [] h le = tt
from_above n lo (e ∷ es) h le = let lt : n < e.key = h.0 in (omega arith, from_above n lo es h.1 le)

pub from-drop_below : (lo : ℕ) (es : List Slot) → AreRising es → AreFrom lo (drop (below lo es) es)
from-drop_below lo [] up = tt
from-drop_below lo (e ∷ es) up = below_cases lo e es (λ n. AreFrom lo (drop n (e ∷ es))) (λ low. from-drop_below lo es up.1) (λ high. (high, from_above e.key lo es up.0 high))

pub rows-drop_below : (s lo hi : ℕ) (es : List Slot) → rows_between s lo hi (drop (below lo es) es) ≡ rows_between s lo hi es
rows-drop_below s lo hi [] = refl
rows-drop_below s lo hi (e ∷ es) =
    below_cases lo e es (λ n. rows_between s lo hi (drop n (e ∷ es)) ≡ rows_between s lo hi (e ∷ es))
    (λ low. rows-drop_below s lo hi es ∙ sym (ap (λ (b : Bool). with_row (b && nat_le e.key hi) e.key (row_up_to s e.chain.versions) (rows_between s lo hi es)) (test_false lo e.key low)))
    (λ high. refl)

pub from_at : (lo : ℕ) (es : List Slot) (i : ℕ) (d : Slot) → AreFrom lo es → i < length es → lo ≤ (get_or es i d).key
from_at lo [] i d h lt = absurd (omega arith)
from_at lo (e ∷ es) zero d h lt = h.0
from_at lo (e ∷ es) (suc i) d h lt = from_at lo es i d h.1 (omega arith)

-- one slot on, and past the range
pub rows_more : (s lo hi : ℕ) (es : List Slot) (i : ℕ) (e : Slot) → AreFrom lo es → i < length es → e ≡ get_or es i e → e.key ≤ hi
    → rows_between s lo hi (drop i es) ≡ with_row true e.key (row_up_to s e.chain.versions) (rows_between s lo hi (drop (i + 1) es))
rows_more s lo hi es i e from lt read le =
    let low : lo ≤ e.key = subst (λ (x : Slot). lo ≤ x.key) (sym read) (from_at lo es i e from lt) in
    ap (rows_between s lo hi) (drop_more es i e lt ∙ ap (λ (x : Slot). x ∷ drop (i + 1) es) (sym read))
    ∙ ap (λ (b : Bool). with_row (b && nat_le e.key hi) e.key (row_up_to s e.chain.versions) (rows_between s lo hi (drop (i + 1) es))) (test_true lo e.key low)
    ∙ ap (λ (b : Bool). with_row b e.key (row_up_to s e.chain.versions) (rows_between s lo hi (drop (i + 1) es))) (test_true e.key hi le)

pub rows_past : (s lo hi : ℕ) (es : List Slot) (i : ℕ) (e : Slot) → AreRising es → i < length es → e ≡ get_or es i e → hi < e.key → rows_between s lo hi (drop i es) ≡ []
rows_past s lo hi [] i e up lt read gt = absurd (omega arith)
rows_past s lo hi (x ∷ es) zero e up lt read gt =
    let same = ap (λ (y : Slot). y.key) read in
    rows_above s lo hi hi (x ∷ es) (omega arith, raised x.key hi es up.0 (omega arith)) (omega arith)
  where
    raised : (n m : ℕ) (es : List Slot) → AreAbove n es → m ≤ n → AreAbove m es
    raised n m [] h le = tt
    raised n m (y ∷ es) h le = let lt : n < y.key = h.0 in (omega arith, raised n m es h.1 le)
rows_past s lo hi (x ∷ es) (suc i) e up lt read gt = rows_past s lo hi es i e up.1 (omega arith) read gt

pub length-with_row : (key : ℕ) (row : Option (List ℕ)) (rows : List (ℕ × List ℕ)) → length (with_row true key row rows) ≡ cond (is_some row) (length rows + 1) (length rows)
length-with_row key (Some r) rows = omega arith
length-with_row key None rows = refl
