-- Beginnings of the entries of a log, and one more.
use Rattle.std.proofs.Common.{◌≡◌, ℕ, zero, suc, ◌+◌, ◌≤◌, List, [], ◌∷◌, ◌++◌, length, take, drop, slice_get, Some, refl, sym, ap, subst, ◌∙◌, arith}
use Rattle.std.specs.List.{AllByRecursion}
use Rattle.log_model.specs.Log.{Catalogue, Setting, Call, Item, CallItem, AdditionItem, Log, IsPlaced, IsLog, IsLogFrom, by_number}
use Rattle.log_model.specs.Fit.{IsCallOf, IsCall, IsItem, AreItems}
use Rattle.log_model.specs.Entries.{ExecutedCall, Entry, CallEntry, AdditionEntry, item_of, items_of, CarriesRun, IsCarried, CarryRuns}
use Rattle.log_model.proofs.GrowthLemmas.{is_call_before, is_log_snoc, are_items_snoc}
use Rattle.log_model.proofs.CarryLemmas.{carries_before}
use Rattle.replica.specs.Replica.{AreEntriesOf}

-- ---- lists

pub take_all : {X : Type 0} (xs : List X) (n : ℕ) → length xs ≤ n → take n xs ≡ xs
take_all [] zero le = refl
take_all [] (suc n) le = refl
take_all (x ∷ xs) zero le = absurd (omega arith)
take_all (x ∷ xs) (suc n) le = ap (λ ys. x ∷ ys) (take_all xs n (omega arith))

pub take_first : {X : Type 0} (xs ys : List X) (n : ℕ) → n ≤ length xs → take n (xs ++ ys) ≡ take n xs
take_first xs ys zero le = refl
take_first [] ys (suc n) le = absurd (omega arith)
take_first (x ∷ xs) ys (suc n) le = ap (λ zs. x ∷ zs) (take_first xs ys n (omega arith))

pub take_next : {X : Type 0} (xs : List X) (n : ℕ) (x : X) → slice_get xs n ≡ Some x → take n xs ++ x ∷ [] ≡ take (suc n) xs
take_next [] n x e = absurd cc
take_next (y ∷ xs) zero x e = cc
take_next (y ∷ xs) (suc n) x e = ap (λ ys. y ∷ ys) (take_next xs n x e)

pub take_drop : {X : Type 0} (xs : List X) (n : ℕ) → take n xs ++ drop n xs ≡ xs
take_drop xs zero = refl
take_drop [] (suc n) = refl
take_drop (x ∷ xs) (suc n) = ap (λ ys. x ∷ ys) (take_drop xs n)

pub items_append : (xs ys : List Entry) → items_of (xs ++ ys) ≡ items_of xs ++ items_of ys
items_append [] ys = refl
items_append (x ∷ xs) ys = ap (λ zs. item_of x ∷ zs) (items_append xs ys)

pub items_count : (xs : List Entry) → length (items_of xs) ≡ length xs
items_count [] = refl
items_count (x ∷ xs) = ap suc (items_count xs)

pub take_count : {X : Type 0} (xs : List X) (n : ℕ) → n ≤ length xs → length (take n xs) ≡ n
take_count xs zero le = refl
take_count [] (suc n) le = absurd (omega arith)
take_count (x ∷ xs) (suc n) le = ap suc (take_count xs n (omega arith))

pub all_first : {X : Type 0} (P : X → Type 0) (xs ys : List X) → AllByRecursion P (xs ++ ys) → AllByRecursion P xs
all_first P [] ys h = tt
all_first P (x ∷ xs) ys h = (h.0, all_first P xs ys h.1)

pub all_snoc : {X : Type 0} (P : X → Type 0) (xs : List X) (x : X) → AllByRecursion P xs → P x → AllByRecursion P (xs ++ x ∷ [])
all_snoc P [] x h p = (p, tt)
all_snoc P (y ∷ xs) x h p = (h.0, all_snoc P xs x h.1 p)

pub all_at : {X : Type 0} (P : X → Type 0) (xs : List X) (k : ℕ) (x : X) → AllByRecursion P xs → slice_get xs k ≡ Some x → P x
all_at P [] k x h e = absurd cc
all_at P (y ∷ xs) zero x h e = subst P (some_is y x e) h.0
  where
    some_is : {X : Type 0} (a b : X) → Some a ≡ Some b → a ≡ b
    some_is a b e = cc
all_at P (y ∷ xs) (suc k) x h e = all_at P xs k x h.1 e

-- ---- logs

log_first : (n : ℕ) (log more : Log) → IsLogFrom n (log ++ more) → IsLogFrom n log
log_first n [] more h = tt
log_first n (item ∷ log) more h = (h.0, log_first (suc n) log more h.1)

pub placed_at : (n : ℕ) (entries : List Entry) (k : ℕ) (e : Entry) → IsLogFrom n (items_of entries) → slice_get entries k ≡ Some e → IsPlaced (n + k) (item_of e)
placed_at n [] k e h is = absurd cc
placed_at n (x ∷ entries) zero e h is =
    let same : x ≡ e = cc in
    subst (λ (y : Entry). IsPlaced (n + 0) (item_of y)) same (subst (λ (m : ℕ). IsPlaced m (item_of x)) (let here : n ≡ n + 0 = omega arith in here) h.0)
placed_at n (x ∷ entries) (suc k) e h is =
    subst (λ (m : ℕ). IsPlaced m (item_of e)) (let same : suc n + k ≡ n + suc k = omega arith in same) (placed_at (suc n) entries k e h.1 is)

-- ---- what entries carry

carried_first : (w : Setting) (log more : Log) (n : ℕ) (e : Entry) → IsPlaced n (item_of e) → n ≤ length log → IsCarried w (log ++ more) e → IsCarried w log e
carried_first w log more n (CallEntry e) placed le h = carries_before w log more e (omega arith) h
carried_first w log more n (AdditionEntry p) placed le h = tt

all_carried_first : (w : Setting) (log more : Log) (n : ℕ) (entries : List Entry) → IsLogFrom n (items_of entries) → n + length entries ≤ length log → AllByRecursion (IsCarried w (log ++ more)) entries → AllByRecursion (IsCarried w log) entries
all_carried_first w log more n [] is le h = tt
all_carried_first w log more n (e ∷ entries) is le h =
    (carried_first w log more n e is.0 (omega arith) h.0, all_carried_first w log more (suc n) entries is.1 (omega arith) h.1)

item_first : (w : Setting) (log more : Log) (n : ℕ) (item : Item) → IsPlaced n item → n ≤ length log → IsItem w (log ++ more) item → IsItem w log item
item_first w log more n (CallItem call) placed le h = is_call_before w log more call (omega arith) h
item_first w log more n (AdditionItem p) placed le h = h

all_items_first : (w : Setting) (log more : Log) (n : ℕ) (items : Log) → IsLogFrom n items → n + length items ≤ length log → AllByRecursion (IsItem w (log ++ more)) items → AllByRecursion (IsItem w log) items
all_items_first w log more n [] is le h = tt
all_items_first w log more n (item ∷ items) is le h =
    (item_first w log more n item is.0 (omega arith) h.0, all_items_first w log more (suc n) items is.1 (omega arith) h.1)

-- a beginning of the entries
pub entries_first : (w : Setting) (entries more : List Entry) → AreEntriesOf w (entries ++ more) → AreEntriesOf w entries
entries_first w entries more are =
    let items = items_append entries more in
    let log = log_first 0 (items_of entries) (items_of more) (subst IsLog items are.log) in
    let count = items_count entries in
    record {
      begins = are.begins;
      log = log;
      items = all_items_first w (items_of entries) (items_of more) 0 (items_of entries) log (omega arith)
          (all_first (IsItem w (items_of entries ++ items_of more)) (items_of entries) (items_of more) (subst (λ (l : Log). AreItems w l) items are.items));
      runs = all_carried_first w (items_of entries) (items_of more) 0 entries log (omega arith)
          (all_first (IsCarried w (items_of entries ++ items_of more)) entries more (subst (λ (l : Log). AllByRecursion (IsCarried w l) (entries ++ more)) items are.runs));
    }

pub entries_taken : (w : Setting) (entries : List Entry) (n : ℕ) → AreEntriesOf w entries → AreEntriesOf w (take n entries)
entries_taken w entries n are = entries_first w (take n entries) (drop n entries) (subst (λ (l : List Entry). AreEntriesOf w l) (sym (take_drop entries n)) are)

-- what the law of one more entry says
abbrev pub OneMore : Type 0
OneMore = (w : Setting) (entries : List Entry) (e : Entry) → IsLog (items_of entries) → CarryRuns w entries → IsPlaced (length entries) (item_of e) → IsCarried w (items_of entries) e → CarryRuns w (entries ++ e ∷ [])

pub entries_snoc : (one : OneMore) (w : Setting) (entries : List Entry) (e : Entry) → AreEntriesOf w entries → IsItem w (items_of entries) (item_of e) → IsPlaced (length entries) (item_of e) → IsCarried w (items_of entries) e → AreEntriesOf w (entries ++ e ∷ [])
entries_snoc one w entries e are is placed carries =
    let items = sym (items_append entries (e ∷ [])) in
    let there = subst (λ (n : ℕ). IsPlaced n (item_of e)) (sym (items_count entries)) placed in
    record {
      begins = are.begins;
      log = subst IsLog items (is_log_snoc 0 (items_of entries) (item_of e) are.log (subst (λ (n : ℕ). IsPlaced n (item_of e)) (let same : length (items_of entries) ≡ 0 + length (items_of entries) = omega arith in same) there));
      items = subst (λ (l : Log). AreItems w l) items (are_items_snoc w (items_of entries) (item_of e) are.log are.items there is);
      runs = one w entries e are.log are.runs placed carries;
    }
