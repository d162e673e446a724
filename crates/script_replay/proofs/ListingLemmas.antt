-- Rows that are listed one after another, as looks find them.
use Rattle.std.proofs.Common.{◌≡◌, ◌≢◌, ℕ, ◌+◌, ◌<◌, ◌≤◌, inl, inr, eqb, Bool, true, false, cond, List, [], ◌∷◌, ◌++◌, refl, sym, ap, subst, ◌∙◌, arith}
use Rattle.std.proofs.lemmas.List.{append_assoc, append-nil}
use Rattle.std.proofs.lemmas.Bool.{eqb-true, eqb-false}
use Rattle.std.proofs.lemmas.Map.Views.{tells_apart}
use Rattle.std.specs.Prelude.{T, ◌^◌, Option, Some, None, IsSome, IsTrue, ◌↔◌}
use Rattle.std.specs.declared.cmp.Ordering.{Ordering}
use Rattle.std.specs.declared.cmp.Ordering.TheVariants.{Less, Equal, Greater}
use Rattle.std.specs.Ordering.{nat_cmp, ordering_then, is_lt, is_eq, eq_by_cmp, MatchOrdering}
use Rattle.std.specs.Cmp.{ranks, tied_itself}
use Rattle.std.specs.FinMap.{get, entries, entries_sorted, get-entries, find, is_sorted}
use Rattle.std.specs.FinMap.Entries.{below_all}
use Rattle.schema.specs.declared.look.Look.{Look}
use Rattle.schema.specs.declared.limits.TheConstants.{MAX_TABLE}
use Rattle.schema.specs.Rows.{Key, key_cmp, key_cmp_total, key_cmp-IsAntisymmetric, Rows, covers, IsFirst, IsVacant}
use Rattle.schema.proofs.SortedLemmas.{first, second}
use Rattle.script_replay.specs.Listing.{IsBefore, IsBehind, IsRowKey, HasRowKeys, Each, AreBefore}

abbrev pub Listed : Type 0
Listed = List (Key × List ℕ)

-- ---- keys

less_by : (a b : Key) (o r : Ordering) → MatchOrdering o (a.0 < b.0) (a.0 ≡ b.0) (b.0 < a.0) → MatchOrdering r (a.1 < b.1) (a.1 ≡ b.1) (b.1 < a.1)
    → T (is_lt (ordering_then o r)) → IsBefore a b
less_by a b Less r is more less = inl is
less_by a b Equal Less is more less = inr (is, more)
less_by a b Equal Equal is more less = absurd less
less_by a b Equal Greater is more less = absurd less
less_by a b Greater r is more less = absurd less

less_is : (a b : Key) → T (is_lt (key_cmp a b)) → IsBefore a b
less_is a b = less_by a b (nat_cmp a.0 b.0) (nat_cmp a.1 b.1) (ranks a.0 b.0) (ranks a.1 b.1)

apart_by : (q k p : Key) → IsBehind q p → IsBefore k p → q ≡ k → ⊥
apart_by q k p (inl past) (inl less) same = let e : q.0 ≡ k.0 = ap (λ (x : Key). x.0) same in absurd (omega arith)
apart_by q k p (inl past) (inr (is, less)) same = let e : q.0 ≡ k.0 = ap (λ (x : Key). x.0) same in absurd (omega arith)
apart_by q k p (inr (at, past)) (inl less) same = let e : q.0 ≡ k.0 = ap (λ (x : Key). x.0) same in absurd (omega arith)
apart_by q k p (inr (at, past)) (inr (is, less)) same = let e : q.1 ≡ k.1 = ap (λ (x : Key). x.1) same in absurd (omega arith)

before_more : (k p r : Key) → IsBefore k p → IsBehind r p → IsBefore k r
before_more k p r (inl less) (inl past) = inl (omega arith)
before_more k p r (inl less) (inr (at, past)) = inl (omega arith)
before_more k p r (inr (is, less)) (inl past) = inl (omega arith)
before_more k p r (inr (is, less)) (inr (at, past)) = inr (is ∙ at, omega arith)

all_before : (p r : Key) (listed : Listed) → IsBehind r p → Each (λ k. IsBefore k p) listed → Each (λ k. IsBefore k r) listed
all_before p r [] past h = tt
all_before p r (x ∷ listed) past h = (before_more x.0 p r h.0 past, all_before p r listed past h.1)

all_append : (P : Key → Type 0) (a b : Listed) → Each P a → Each P b → Each P (a ++ b)
all_append P [] b h k = k
all_append P (x ∷ a) b h k = (h.0, all_append P a b h.1 k)

all_behind : (P : Key → Type 0) (a b : Listed) → Each P (a ++ b) → Each P b
all_behind P [] b h = h
all_behind P (x ∷ a) b h = all_behind P a b h.1

-- ---- rows that stand

found_past : (q k : Key) (o p : Option (List ℕ)) (same : Bool) → same ≡ false → cond same o p ≡ p
found_past q k o p true e = absurd cc
found_past q k o p false e = refl

other_key : (q k : Key) → (q ≡ k → ⊥) → eq_by_cmp key_cmp q k ≡ false
other_key q k apart =
    elim (eq_by_cmp key_cmp q k) as (λ b. eq_by_cmp key_cmp q k ≡ b → b ≡ false) [ true ↦ λ e. absurd (apart (tells_apart {R = key_cmp} key_cmp-IsAntisymmetric q k e)) | false ↦ λ e. refl ] refl

-- a row behind the listed ones is one of the others
find_others : (q p : Key) (listed others : Listed) → IsBehind q p → Each (λ k. IsBefore k p) listed → find key_cmp q (listed ++ others) ≡ find key_cmp q others
find_others q p [] others past h = refl
find_others q p (x ∷ listed) others past h =
    found_past q x.0 (Some x.1) (find key_cmp q (listed ++ others)) (eq_by_cmp key_cmp q x.0) (other_key q x.0 (apart_by q x.0 p past h.0)) ∙ find_others q p listed others past h.1

find_here : (x : Key × List ℕ) (xs : Listed) → find key_cmp x.0 (x ∷ xs) ≡ Some x.1
find_here x xs = ap (λ o. cond (is_eq o) (Some x.1) (find key_cmp x.0 xs)) (tied_itself key_cmp_total x.0)

some_past : (b : Bool) (x : List ℕ) (o : Option (List ℕ)) → IsSome o → IsSome (cond b (Some x) o)
some_past true x o h = refl
some_past false x o h = h

-- what holds of each key at which a row stands
all_of : (P : Key → Type 0) (xs : Listed) → ((q : Key) → IsSome (find key_cmp q xs) → P q) → Each P xs
all_of P [] h = tt
all_of P (x ∷ xs) h = (
  h x.0 (subst IsSome (sym (find_here x xs)) refl),
  all_of P xs (λ q some. h q (some_past (eq_by_cmp key_cmp q x.0) x.1 (find key_cmp q xs) some)),
)

others_stand : (P : Key → Type 0) (rows : Rows) (listed others : Listed) → listed ++ others ≡ entries rows → ((q : Key) → IsSome (get rows q) → P q) → Each P others
others_stand P rows listed others whole h =
    all_behind P listed others (subst (Each P) (sym whole)
    (all_of P (entries rows) (λ q some. h q (subst IsSome (sym (get-entries rows q)) some))))

-- ---- one row more

-- the first of the others
behind_head : (h : Key × List ℕ) (tail : Listed) → T (below_all key_cmp h.0 tail) → Each (λ k. IsBehind k (h.0.0, h.0.1 + 1)) tail
behind_head h [] below = tt
behind_head h (x ∷ tail) below = (step (less_is h.0 x.0 (first (is_lt (key_cmp h.0 x.0)) (below_all key_cmp h.0 tail) below)), behind_head h tail (second (is_lt (key_cmp h.0 x.0)) (below_all key_cmp h.0 tail) below))
  where
    step : IsBefore h.0 x.0 → IsBehind x.0 (h.0.0, h.0.1 + 1)
    step (inl less) = inl less
    step (inr (is, less)) = inr (is, omega arith)

below_found : (h q : Key) (row : List ℕ) (tail : Listed) → T (below_all key_cmp h tail) → find key_cmp q tail ≡ Some row → IsBefore h q
below_found h q row [] below e = absurd cc
below_found h q row (x ∷ tail) below e =
    elim (eq_by_cmp key_cmp q x.0) as (λ b. eq_by_cmp key_cmp q x.0 ≡ b → cond b (Some x.1) (find key_cmp q tail) ≡ Some row → IsBefore h q) [
      | true ↦ λ same f. subst (IsBefore h) (sym (tells_apart {R = key_cmp} key_cmp-IsAntisymmetric q x.0 same)) (less_is h x.0 (first (is_lt (key_cmp h x.0)) (below_all key_cmp h tail) below))
      | false ↦ λ same f. below_found h q row tail (second (is_lt (key_cmp h x.0)) (below_all key_cmp h tail) below) f
    ] refl e

abbrev pub look_of : ℕ → ℕ → ℕ → Look
look_of t lo hi = record { table = t; lo = lo; hi = hi }

abbrev pub Covers : Type 0
Covers = (look : Look) (k : Key) → IsTrue (covers look k) ↔ ((look.table ≡ k.0) × (look.lo ≤ k.1) × (k.1 ≤ look.hi))

pair_is : (h : Key × List ℕ) (q : Key) (row : List ℕ) → q ≡ h.0 → Some h.1 ≡ Some row → h ≡ (q, row)
pair_is h q row key is = let same : h.1 ≡ row = cc in subst (λ (k : Key). h ≡ (k, row)) (sym key) (ap (λ (bytes : List ℕ). (h.0, bytes)) same)

-- no row of the look stands before its first
none_between : (t lo hi k : ℕ) (h : Key) (row : List ℕ) (rows : Rows) → Covers → k ≤ hi → IsFirst (look_of t lo hi) rows (t, k) row → IsBehind h (t, lo) → IsBefore h (t, k) → IsSome (get rows h) → ⊥
none_between t lo hi k h row rows covers_is top f (inl past) (inl less) stands = absurd (omega arith)
none_between t lo hi k h row rows covers_is top f (inl past) (inr (is, less)) stands = absurd (omega arith)
none_between t lo hi k h row rows covers_is top f (inr (at, past)) (inl less) stands = absurd (omega arith)
none_between t lo hi k h row rows covers_is top f (inr (at, past)) (inr (is, less)) stands =
    let least : k ≤ h.1 = f.least h ((covers_is (look_of t lo hi) h).1 (at, past, omega arith)) stands in absurd (omega arith)

head_is : (t lo hi k : ℕ) (h : Key × List ℕ) (tail : Listed) (row : List ℕ) (rows : Rows) → Covers → k ≤ hi → IsFirst (look_of t lo hi) rows (t, k) row → IsBehind h.0 (t, lo) → IsSome (get rows h.0)
    → T (below_all key_cmp h.0 tail) → find key_cmp (t, k) (h ∷ tail) ≡ Some row → h ≡ ((t, k), row)
head_is t lo hi k h tail row rows covers_is top f past stands below e =
    elim (eq_by_cmp key_cmp (t, k) h.0) as (λ b. eq_by_cmp key_cmp (t, k) h.0 ≡ b → cond b (Some h.1) (find key_cmp (t, k) tail) ≡ Some row → h ≡ ((t, k), row)) [
      | true ↦ λ same g. pair_is h (t, k) row (tells_apart {R = key_cmp} key_cmp-IsAntisymmetric (t, k) h.0 same) g
      | false ↦ λ same g. absurd (none_between t lo hi k h.0 row rows covers_is top f past (below_found h.0 (t, k) row tail below g) stands)
    ] refl e

more_by : (t lo hi k : ℕ) (row : List ℕ) (rows : Rows) (listed others : Listed) → Covers → lo ≤ k → k ≤ hi → IsFirst (look_of t lo hi) rows (t, k) row → listed ++ others ≡ entries rows
    → Each (λ k. IsBefore k (t, lo)) listed → Each (λ k. IsBehind k (t, lo)) others → Each (λ k. IsSome (get rows k)) others → T (is_sorted key_cmp others) → find key_cmp (t, k) others ≡ Some row
    → AreBefore (t, k + 1) (listed ++ ((t, k), row) ∷ []) rows
more_by t lo hi k row rows listed [] covers_is low top f whole before behind stand rise e = absurd cc
more_by t lo hi k row rows listed (h ∷ tail) covers_is low top f whole before behind stand rise e =
    let below = first (below_all key_cmp h.0 tail) (is_sorted key_cmp tail) rise in
    let head : h ≡ ((t, k), row) = head_is t lo hi k h tail row rows covers_is top f behind.0 stand.0 below e in
    let key : h.0 ≡ (t, k) = ap (λ (x : Key × List ℕ). x.0) head in
    record {
      others = tail;
      whole = append_assoc listed (((t, k), row) ∷ []) tail ∙ ap (λ (x : Key × List ℕ). listed ++ (x ∷ tail)) (sym head) ∙ whole;
      before = all_append (λ q. IsBefore q (t, k + 1)) listed (((t, k), row) ∷ []) (all_before (t, lo) (t, k + 1) listed (inr (refl, omega arith)) before) (inr (refl, omega arith), tt);
      behind = subst (λ (q : Key). Each (λ k. IsBehind k (q.0, q.1 + 1)) tail) key (behind_head h tail below);
      rise = second (below_all key_cmp h.0 tail) (is_sorted key_cmp tail) rise;
    }

-- the row that a look finds first is the next
pub one_more : (t lo hi k : ℕ) (row : List ℕ) (rows : Rows) (listed : Listed) → Covers → lo ≤ k → k ≤ hi → IsFirst (look_of t lo hi) rows (t, k) row → AreBefore (t, lo) listed rows
    → AreBefore (t, k + 1) (listed ++ ((t, k), row) ∷ []) rows
one_more t lo hi k row rows listed covers_is low top f b =
    more_by t lo hi k row rows listed b.others covers_is low top f b.whole b.before b.behind (others_stand (λ k. IsSome (get rows k)) rows listed b.others b.whole (λ q some. some)) b.rise
    (sym (find_others (t, k) (t, lo) listed b.others (inr (refl, low)) b.before) ∙ ap (find key_cmp (t, k)) b.whole ∙ sym (get-entries rows (t, k)) ∙ f.stands)

-- ---- tables

pub none_listed : (rows : Rows) → HasRowKeys rows → AreBefore (1, 0) [] rows
none_listed rows are = record {
  others = entries rows;
  whole = refl;
  before = tt;
  behind = all_from (entries rows) (all_of IsRowKey (entries rows) (λ q some. are q (subst IsSome (sym (get-entries rows q)) some)));
  rise = entries_sorted rows;
}
  where
    from_first : (k : Key) → IsRowKey k → IsBehind k (1, 0)
    from_first k (low, top, word) = elim (eqb 1 k.0) as (λ b. eqb 1 k.0 ≡ b → IsBehind k (1, 0)) [
      | true ↦ λ e. inr (eqb-true 1 k.0 e, omega arith)
      | false ↦ λ e. let apart : 1 ≢ k.0 = eqb-false 1 k.0 e in inl (omega arith)
    ] refl

    all_from : (xs : Listed) → Each IsRowKey xs → Each (λ k. IsBehind k (1, 0)) xs
    all_from [] h = tt
    all_from (x ∷ xs) h = (from_first x.0 h.0, all_from xs h.1)

next_table : (t lo hi : ℕ) (k : Key) (rows : Rows) → Covers → 2 ^ 64 ≤ hi + 1 → IsVacant (look_of t lo hi) rows → IsBehind k (t, lo) → IsSome (get rows k) → IsRowKey k → IsBehind k (t + 1, 0)
next_table t lo hi k rows covers_is all none (inl past) stands fits = elim (eqb (t + 1) k.0) as (λ b. eqb (t + 1) k.0 ≡ b → IsBehind k (t + 1, 0)) [
  | true ↦ λ e. inr (eqb-true (t + 1) k.0 e, omega arith)
  | false ↦ λ e. let apart : t + 1 ≢ k.0 = eqb-false (t + 1) k.0 e in inl (omega arith)
] refl
next_table t lo hi k rows covers_is all none (inr (at, past)) stands (low, top, word) =
    let gone : get rows k ≡ None = none k ((covers_is (look_of t lo hi) k).1 (at, past, omega arith)) in
    absurd (let no : IsSome (get rows k) = stands in let x = subst IsSome gone no in cc)

all_next : (t lo hi : ℕ) (rows : Rows) (xs : Listed) → Covers → 2 ^ 64 ≤ hi + 1 → IsVacant (look_of t lo hi) rows → Each (λ k. IsBehind k (t, lo)) xs → Each (λ k. IsSome (get rows k)) xs → Each IsRowKey xs
    → Each (λ k. IsBehind k (t + 1, 0)) xs
all_next t lo hi rows [] covers_is all none behind stand fit = tt
all_next t lo hi rows (x ∷ xs) covers_is all none behind stand fit =
    (next_table t lo hi x.0 rows covers_is all none behind.0 stand.0 fit.0, all_next t lo hi rows xs covers_is all none behind.1 stand.1 fit.1)

-- where a look finds none up to the greatest key the next row is of another table
pub table_listed : (t lo hi : ℕ) (rows : Rows) (listed : Listed) → Covers → HasRowKeys rows → 2 ^ 64 ≤ hi + 1 → IsVacant (look_of t lo hi) rows → AreBefore (t, lo) listed rows → AreBefore (t + 1, 0) listed rows
table_listed t lo hi rows listed covers_is are all none b = record {
  others = b.others;
  whole = b.whole;
  before = all_before (t, lo) (t + 1, 0) listed (inl (omega arith)) b.before;
  behind = all_next t lo hi rows b.others covers_is all none b.behind (others_stand (λ k. IsSome (get rows k)) rows listed b.others b.whole (λ q some. some)) (others_stand IsRowKey rows listed b.others b.whole are);
  rise = b.rise;
}

-- and so behind the greatest key
pub table_full : (t lo : ℕ) (rows : Rows) (listed : Listed) → HasRowKeys rows → 2 ^ 64 ≤ lo → AreBefore (t, lo) listed rows → AreBefore (t + 1, 0) listed rows
table_full t lo rows listed are past b = record {
  others = b.others;
  whole = b.whole;
  before = all_before (t, lo) (t + 1, 0) listed (inl (omega arith)) b.before;
  behind = all_past b.others b.behind (others_stand IsRowKey rows listed b.others b.whole are);
  rise = b.rise;
}
  where
    past_by : (k : Key) → IsBehind k (t, lo) → IsRowKey k → IsBehind k (t + 1, 0)
    past_by k (inl next) fits = elim (eqb (t + 1) k.0) as (λ b. eqb (t + 1) k.0 ≡ b → IsBehind k (t + 1, 0)) [
      | true ↦ λ e. inr (eqb-true (t + 1) k.0 e, omega arith)
      | false ↦ λ e. let apart : t + 1 ≢ k.0 = eqb-false (t + 1) k.0 e in inl (omega arith)
    ] refl
    past_by k (inr (at, more)) (low, top, word) = absurd (omega arith)

    all_past : (xs : Listed) → Each (λ k. IsBehind k (t, lo)) xs → Each IsRowKey xs → Each (λ k. IsBehind k (t + 1, 0)) xs
    all_past [] behind fit = tt
    all_past (x ∷ xs) behind fit = (past_by x.0 behind.0 fit.0, all_past xs behind.1 fit.1)

-- behind the last table all are listed
pub all_listed : (t : ℕ) (rows : Rows) (listed : Listed) → HasRowKeys rows → MAX_TABLE < t → AreBefore (t, 0) listed rows → listed ≡ entries rows
all_listed t rows listed are past b = sym (append-nil listed) ∙ ap (λ (xs : Listed). listed ++ xs) (sym (none b.others b.behind (others_stand IsRowKey rows listed b.others b.whole are))) ∙ b.whole
  where
    beyond : (k : Key) → IsBehind k (t, 0) → IsRowKey k → ⊥
    beyond k (inl more) (low, top, word) = absurd (omega arith)
    beyond k (inr (at, more)) (low, top, word) = absurd (omega arith)

    none : (xs : Listed) → Each (λ k. IsBehind k (t, 0)) xs → Each IsRowKey xs → xs ≡ []
    none [] behind fit = refl
    none (x ∷ xs) behind fit = absurd (beyond x.0 behind.0 fit.0)
