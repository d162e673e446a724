-- Which calls a verdict compares with.
use Rattle.std.proofs.Common.{◌≡◌, inl, inr, ℕ, zero, suc, ◌+◌, ◌-◌, ◌≤◌, ◌<◌, Bool, true, false, cond, ◌&&◌, ◌||◌, List, [], ◌∷◌, ◌++◌, length, drop, slice_get, nat_eq, nat_le, is_some, Option, Some, None, refl, sym, ap, subst, ◌∙◌, arith}
use Rattle.std.proofs.lemmas.Bool.{and_parts, and_from, or_left, or_right, or_cases}
use Rattle.std.specs.Prelude.{IsTrue}
use Rattle.std.specs.List.{list_any}
use Rattle.std.proofs.lemmas.Bool.Decides.{nat_tests}
use Rattle.schema.specs.declared.look.Look.{Look}
use Rattle.sig_lanes.specs.Signature.{shares_bit}
use Rattle.log_model.specs.Log.{Call, DoneRequest, CertifiedItem, is_commit, conflicts, first_repeated}
use Rattle.certify.specs.Comparisons.{comparisons_from, comparisons_after, AreRising, IsCompared}
use Rattle.log_model.proofs.RunLemmas.{just}
use Rattle.certify.proofs.ListLemmas.{get_drop}

abbrev has : ℕ → List ℕ → Bool
has k xs = list_any (λ x. nat_eq x k) xs

any-append : (p : ℕ → Bool) (xs ys : List ℕ) → list_any p (xs ++ ys) ≡ (list_any p xs || list_any p ys)
any-append p [] ys = refl
any-append p (x ∷ xs) ys = elim (p x) as (λ b. (b || list_any p (xs ++ ys)) ≡ ((b || list_any p xs) || list_any p ys)) [ true ↦ refl | false ↦ any-append p xs ys ]

some_is : {X : Type 0} (x y : X) → just x ≡ just y → x ≡ y
some_is x y e = cc

-- ---- those of a list

-- the one at i is compared with
record ComparedAt (looks : List Look) (cs : List CertifiedItem) (i : ℕ) : Type 0 where
  c : CertifiedItem
  stands : slice_get cs i ≡ just c
  committed : is_commit c.verdict ≡ true
  shares : shares_bit looks c.writes ≡ true
  first : (j : ℕ) (d : CertifiedItem) → j < i → slice_get cs j ≡ just d → conflicts looks d ≡ false

abbrev here : List Look → ℕ → CertifiedItem → List ℕ
here looks n c = cond (is_commit c.verdict && shares_bit looks c.writes) (n ∷ []) []

here_is : (looks : List Look) (n k : ℕ) (c : CertifiedItem) → has k (here looks n c) ≡ true → (n ≡ k) × ((is_commit c.verdict && shares_bit looks c.writes) ≡ true)
here_is looks n k c e = elim (is_commit c.verdict && shares_bit looks c.writes) as (λ b. has k (cond b (n ∷ []) []) ≡ true → (n ≡ k) × (b ≡ true)) [
  | true ↦ λ h. ((elim (or_cases (nat_eq n k) false h) [ inl t ↦ grind (arith, nat_tests) | inr f ↦ absurd cc ]), refl)
  | false ↦ λ h. absurd cc
] e

-- no position below the first
none_below : (looks : List Look) (n k : ℕ) (cs : List CertifiedItem) → k < n → has k (comparisons_from looks n cs) ≡ true → ⊥
unfolding comparisons_from
none_below looks n k [] lt e = cc
none_below looks n k (c ∷ cs) lt e = elim (or_cases (has k (here looks n c)) _ (sym (any-append (λ x. nat_eq x k) (here looks n c) (cond (conflicts looks c) [] (comparisons_from looks (n + 1) cs))) ∙ e)) [
  | inl h ↦ let same = (here_is looks n k c h).0 in omega arith
  | inr h ↦ elim (conflicts looks c) as (λ b. has k (cond b [] (comparisons_from looks (n + 1) cs)) ≡ true → ⊥) [
    | true ↦ λ f. cc
    | false ↦ λ f. none_below looks (n + 1) k cs (omega arith) f
  ] h
]

before : (looks : List Look) (c : CertifiedItem) (cs : List CertifiedItem) (i : ℕ) → conflicts looks c ≡ false → ((j : ℕ) (d : CertifiedItem) → j < i → slice_get cs j ≡ just d → conflicts looks d ≡ false)
    → (j : ℕ) (d : CertifiedItem) → j < suc i → slice_get (c ∷ cs) j ≡ just d → conflicts looks d ≡ false
before looks c cs i t h zero d lt e = subst (λ (x : CertifiedItem). conflicts looks x ≡ false) (some_is c d e) t
before looks c cs i t h (suc j) d lt e = h j d (omega arith) e

from_means : (looks : List Look) (n i : ℕ) (cs : List CertifiedItem) → has (n + i) (comparisons_from looks n cs) ≡ true → ComparedAt looks cs i
unfolding comparisons_from
from_means looks n i [] e = absurd cc
from_means looks n zero (c ∷ cs) e = elim (or_cases (has (n + 0) (here looks n c)) _ (sym (any-append (λ x. nat_eq x (n + 0)) (here looks n c) (cond (conflicts looks c) [] (comparisons_from looks (n + 1) cs))) ∙ e)) [
  | inl h ↦
      let two = and_parts (is_commit c.verdict) (shares_bit looks c.writes) (here_is looks n (n + 0) c h).1 in
      record { c = c; stands = refl; committed = two.0; shares = two.1; first = λ j d lt. absurd (omega arith) }
  | inr h ↦ absurd (elim (conflicts looks c) as (λ b. has (n + 0) (cond b [] (comparisons_from looks (n + 1) cs)) ≡ true → ⊥) [
    | true ↦ λ f. cc
    | false ↦ λ f. none_below looks (n + 1) (n + 0) cs (omega arith) f
  ] h)
]
from_means looks n (suc i) (c ∷ cs) e = elim (or_cases (has (n + suc i) (here looks n c)) _ (sym (any-append (λ x. nat_eq x (n + suc i)) (here looks n c) (cond (conflicts looks c) [] (comparisons_from looks (n + 1) cs))) ∙ e)) [
  | inl h ↦ absurd (let same = (here_is looks n (n + suc i) c h).0 in omega arith)
  | inr h ↦ elim (conflicts looks c) as (λ b. conflicts looks c ≡ b → has (n + suc i) (cond b [] (comparisons_from looks (n + 1) cs)) ≡ true → ComparedAt looks (c ∷ cs) (suc i)) [
    | true ↦ λ t f. absurd cc
    | false ↦ λ t f.
        let more : n + suc i ≡ n + 1 + i = omega arith in
        let at = from_means looks (n + 1) i cs (ap (λ k. has k (comparisons_from looks (n + 1) cs)) (sym more) ∙ f) in
        record { c = at.c; stands = at.stands; committed = at.committed; shares = at.shares; first = before looks c cs i t at.first }
  ] refl h
]

is_has : (k : ℕ) → has k (k ∷ []) ≡ true
is_has k = let t : nat_eq k k ≡ true = grind (arith, nat_tests) in or_left (nat_eq k k) false t

means_from : (looks : List Look) (n i : ℕ) (cs : List CertifiedItem) → ComparedAt looks cs i → has (n + i) (comparisons_from looks n cs) ≡ true
unfolding comparisons_from
means_from looks n i [] at = absurd (let e = at.stands in cc)
means_from looks n zero (c ∷ cs) at =
    let same = some_is c at.c at.stands in
    let test : (is_commit c.verdict && shares_bit looks c.writes) ≡ true =
    subst (λ (x : CertifiedItem). (is_commit x.verdict && shares_bit looks x.writes) ≡ true) (sym same) (and_from (is_commit at.c.verdict) (shares_bit looks at.c.writes) at.committed at.shares) in
    let none : n + 0 ≡ n = omega arith in
    any-append (λ x. nat_eq x (n + 0)) (here looks n c) (cond (conflicts looks c) [] (comparisons_from looks (n + 1) cs))
    ∙ or_left (has (n + 0) (here looks n c)) _ (ap (λ b. has (n + 0) (cond b (n ∷ []) [])) test ∙ ap (λ k. has k (n ∷ [])) none ∙ is_has n)
means_from looks n (suc i) (c ∷ cs) at =
    let apart : conflicts looks c ≡ false = at.first 0 c (omega arith) refl in
    let more : n + suc i ≡ n + 1 + i = omega arith in
    any-append (λ x. nat_eq x (n + suc i)) (here looks n c) (cond (conflicts looks c) [] (comparisons_from looks (n + 1) cs))
    ∙ or_right (has (n + suc i) (here looks n c)) _ (ap (λ b. has (n + suc i) (cond b [] (comparisons_from looks (n + 1) cs))) apart
    ∙ ap (λ k. has k (comparisons_from looks (n + 1) cs)) more
    ∙ means_from looks (n + 1) i cs (record { c = at.c; stands = at.stands; committed = at.committed; shares = at.shares; first = λ j d lt e. at.first (suc j) d (omega arith) e }))

-- ---- those of a verdict

recent : (n m : ℕ) → nat_le n m ≡ true → n ≤ m
recent n m e = grind (arith, nat_tests)

is_recent : (n m : ℕ) → n ≤ m → nat_le n m ≡ true
is_recent n m le = grind (arith, nat_tests)

not_both : (b : Bool) → b ≡ true → b ≡ false → ⊥
not_both b t f = cc

false_if_not : (b : Bool) → (b ≡ true → ⊥) → b ≡ false
false_if_not true h = absurd (h refl)
false_if_not false h = refl

-- positions below the first are none of them, so each is the snapshot's, one and something
split : (looks : List Look) (s k : ℕ) (cs : List CertifiedItem) → has k (comparisons_from looks (s + 1) cs) ≡ true → (i : ℕ) × (k ≡ s + 1 + i)
split looks s k cs e = elim (nat_le (s + 1) k) as (λ b. nat_le (s + 1) k ≡ b → (i : ℕ) × (k ≡ s + 1 + i)) [
  | true ↦ λ t. let le = recent (s + 1) k t in (k - (s + 1), omega arith)
  | false ↦ λ f. absurd (let lt : k < s + 1 = grind (arith, nat_tests) in none_below looks (s + 1) k cs lt e)
] refl

compared : (window : ℕ) (done : List DoneRequest) (past : List CertifiedItem) (call : Call) (looks : List Look) (position : ℕ) → first_repeated done past call ≡ None → length past - call.snapshot ≤ window → has position (comparisons_from looks (call.snapshot + 1) (drop call.snapshot past)) ≡ true
    → IsCompared window done past call looks position
compared window done past call looks position new near e =
    let (i, is) = split looks call.snapshot position (drop call.snapshot past) e in
    let at = from_means looks (call.snapshot + 1) i (drop call.snapshot past) (ap (λ k. has k (comparisons_from looks (call.snapshot + 1) (drop call.snapshot past))) (sym is) ∙ e) in
    record {
      new = new;
      recent = near;
      since = omega arith;
      before = call.snapshot + i;
      place = omega arith;
      certificate = at.c;
      stands = sym (get_drop past call.snapshot i) ∙ at.stands;
      committed = at.committed;
      shares = at.shares;
      first = λ other d le lt stands test.
          let j = other - call.snapshot in
          let back : call.snapshot + (other - call.snapshot) ≡ other = omega arith in
          not_both (conflicts looks d) test (at.first (other - call.snapshot) d (omega arith) (get_drop past call.snapshot (other - call.snapshot) ∙ ap (slice_get past) back ∙ stands));
    }

pub compared_if : (window : ℕ) (done : List DoneRequest) (past : List CertifiedItem) (call : Call) (looks : List Look) (position : ℕ) → IsTrue (list_any (λ x. nat_eq x position) (comparisons_after window done past call looks)) → IsCompared window done past call looks position
unfolding comparisons_after
compared_if window done past call looks position e = by (first_repeated done past call) refl e
  where
    by : (o : Option ℕ) → first_repeated done past call ≡ o → has position (cond (is_some o) [] (cond (nat_le (length past - call.snapshot) window) (comparisons_from looks (call.snapshot + 1) (drop call.snapshot past)) [])) ≡ true → IsCompared window done past call looks position
    by (Some n) f h = absurd cc
    by None f h = elim (nat_le (length past - call.snapshot) window) as (λ b. nat_le (length past - call.snapshot) window ≡ b → has position (cond b (comparisons_from looks (call.snapshot + 1) (drop call.snapshot past)) []) ≡ true → IsCompared window done past call looks position) [
      | true ↦ λ t g. compared window done past call looks position f (recent (length past - call.snapshot) window t) g
      | false ↦ λ t g. absurd cc
    ] refl h

pub if_compared : (window : ℕ) (done : List DoneRequest) (past : List CertifiedItem) (call : Call) (looks : List Look) (position : ℕ) → IsCompared window done past call looks position → IsTrue (list_any (λ x. nat_eq x position) (comparisons_after window done past call looks))
unfolding comparisons_after
if_compared window done past call looks position is =
    let since = is.since in
    let place = is.place in
    let i = is.before - call.snapshot in
    let back : call.snapshot + (is.before - call.snapshot) ≡ is.before = omega arith in
    let sum : call.snapshot + 1 + (is.before - call.snapshot) ≡ position = omega arith in
    ap (λ (o : Option ℕ). has position (cond (is_some o) [] (cond (nat_le (length past - call.snapshot) window) (comparisons_from looks (call.snapshot + 1) (drop call.snapshot past)) []))) is.new
    ∙ ap (λ b. has position (cond b (comparisons_from looks (call.snapshot + 1) (drop call.snapshot past)) [])) (is_recent (length past - call.snapshot) window is.recent)
    ∙ ap (λ k. has k (comparisons_from looks (call.snapshot + 1) (drop call.snapshot past))) (sym sum)
    ∙ means_from looks (call.snapshot + 1) (is.before - call.snapshot) (drop call.snapshot past) (record {
      c = is.certificate;
      stands = get_drop past call.snapshot (is.before - call.snapshot) ∙ ap (slice_get past) back ∙ is.stands;
      committed = is.committed;
      shares = is.shares;
      first = λ j d lt e. false_if_not (conflicts looks d) (λ test. is.first (call.snapshot + j) d (omega arith) (omega arith) (sym (get_drop past call.snapshot j) ∙ e) test);
    })

-- ---- they rise

-- the first of a list, where there is one, is greater
abbrev AreAbove : ℕ → List ℕ → Type 0
AreAbove n [] = Unit {0}
AreAbove n (m ∷ later) = n < m

with_lesser : (n : ℕ) (xs : List ℕ) → AreAbove n xs → AreRising xs → AreRising (n ∷ xs)
with_lesser n [] above rising = tt
with_lesser n (m ∷ later) above rising = (above, rising)

record Rises (n : ℕ) (xs : List ℕ) : Type 0 where
  rising : AreRising xs
  above : (k : ℕ) → k < n → AreAbove k xs

none_rises : (n : ℕ) → Rises n []
none_rises n = record { rising = tt; above = λ k lt. tt }

lower : (n : ℕ) (xs : List ℕ) → Rises (n + 1) xs → Rises n xs
lower n xs r = record { rising = r.rising; above = λ k lt. r.above k (omega arith) }

from_rises : (looks : List Look) (n : ℕ) (cs : List CertifiedItem) → Rises n (comparisons_from looks n cs)
unfolding comparisons_from
from_rises looks n [] = none_rises n
from_rises looks n (c ∷ cs) =
    elim (conflicts looks c) as (λ b. Rises n (cond (is_commit c.verdict && shares_bit looks c.writes) (n ∷ []) [] ++ cond b [] (comparisons_from looks (n + 1) cs))) [
      | true ↦ elim (is_commit c.verdict && shares_bit looks c.writes) as (λ b. Rises n (cond b (n ∷ []) [] ++ [])) [
        | true ↦ record { rising = tt; above = λ k lt. lt }
        | false ↦ none_rises n
      ]
      | false ↦
          let rest = from_rises looks (n + 1) cs in
          elim (is_commit c.verdict && shares_bit looks c.writes) as (λ b. Rises n (cond b (n ∷ []) [] ++ comparisons_from looks (n + 1) cs)) [
            | true ↦ record { rising = with_lesser n (comparisons_from looks (n + 1) cs) (rest.above n (omega arith)) rest.rising; above = λ k lt. lt }
            | false ↦ lower n (comparisons_from looks (n + 1) cs) rest
          ]
    ]

pub comparisons_rise : (window : ℕ) (done : List DoneRequest) (past : List CertifiedItem) (call : Call) (looks : List Look) → AreRising (comparisons_after window done past call looks)
unfolding comparisons_after
comparisons_rise window done past call looks = elim (is_some (first_repeated done past call)) as (λ a. AreRising (cond a [] (cond (nat_le (length past - call.snapshot) window) (comparisons_from looks (call.snapshot + 1) (drop call.snapshot past)) []))) [
  | true ↦ tt
  | false ↦ elim (nat_le (length past - call.snapshot) window) as (λ b. AreRising (cond b (comparisons_from looks (call.snapshot + 1) (drop call.snapshot past)) [])) [
    | true ↦ (from_rises looks (call.snapshot + 1) (drop call.snapshot past)).rising
    | false ↦ tt
  ]
]
