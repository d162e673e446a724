-- Bits of keys, looks and writes.
use Rattle.std.proofs.Common.{◌≡◌, ◌⊎◌, inl, inr, ℕ, zero, suc, ◌+◌, ◌≤◌, ◌<◌, ◌^◌, ◌*◌, ◌/◌, ◌%◌, Bool, true, false, cond, ◌&&◌, List, [], ◌∷◌, nat_eq, nat_lt, nat_le, refl, ap, ◌∙◌, arith}
use Rattle.std.proofs.lemmas.Bool.{and_parts, or_left, or_right, or_cases}
use Rattle.std.specs.Prelude.{IsTrue}
use Rattle.std.specs.List.{list_any, range_with_len}
use Rattle.std.specs.FinMap.{keys}
use Rattle.std.proofs.lemmas.Bool.Decides.{nat_tests}
use Rattle.schema.specs.declared.look.Look.{Look}
use Rattle.schema.specs.Rows.{Key, Writes, covers, any_covers, shares_key}
use Rattle.sig_lanes.specs.Signature.{bit_of, key_count, look_sets_bit, looks_set_bit, writes_set_bit, shares_bit}

same : (m n : ℕ) → nat_eq m n ≡ true → m ≡ n
same m n e = grind (arith, nat_tests)

equal : (n : ℕ) → nat_eq n n ≡ true
equal n = grind (arith, nat_tests)

few : (m n : ℕ) → nat_le m n ≡ true → m ≤ n
few m n e = grind (arith, nat_tests)

record Inside (look : Look) (k : Key) : Type 0 where
  table : look.table ≡ k.0
  from : look.lo ≤ k.1
  to : k.1 ≤ look.hi

inside : (look : Look) (k : Key) → covers look k ≡ true → Inside look k
inside look k e =
    let a = and_parts (nat_eq look.table k.0 && nat_le look.lo k.1) (nat_le k.1 look.hi) e in
    let b = and_parts (nat_eq look.table k.0) (nat_le look.lo k.1) a.0 in
    record { table = same look.table k.0 b.0; from = few look.lo k.1 b.1; to = few k.1 look.hi a.1 }

-- a number of a range passes where it is tested
in_range : (p : ℕ → Bool) (lo n k : ℕ) → lo ≤ k → k < lo + n → p k ≡ true → list_any p (range_with_len lo n) ≡ true
in_range p lo zero k le lt e = absurd (omega arith)
in_range p lo (suc n) k le lt e = elim (either lo k le) [
  | inl here ↦ or_left (p lo) _ (ap p here ∙ e)
  | inr later ↦ or_right (p lo) _ (in_range p (lo + 1) n k (omega arith) (omega arith) e)
]
  where
    either : (m n : ℕ) → m ≤ n → (m ≡ n) ⊎ (suc m ≤ n)
    either m n le = elim (nat_eq m n) as (λ b. nat_eq m n ≡ b → (m ≡ n) ⊎ (suc m ≤ n)) [ true ↦ λ e. inl (same m n e) | false ↦ λ e. inr (grind (arith, nat_tests)) ] refl

pub bit_is_few : (k : Key) → bit_of k < 1024
unfolding bit_of
bit_is_few k = upper ((k.1 * 0x9E3779B97F4A7C15 + k.0 * 0xC2B2AE3D27D4EB4F))
  where
    upper : (n : ℕ) → (n % 2 ^ 64) / 2 ^ 54 < 1024
    upper n = omega arith

look_sets : (look : Look) (k : Key) → covers look k ≡ true → look_sets_bit (bit_of k) look ≡ true
look_sets look k e =
    let i = inside look k e in
    let from = i.from in
    let to = i.to in
    either (nat_lt 16 (key_count look)) _ _ (below (bit_of k) (bit_is_few k))
    (in_range (λ key. nat_eq (bit_of (look.table, key)) (bit_of k)) look.lo (key_count look) k.1 from (omega arith)
    (ap (λ (table : ℕ). nat_eq (bit_of (table, k.1)) (bit_of k)) i.table ∙ equal (bit_of k)))
  where
    either : (b x y : Bool) → x ≡ true → y ≡ true → cond b x y ≡ true
    either true x y p q = p
    either false x y p q = q

    below : (n : ℕ) → n < 1024 → nat_lt n 1024 ≡ true
    below n lt = grind (arith, nat_tests)

looks_set : (looks : List Look) (k : Key) → any_covers looks k ≡ true → looks_set_bit looks (bit_of k) ≡ true
looks_set [] k e = absurd cc
looks_set (look ∷ looks) k e = elim (or_cases (covers look k) (any_covers looks k) e) [
  | inl here ↦ or_left (look_sets_bit (bit_of k) look) _ (look_sets look k here)
  | inr later ↦ or_right (look_sets_bit (bit_of k) look) _ (looks_set looks k later)
]

-- what passes one test passes a weaker one
any_weaker : (p q : Key → Bool) (ks : List Key) → ((k : Key) → p k ≡ true → q k ≡ true) → list_any p ks ≡ true → list_any q ks ≡ true
any_weaker p q [] h e = absurd cc
any_weaker p q (k ∷ ks) h e = elim (or_cases (p k) (list_any p ks) e) [
  | inl here ↦ or_left (q k) _ (h k here)
  | inr later ↦ or_right (q k) _ (any_weaker p q ks h later)
]

pub key_shares_bit : (looks : List Look) (writes : Writes) → IsTrue (shares_key looks writes) → IsTrue (shares_bit looks writes)
key_shares_bit looks writes e = any_weaker (any_covers looks) (λ k. looks_set_bit looks (bit_of k)) (keys writes) (looks_set looks) e

-- ---- the shared bit

-- one that passes, with its bit
of_one : (p : ℕ → Bool) (ks : List Key) → list_any (λ (k : Key). p (bit_of k)) ks ≡ true → (bit : ℕ) × (p bit ≡ true) × (list_any (λ (k : Key). nat_eq (bit_of k) bit) ks ≡ true)
of_one p [] e = absurd cc
of_one p (k ∷ ks) e = elim (or_cases (p (bit_of k)) (list_any (λ (k : Key). p (bit_of k)) ks) e) [
  | inl here ↦ (bit_of k, here, or_left (nat_eq (bit_of k) (bit_of k)) _ (equal (bit_of k)))
  | inr later ↦ let (bit, passes, set) = of_one p ks later in (bit, passes, or_right (nat_eq (bit_of k) bit) _ set)
]

pub of_both : (looks : List Look) (writes : Writes) → IsTrue (shares_bit looks writes) → (bit : ℕ) × IsTrue (looks_set_bit looks bit) × IsTrue (writes_set_bit writes bit)
of_both looks writes e = of_one (looks_set_bit looks) (keys writes) e

pub by_both : (looks : List Look) (writes : Writes) → ((bit : ℕ) × IsTrue (looks_set_bit looks bit) × IsTrue (writes_set_bit writes bit)) → IsTrue (shares_bit looks writes)
by_both looks writes (bit, read, written) =
    any_weaker (λ k. nat_eq (bit_of k) bit) (λ k. looks_set_bit looks (bit_of k)) (keys writes)
    (λ k e. ap (looks_set_bit looks) (same (bit_of k) bit e) ∙ read) written

-- ---- the bits of one look

-- where a number of a range passes, there is one
of_range : (p : ℕ → Bool) (lo n : ℕ) → list_any p (range_with_len lo n) ≡ true → (k : ℕ) × (lo ≤ k) × (k < lo + n) × (p k ≡ true)
of_range p lo zero e = absurd cc
of_range p lo (suc n) e = elim (or_cases (p lo) (list_any p (range_with_len (lo + 1) n)) e) [
  | inl here ↦ (lo, omega arith, omega arith, here)
  | inr later ↦ (
      let x = of_range p (lo + 1) n later in
      let from = x.1 in
      let to = x.2 in
      (x.0, omega arith, omega arith, x.3))
]

no_more : (n : ℕ) → n ≤ 16 → nat_lt 16 n ≡ false
no_more n le = grind (arith, nat_tests)

more : (n : ℕ) → 16 < n → nat_lt 16 n ≡ true
more n lt = grind (arith, nat_tests)

chosen : (b : Bool) (x y z : Bool) → cond b x y ≡ z → b ≡ false → y ≡ z
chosen true x y z e f = absurd cc
chosen false x y z e f = e

chosen_not : (b : Bool) (x y z : Bool) → y ≡ z → b ≡ false → cond b x y ≡ z
chosen_not true x y z e f = absurd cc
chosen_not false x y z e f = e

taken : (b : Bool) (x y z : Bool) → cond b x y ≡ z → b ≡ true → x ≡ z
taken true x y z e f = e
taken false x y z e f = absurd cc

take_it : (b : Bool) (x y z : Bool) → x ≡ z → b ≡ true → cond b x y ≡ z
take_it true x y z e f = e
take_it false x y z e f = absurd cc

pub short_sets : (look : Look) (bit : ℕ) → key_count look ≤ 16 → IsTrue (look_sets_bit bit look) → (key : ℕ) × (look.lo ≤ key) × (key ≤ look.hi) × (bit_of (look.table, key) ≡ bit)
short_sets look bit le e =
    let x = of_range (λ key. nat_eq (bit_of (look.table, key)) bit) look.lo (key_count look) (chosen (nat_lt 16 (key_count look)) _ _ true e (no_more (key_count look) le)) in
    let from = x.1 in
    let to = x.2 in
    (x.0, x.1, omega arith, same (bit_of (look.table, x.0)) bit x.3)

pub set_by_short : (look : Look) (bit : ℕ) → key_count look ≤ 16 → (key : ℕ) × (look.lo ≤ key) × (key ≤ look.hi) × (bit_of (look.table, key) ≡ bit) → IsTrue (look_sets_bit bit look)
set_by_short look bit le (key, from, to, is) =
    chosen_not (nat_lt 16 (key_count look)) _ _ true
    (in_range (λ k. nat_eq (bit_of (look.table, k)) bit) look.lo (key_count look) key from (omega arith) (ap (λ (b : ℕ). nat_eq b bit) is ∙ equal bit))
    (no_more (key_count look) le)

pub long_sets : (look : Look) (bit : ℕ) → 16 < key_count look → IsTrue (look_sets_bit bit look) → bit < 1024
long_sets look bit lt e = below bit (taken (nat_lt 16 (key_count look)) _ _ true e (more (key_count look) lt))
  where
    below : (n : ℕ) → nat_lt n 1024 ≡ true → n < 1024
    below n h = grind (arith, nat_tests)

pub set_by_long : (look : Look) (bit : ℕ) → 16 < key_count look → bit < 1024 → IsTrue (look_sets_bit bit look)
set_by_long look bit lt below = take_it (nat_lt 16 (key_count look)) _ _ true (is_below bit below) (more (key_count look) lt)
  where
    is_below : (n : ℕ) → n < 1024 → nat_lt n 1024 ≡ true
    is_below n h = grind (arith, nat_tests)
