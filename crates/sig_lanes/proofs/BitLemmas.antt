-- Bits of words, and unions of bits.
use Rattle.std.proofs.Common.{◌≡◌, ◌≢◌, ◌⊎◌, inl, inr, ℕ, zero, suc, ◌+◌, ◌≤◌, ◌<◌, ◌^◌, ◌*◌, ◌/◌, ◌%◌, Bool, true, false, ◌||◌, List, [], ◌∷◌, nat_eq, length, get_or, drop, refl, sym, ap, ◌∙◌, arith}
use Rattle.std.specs.List.{list_any, range_with_len}
use Rattle.std.proofs.lemmas.Bool.Decides.{nat_tests}
use Rattle.std.proofs.lemmas.List.{drop_more}
use Rattle.std.specs.Int.{bit_at, w64}
use Rattle.std.specs.Prelude.{bit_or, slice_set}
use Rattle.std.proofs.lemmas.Nat.Bits.{bit_at-zero, bit_at_ones, bit_at_set_same, bit_at_set_other}
use Rattle.std.proofs.lemmas.Simd.{get_or-replicate}
use Rattle.std.specs.Prelude.{replicate}
use Rattle.std.proofs.lemmas.List.{get_or-set_same, get_or-set_other}
use Rattle.sig_lanes.specs.Bits.{has_bit, Meet}

pub or_false : (a : Bool) → (a || false) ≡ a
or_false true = refl
or_false false = refl

pub or_true : (a b : Bool) → b ≡ true → (a || b) ≡ true
or_true true b e = refl
or_true false b e = e

pub or_assoc : (a b c : Bool) → ((a || b) || c) ≡ (a || (b || c))
or_assoc true b c = refl
or_assoc false b c = refl

-- the test of one more element goes from the rest to what is gathered
pub moved : (w v p r t : Bool) → w ≡ (v || p) → (v || (p || r)) ≡ t → (w || r) ≡ t
moved w v p r t e f = ap (λ (x : Bool). x || r) e ∙ or_assoc v p r ∙ f

pub any_more : {X : Type 0} → (p : X → Bool) (xs : List X) (i : ℕ) (d : X) → i < length xs → list_any p (drop i xs) ≡ (p (get_or xs i d) || list_any p (drop (i + 1) xs))
any_more p xs i d lt = ap (list_any p) (drop_more xs i d lt)

-- the first n + 1 numbers are the first n and one more
pub any_last : (p : ℕ → Bool) (lo n : ℕ) → list_any p (range_with_len lo (n + 1)) ≡ (list_any p (range_with_len lo n) || p (lo + n))
any_last p lo zero = or_false (p lo) ∙ ap p (omega arith)
any_last p lo (suc n) =
    let e : suc n + 1 ≡ suc (n + 1) = omega arith in
    ap (λ (m : ℕ). list_any p (range_with_len lo m)) e
    ∙ ap (λ (x : Bool). p lo || x) (any_last p (lo + 1) n)
    ∙ sym (or_assoc (p lo) (list_any p (range_with_len (lo + 1) n)) (p (lo + 1 + n)))
    ∙ ap (λ (k : ℕ). (p lo || list_any p (range_with_len (lo + 1) n)) || p k) (omega arith)

pub gathered : {X : Type 0} → (p : X → Bool) (xs : List X) (i : ℕ) (d : X) (w v t : Bool) → i < length xs → w ≡ (v || p (get_or xs i d)) → (v || list_any p (drop i xs)) ≡ t → (w || list_any p (drop (i + 1) xs)) ≡ t
gathered p xs i d w v t lt e f = moved w v (p (get_or xs i d)) _ t e (ap (λ (x : Bool). v || x) (sym (any_more p xs i d lt)) ∙ f)

pub decide : (m n : ℕ) → (m ≡ n) ⊎ (nat_eq m n ≡ false)
decide m n = elim (nat_eq m n) as (λ b. nat_eq m n ≡ b → (m ≡ n) ⊎ (nat_eq m n ≡ false)) [ true ↦ λ e. inl (grind (arith, nat_tests)) | false ↦ λ e. inr e ] refl

equal : (m n : ℕ) → m ≡ n → nat_eq m n ≡ true
equal m n e = grind (arith, nat_tests)

pub unlike : (m n : ℕ) → nat_eq m n ≡ false → m ≢ n
unlike m n f e = ne (sym (equal m n e) ∙ f)
  where
    ne : true ≡ false → ⊥
    ne e = absurd cc

pub zeros : (n i : ℕ) → get_or {A = ℕ} (replicate n 0) i 0 ≡ zero
zeros zero i = refl
zeros (suc n) zero = refl
zeros (suc n) (suc i) = zeros n i

pub no_bit : (bit : ℕ) → has_bit (replicate 16 0) bit ≡ false
unfolding has_bit
no_bit bit = ap (λ (w : ℕ). nat_eq (bit_at w (bit % 64)) 1) (zeros 16 (bit / 64)) ∙ ap (λ (x : ℕ). nat_eq x 1) (bit_at-zero (bit % 64))

pub each_bit : (bit : ℕ) → bit < 1024 → has_bit (replicate 16 18446744073709551615) bit ≡ true
unfolding has_bit
each_bit bit lt = ap (λ (w : ℕ). nat_eq (bit_at w (bit % 64)) 1) (get_or-replicate 16 (bit / 64) 18446744073709551615 0 (omega arith)) ∙ ap (λ (x : ℕ). nat_eq x 1) (bit_at_ones 64 (bit % 64) (omega arith))

-- one bit more in its word
pub one_more : (ws : List ℕ) (bit b : ℕ) → bit / 64 < length ws → has_bit (slice_set ws (bit / 64) (bit_or (get_or ws (bit / 64) 0) (1 * 2 ^ (bit % 64) % 2 ^ 64))) b ≡ (has_bit ws b || nat_eq bit b)
unfolding has_bit
one_more ws bit b lt = elim (decide (b / 64) (bit / 64)) [
  | inr apart ↦ (
      let other = get_or-set_other ws (bit / 64) (b / 64) new 0 (unlike (b / 64) (bit / 64) apart) in
      ap (λ (w : ℕ). nat_eq (bit_at w (b % 64)) 1) other ∙ sym (or_else _ _ (not_same (λ e. unlike (b / 64) (bit / 64) apart (sym (ap (λ (n : ℕ). n / 64) e))))))
  | inl word ↦ (
      let at = ap (λ (i : ℕ). get_or (slice_set ws (bit / 64) new) i 0) word ∙ get_or-set_same ws (bit / 64) new 0 (omega arith) in
      let old = ap (λ (i : ℕ). get_or ws i 0) word in
      ap (λ (w : ℕ). nat_eq (bit_at w (b % 64)) 1) at
      ∙ elim (decide (b % 64) (bit % 64)) [
        | inl place ↦ (
            ap (λ (k : ℕ). nat_eq (bit_at new k) 1) place
            ∙ ap (λ (x : ℕ). nat_eq x 1) (bit_at_set_same w64 (get_or ws (bit / 64) 0) (bit % 64) (omega arith))
            ∙ sym (or_true _ _ (equal bit b (omega (arith, word, place)))))
        | inr place ↦ (
            ap (λ (x : ℕ). nat_eq x 1) (bit_at_set_other w64 (get_or ws (bit / 64) 0) (bit % 64) (omega arith) (b % 64) (unlike (b % 64) (bit % 64) place))
            ∙ ap (λ (w : ℕ). nat_eq (bit_at w (b % 64)) 1) (sym old)
            ∙ sym (or_else _ _ (not_same (λ e. unlike (b % 64) (bit % 64) place (sym (ap (λ (n : ℕ). n % 64) e))))))
      ])
]
  where
    new : ℕ
    new = bit_or (get_or ws (bit / 64) 0) (1 * 2 ^ (bit % 64) % 2 ^ 64)

    or_else : (x y : Bool) → y ≡ false → (x || y) ≡ x
    or_else true y e = refl
    or_else false y e = e

    not_same : (bit ≡ b → ⊥) → nat_eq bit b ≡ false
    not_same h = elim (decide bit b) [ inl e ↦ absurd (h e) | inr f ↦ f ]

nothing_left : {X : Type 0} → (xs : List X) (i : ℕ) → length xs ≤ i → drop i xs ≡ []
nothing_left [] zero le = refl
nothing_left [] (suc i) le = refl
nothing_left (x ∷ xs) zero le = absurd (omega arith)
nothing_left (x ∷ xs) (suc i) le = nothing_left xs i (omega arith)

pub all_gathered : {X : Type 0} → (p : X → Bool) (xs : List X) (i : ℕ) (w t : Bool) → length xs ≤ i → (w || list_any p (drop i xs)) ≡ t → w ≡ t
all_gathered p xs i w t le e = sym (or_false w) ∙ sym (ap (λ ys. w || list_any p ys) (nothing_left xs i le)) ∙ e

is_one : (n : ℕ) → nat_eq n 1 ≡ true → n ≡ 1
is_one n e = grind (arith, nat_tests)

pub has_bit_at : (ws : List ℕ) (bit : ℕ) → has_bit ws bit ≡ true → bit_at (get_or ws (bit / 64) 0) (bit % 64) ≡ 1
unfolding has_bit
has_bit_at ws bit e = is_one (bit_at (get_or ws (bit / 64) 0) (bit % 64)) e

place : (ws : List ℕ) (j k bit : ℕ) → bit / 64 ≡ j → bit % 64 ≡ k → bit_at (get_or ws j 0) k ≡ 1 → nat_eq (bit_at (get_or ws (bit / 64) 0) (bit % 64)) 1 ≡ true
place ws j k bit e f g = ap (λ (i : ℕ). nat_eq (bit_at (get_or ws i 0) (bit % 64)) 1) e ∙ ap (λ (i : ℕ). nat_eq (bit_at (get_or ws j 0) i) 1) f ∙ ap (λ (i : ℕ). nat_eq i 1) g

pub meet_some : (a b : List ℕ) (j k : ℕ) → j < 16 → k < 64 → bit_at (get_or a j 0) k ≡ 1 → bit_at (get_or b j 0) k ≡ 1 → Meet a b
unfolding has_bit
meet_some a b j k lt few x y =
    let word : (64 * j + k) / 64 ≡ j = omega (arith, few) in
    let rest : (64 * j + k) % 64 ≡ k = omega (arith, few) in
    (64 * j + k, omega (arith, few, lt), place a j k (64 * j + k) word rest x, place b j k (64 * j + k) word rest y)

pub last_or_before : (m n : ℕ) → m < n + 1 → (m < n) ⊎ (m ≡ n)
last_or_before m n lt = elim (decide m n) [ inl e ↦ inr e | inr f ↦ inl (let ne = unlike m n f in below ne) ]
  where
    below : (m ≡ n → ⊥) → m < n
    below ne = grind (arith, nat_tests)
