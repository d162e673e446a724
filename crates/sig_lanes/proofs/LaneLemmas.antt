-- Words side by side in vectors, and the bits that they share.
use Rattle.std.proofs.Common.{◌≡◌, ◌≢◌, ◌⊎◌, inl, inr, ◌↔◌, ℕ, ◌+◌, ◌-◌, ◌/◌, ◌%◌, ◌^◌, ◌≤◌, ◌<◌, Bool, true, false, not, cond, List, [], ◌++◌, map, length, get_or, nat_eq, sym, ap, ap₂, subst, ◌∙◌, arith, w8, w64}
use Rattle.std.specs.Prelude.{replicate, bit_and, bit_or, min, max}
use Rattle.std.specs.Int.{bit_at, trailing_zeros}
use Rattle.std.proofs.lemmas.Bool.{cases_lt}
use Rattle.std.proofs.lemmas.Bool.Decides.{nat_tests}
use Rattle.std.proofs.lemmas.List.{get_or-map, length-map, ext_get_or, get_or_append_left, get_or-append_right}
use Rattle.std.proofs.lemmas.Nat.Bits.{bit_at-zero, bit_at-lt, bit_at_and, bit_at_or, bit_at-trailing_zeros}
use Rattle.std.proofs.lemmas.Simd.{bitmask_splat, bit_mask_l, mask_l-lt, get_or-zip2, length-zip2}
use lib.Lanes.{zip2, mask_l, top}
use Rattle.sig_lanes.specs.Bits.{IsSubset, Meet, signature_at, SharePlace}
use Rattle.sig_lanes.proofs.BitLemmas.{last_or_before, meet_some, has_bit_at}

abbrev some : ℕ → Bool
some x = not (nat_eq x 0)

abbrev differs : ℕ → ℕ → ℕ
differs a b = cond (not (nat_eq a b)) (2 ^ 64 - 1) 0

abbrev nonzero_mask : List ℕ → ℕ
nonzero_mask xs = mask_l (map (top 63) (zip2 differs xs (replicate 8 0))) % 2 ^ 64

-- ---- the lanes that aren't 0, as bits

pub mask_is : (xs : List ℕ) → length xs ≡ 8 → nonzero_mask xs ≡ mask_l (map some xs)
mask_is xs long = bitmask_splat w64 (λ a b. not (nat_eq a b)) xs 8 0 long (omega arith)

pub mask_fits : (xs : List ℕ) → length xs ≡ 8 → mask_l (map some xs) < 256
mask_fits xs long = subst (λ (n : ℕ). mask_l (map some xs) < 2 ^ n) (length-map xs some ∙ long) (mask_l-lt (map some xs))

some_is : (x : ℕ) → x ≢ 0 → ◌≡◌ {A = ℕ} (cond (some x) 1 0) 1
some_is x ne = grind (arith, nat_tests)

is_some : (x : ℕ) → ◌≡◌ {A = ℕ} (cond (some x) 1 0) 1 → 0 < x
is_some x e = grind (arith, nat_tests)

pub zero_has_none : (n k : ℕ) → n ≡ 0 → bit_at n k ≡ 1 → ⊥
zero_has_none n k none e = absurd (let z = sym (bit_at-zero k) ∙ sym (ap (λ (x : ℕ). bit_at x k) none) ∙ e in omega arith)

pub mask_bit : (xs : List ℕ) (j : ℕ) → j < length xs → get_or xs j 0 < 2 ^ 64
    → (bit_at (mask_l (map some xs)) j ≡ 1) ↔ ((k : ℕ) × (k < 64) × (bit_at (get_or xs j 0) k ≡ 1))
mask_bit xs j lt fits =
    let x = get_or xs j 0 in
    let at = ap (λ (b : Bool). cond b 1 0) (get_or-map some xs j 0 false lt) in
    let is : bit_at (mask_l (map some xs)) j ≡ cond (some x) 1 0 = bit_mask_l (map some xs) j ∙ at in (
      λ e. (let found = bit_at-trailing_zeros w64 x (is_some x (sym is ∙ e)) fits in (trailing_zeros w64 x, found.0, found.1)),
      λ p. is ∙ some_is x (λ none. zero_has_none x p.0 none p.2),
    )

pub nonzero_has_bit : (n : ℕ) → n < 2 ^ 8 → not (nat_eq n 0) ≡ true → (j : ℕ) × (j < 8) × (bit_at n j ≡ 1)
nonzero_has_bit n fits e =
    let pos : 0 < n = grind arith in
    let found = bit_at-trailing_zeros w8 n pos fits in
    (trailing_zeros w8 n, found.0, found.1)

pub bit_is_nonzero : (n j : ℕ) → bit_at n j ≡ 1 → not (nat_eq n 0) ≡ true
bit_is_nonzero n j e = let ne : n ≢ 0 = λ none. zero_has_none n j none e in grind (arith, nat_tests)

-- ---- the bits of two words

max_is_one : (m n : ℕ) → m < 2 → n < 2 → (max m n ≡ 1) ↔ ((m ≡ 1) ⊎ (n ≡ 1))
max_is_one m n a b = (λ e. from e, λ s. elim s [ inl x ↦ omega arith | inr y ↦ omega arith ])
  where
    from : max m n ≡ 1 → (m ≡ 1) ⊎ (n ≡ 1)
    from e = elim (cases_lt 0 m) [ inl x ↦ inl (omega arith) | inr y ↦ inr (omega arith) ]

min_is_one : (m n : ℕ) → m < 2 → n < 2 → (min m n ≡ 1) ↔ ((m ≡ 1) × (n ≡ 1))
min_is_one m n a b = (λ e. (omega arith, omega arith), λ p. omega arith)

pub or_bit : (a b k : ℕ) → (bit_at (bit_or a b) k ≡ 1) ↔ ((bit_at a k ≡ 1) ⊎ (bit_at b k ≡ 1))
or_bit a b k =
    let r = max_is_one (bit_at a k) (bit_at b k) (bit_at-lt a k) (bit_at-lt b k) in
    (λ e. r.0 (sym (bit_at_or a b k) ∙ e), λ s. bit_at_or a b k ∙ r.1 s)

and_bit : (a b k : ℕ) → (bit_at (bit_and a b) k ≡ 1) ↔ ((bit_at a k ≡ 1) × (bit_at b k ≡ 1))
and_bit a b k =
    let r = min_is_one (bit_at a k) (bit_at b k) (bit_at-lt a k) (bit_at-lt b k) in
    (λ e. r.0 (sym (bit_at_and a b k) ∙ e), λ s. bit_at_and a b k ∙ r.1 s)

pub at_word : (v w k : ℕ) → v ≡ w → bit_at v k ≡ 1 → bit_at w k ≡ 1
at_word v w k e h = ap (λ (x : ℕ). bit_at x k) (sym e) ∙ h

-- ---- a place that two signatures share

-- what two signatures have in common in word i
abbrev pub both : List ℕ → List ℕ → ℕ → ℕ
both a b i = bit_and (get_or a i 0) (get_or b i 0)

place_at : (a b : List ℕ) (n i k : ℕ) → i < n → bit_at (both a b i) k ≡ 1 → SharePlace a b n k
place_at a b n i k lt e = let p = (and_bit (get_or a i 0) (get_or b i 0) k).0 e in (i, lt, p.0, p.1)

place_bit : (a b : List ℕ) (n k : ℕ) (p : SharePlace a b n k) → bit_at (both a b p.0) k ≡ 1
place_bit a b n k p = (and_bit (get_or a p.0 0) (get_or b p.0 0) k).1 (p.2, p.3)

pub meet_from_place : (a b : List ℕ) (k : ℕ) → k < 64 → SharePlace a b 16 k → Meet a b
meet_from_place a b k lt p = meet_some a b p.0 k p.1 lt p.2 p.3

pub place_from_meet : (a b : List ℕ) → Meet a b → (k : ℕ) × (k < 64) × SharePlace a b 16 k
place_from_meet a b m =
    let lt = m.1 in
    (m.0 % 64, omega arith, (m.0 / 64, omega arith, has_bit_at a m.0 m.2, has_bit_at b m.0 m.3))

-- what meets bits meets all that they are within
pub meet_within : (a b c : List ℕ) → IsSubset a b → Meet a c → Meet b c
meet_within a b c within m =
    let p = place_from_meet a c m in
    meet_from_place b c p.0 p.1 (p.2.0, p.2.1, within p.2.0 p.0 p.2.1 p.2.2, p.2.3)

-- the bits shared in one word more
pub share_more : (a b : List ℕ) (n k new old : ℕ) → new ≡ bit_or old (both a b n)
    → ((bit_at old k ≡ 1) ↔ SharePlace a b n k) → (bit_at new k ≡ 1) ↔ SharePlace a b (n + 1) k
share_more a b n k new old is before = (
  λ e. to (at_word new (bit_or old (both a b n)) k is e),
  λ p. at_word (bit_or old (both a b n)) new k (sym is) (from p),
)
  where
    to : bit_at (bit_or old (both a b n)) k ≡ 1 → SharePlace a b (n + 1) k
    to e = elim ((or_bit old (both a b n) k).0 e) [
      | inl x ↦ (let p = before.0 x in (p.0, (let lt = p.1 in omega arith), p.2, p.3))
      | inr y ↦ place_at a b (n + 1) n k (omega arith) y
    ]

    from : SharePlace a b (n + 1) k → bit_at (bit_or old (both a b n)) k ≡ 1
    from p = (or_bit old (both a b n) k).1 (elim (last_or_before p.0 n p.1) [
      | inl lt ↦ inl (before.1 (p.0, lt, p.2, p.3))
      | inr here ↦ inr (at_word (both a b p.0) (both a b n) k (ap (both a b) here) (place_bit a b (n + 1) k p))
    ])

-- ---- two signatures, each in two halves

-- what they have in common in words j and j + 8
abbrev pub both_halves : List ℕ → List ℕ → List ℕ → List ℕ → ℕ → ℕ
both_halves low high other_low other_high j = bit_or (both low other_low j) (both high other_high j)

pub lane_of_halves : (low high other_low other_high : List ℕ) (j : ℕ)
    → length low ≡ 8 → length high ≡ 8 → length other_low ≡ 8 → length other_high ≡ 8 → j < 8
    → get_or (zip2 bit_or (zip2 bit_and low other_low) (zip2 bit_and high other_high)) j 0 ≡ both_halves low high other_low other_high j
lane_of_halves low high other_low other_high j a b c d lt =
    let lows = zip2 bit_and low other_low in
    let highs = zip2 bit_and high other_high in
    let first : j < length lows = omega (arith, length-zip2 bit_and low other_low (a ∙ sym c)) in
    let second : j < length highs = omega (arith, length-zip2 bit_and high other_high (b ∙ sym d)) in
    get_or-zip2 bit_or lows highs j 0 0 0 first second
    ∙ ap (λ (w : ℕ). bit_or w (get_or highs j 0)) (get_or-zip2 bit_and low other_low j 0 0 0 (omega arith) (omega arith))
    ∙ ap (bit_or (both low other_low j)) (get_or-zip2 bit_and high other_high j 0 0 0 (omega arith) (omega arith))

pub place_in_halves : (low high other_low other_high : List ℕ) (k : ℕ) → length low ≡ 8 → length other_low ≡ 8
    → ((j : ℕ) × (j < 8) × (bit_at (both_halves low high other_low other_high j) k ≡ 1))
    ↔ SharePlace (low ++ high) (other_low ++ other_high) 16 k
place_in_halves low high other_low other_high k a b = (λ p. to p.0 p.1 p.2, λ p. from p.0 p.1 (place_bit whole other 16 k p))
  where
    whole : List ℕ
    whole = low ++ high

    other : List ℕ
    other = other_low ++ other_high

    first : (j : ℕ) → j < 8 → both whole other j ≡ both low other_low j
    first j lt = ap₂ bit_and (get_or_append_left low high 0 j (omega arith)) (get_or_append_left other_low other_high 0 j (omega arith))

    second : (i : ℕ) → 8 ≤ i → both whole other i ≡ both high other_high (i - 8)
    second i ge = ap₂ bit_and (get_or-append_right low high 8 i 0 a ge) (get_or-append_right other_low other_high 8 i 0 b ge)

    to : (j : ℕ) → j < 8 → bit_at (both_halves low high other_low other_high j) k ≡ 1 → SharePlace whole other 16 k
    to j lt e = elim ((or_bit (both low other_low j) (both high other_high j) k).0 e) [
      | inl x ↦ place_at whole other 16 j k (omega arith) (at_word _ _ k (sym (first j lt)) x)
      | inr y ↦ (
          let back : both high other_high (j + 8 - 8) ≡ both high other_high j = ap (both high other_high) (omega arith) in
          place_at whole other 16 (j + 8) k (omega arith) (at_word _ _ k (sym (second (j + 8) (omega arith) ∙ back)) y))
    ]

    from : (i : ℕ) → i < 16 → bit_at (both whole other i) k ≡ 1
        → (j : ℕ) × (j < 8) × (bit_at (both_halves low high other_low other_high j) k ≡ 1)
    from i lt e = elim (cases_lt i 8) [
      | inl few ↦ (i, few, (or_bit (both low other_low i) (both high other_high i) k).1 (inl (at_word _ _ k (first i few) e)))
      | inr ge ↦ (
          let j = i - 8 in
          (j, omega arith, (or_bit (both low other_low j) (both high other_high j) k).1 (inr (at_word _ _ k (second i ge) e))))
    ]

-- ---- a signature in a lane

pub lane_at : (block : List (List ℕ)) (j i : ℕ) → i < length block → get_or (signature_at block j) i 0 ≡ get_or (get_or block i []) j 0
unfolding signature_at
lane_at block j i lt = get_or-map (λ (vector : List ℕ). get_or vector j 0) block i [] 0 lt

length-signature_at : (block : List (List ℕ)) (j : ℕ) → length (signature_at block j) ≡ length block
unfolding signature_at
length-signature_at block j = length-map block (λ (vector : List ℕ). get_or vector j 0)

pub lane_is : (block : List (List ℕ)) (source : List ℕ) (j : ℕ) → length block ≡ 16 → length source ≡ 16
    → ((i : ℕ) → i < 16 → get_or (get_or block i []) j 0 ≡ get_or source i 0) → signature_at block j ≡ source
lane_is block source j long also each =
    let here = length-signature_at block j in
    ext_get_or 0 (signature_at block j) source (omega arith) (λ i lt.
    let within : i < 16 = omega arith in
    lane_at block j i (omega arith) ∙ each i within)

pub same_lane : (new old : List (List ℕ)) (j : ℕ) → length new ≡ 16 → length old ≡ 16
    → ((i : ℕ) → get_or (get_or new i []) j 0 ≡ get_or (get_or old i []) j 0) → signature_at new j ≡ signature_at old j
same_lane new old j long also each =
    let here = length-signature_at old j in
    lane_is new (signature_at old j) j long (omega arith) (λ i lt. each i ∙ sym (lane_at old j i (omega arith)))
