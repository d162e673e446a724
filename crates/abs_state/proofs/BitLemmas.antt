-- The bits of eight words, and lists of truths.
use Rattle.std.proofs.Common.{◌≡◌, ◌≢◌, ℕ, zero, suc, ◌+◌, ◌*◌, ◌<◌, ◌^◌, ◌/◌, ◌%◌, Bool, true, false, ◌⊎◌, inl, inr, List, [], ◌∷◌, ◌++◌, nat_eq, length, get_or, set, take, drop, replicate, min, refl, sym, ◌∙◌, ap, arith}
use Rattle.std.specs.Prelude.{bit_and, bit_or}
use Rattle.std.specs.Int.{bit_at, w64}
use Rattle.std.proofs.lemmas.Bool.Decides.{nat_tests}
use Rattle.std.proofs.lemmas.List.{same_lists, get_or-set_same, get_or-set_other, get_or-replicate, length-append, length-drop, length-replicate, length-set, length-take}
use Rattle.std.proofs.lemmas.Nat.Bits.{bit_at-zero, bit_at-lt, bit_at_and, bit_at_set_same, bit_at_set_other}
use Rattle.std.proofs.lemmas.Nat.{and_le_l}
use Rattle.abs_state.specs.Bits.{has_bit, bits_of}
use Rattle.abs_state.specs.Words.{bits_at, bits_long}
use Rattle.abs_state.specs.State.{in_both, zip_with}

decide : (m n : ℕ) → (m ≡ n) ⊎ (m ≢ n)
decide m n = elim (nat_eq m n) as (λ b. nat_eq m n ≡ b → (m ≡ n) ⊎ (m ≢ n)) [ true ↦ λ e. inl (grind (arith, nat_tests)) | false ↦ λ e. inr (λ f. grind (arith, nat_tests)) ] refl

-- a word that is put among others is below what all are below
pub set_below : (m : ℕ) (ws : List ℕ) (i n : ℕ) → ((k : ℕ) → get_or ws k 0 < m) → n < m → (k : ℕ) → get_or (set ws i n) k 0 < m
set_below m [] i n below lt k = below k
set_below m (w ∷ ws) zero n below lt zero = lt
set_below m (w ∷ ws) zero n below lt (suc k) = below (suc k)
set_below m (w ∷ ws) (suc i) n below lt zero = below zero
set_below m (w ∷ ws) (suc i) n below lt (suc k) = set_below m ws i n (λ j. below (suc j)) lt k

pub no_bits : bits_of (replicate 8 0) ≡ replicate 512 false
no_bits = same_lists (bits_of (replicate 8 0)) (replicate 512 false) (bits_long (replicate 8 0)) each
  where
    zeros : (n i : ℕ) → get_or {A = ℕ} (replicate n 0) i 0 ≡ zero
    zeros zero i = refl
    zeros (suc n) zero = refl
    zeros (suc n) (suc i) = zeros n i

    none : (b : ℕ) → has_bit (replicate 8 0) b ≡ false
    none b = ap (λ (w : ℕ). nat_eq (bit_at w (b % 64)) 1) (zeros 8 (b / 64)) ∙ ap (λ (x : ℕ). nat_eq x 1) (bit_at-zero (b % 64))

    each : (b : ℕ) (d : Bool) → b < length (bits_of (replicate 8 0)) → get_or (bits_of (replicate 8 0)) b d ≡ get_or (replicate 512 false) b d
    each b d lt =
        let few : b < 512 = omega (arith, lt, bits_long (replicate 8 0)) in
        bits_at (replicate 8 0) b d few ∙ none b ∙ sym (get_or-replicate 512 b false d few)

-- one bit is set
pub bit_set : (ws : List ℕ) (i : ℕ) → length ws ≡ 8 → i < 512 → bits_of (set ws (i / 64) (bit_or (get_or ws (i / 64) 0) (1 * 2 ^ (i % 64) % 2 ^ 64))) ≡ set (bits_of ws) i true
bit_set ws i long lt = same_lists (bits_of new) (set (bits_of ws) i true) (bits_long new ∙ sym (length-set (bits_of ws) i true ∙ bits_long ws)) each
  where
    word : ℕ
    word = bit_or (get_or ws (i / 64) 0) (1 * 2 ^ (i % 64) % 2 ^ 64)

    new : List ℕ
    new = set ws (i / 64) word

    inside : i / 64 < length ws
    inside = omega (arith, lt, long)

    same : has_bit new i ≡ true
    same =
        ap (λ (w : ℕ). nat_eq (bit_at w (i % 64)) 1) (get_or-set_same ws (i / 64) word 0 inside)
        ∙ ap (λ (x : ℕ). nat_eq x 1) (bit_at_set_same w64 (get_or ws (i / 64) 0) (i % 64) (omega arith))

    other_place : (b : ℕ) → b / 64 ≡ i / 64 → b % 64 ≢ i % 64 → has_bit new b ≡ has_bit ws b
    other_place b e f =
        ap (λ (k : ℕ). nat_eq (bit_at (get_or new k 0) (b % 64)) 1) e
        ∙ ap (λ (w : ℕ). nat_eq (bit_at w (b % 64)) 1) (get_or-set_same ws (i / 64) word 0 inside)
        ∙ ap (λ (x : ℕ). nat_eq x 1) (bit_at_set_other w64 (get_or ws (i / 64) 0) (i % 64) (omega arith) (b % 64) f)
        ∙ ap (λ (k : ℕ). nat_eq (bit_at (get_or ws k 0) (b % 64)) 1) (sym e)

    other : (b : ℕ) → b ≢ i → has_bit new b ≡ has_bit ws b
    other b apart = elim (decide (b / 64) (i / 64)) [
      | inl e ↦ other_place b e (λ f. apart (omega (arith, e, f)))
      | inr f ↦ ap (λ (w : ℕ). nat_eq (bit_at w (b % 64)) 1) (get_or-set_other ws (i / 64) (b / 64) word 0 f)
    ]

    each : (b : ℕ) (d : Bool) → b < length (bits_of new) → get_or (bits_of new) b d ≡ get_or (set (bits_of ws) i true) b d
    each b d below =
        let few : b < 512 = omega (arith, below, bits_long new) in
        elim (decide b i) [
          | inl e ↦ bits_at new b d few ∙ ap (has_bit new) e ∙ same ∙ sym (ap (λ (k : ℕ). get_or (set (bits_of ws) i true) k d) e ∙ get_or-set_same (bits_of ws) i true d (omega (arith, lt, bits_long ws)))
          | inr apart ↦ bits_at new b d few ∙ other b apart ∙ sym (get_or-set_other (bits_of ws) i b true d apart ∙ bits_at ws b d few)
        ]

pub length-zip_with : {A B C : Type 0} (f : A → B → C) (xs : List A) (ys : List B) → length xs ≡ length ys → length (zip_with f xs ys) ≡ length xs
unfolding zip_with
length-zip_with f [] ys e = refl
length-zip_with f (x ∷ xs) [] e = absurd (omega (arith, e))
length-zip_with f (x ∷ xs) (y ∷ ys) e = ap suc (length-zip_with f xs ys (omega (arith, e)))

get_or-zip_with : {A B C : Type 0} (f : A → B → C) (xs : List A) (ys : List B) (k : ℕ) (x : A) (y : B) (d : C) → length xs ≡ length ys → k < length xs → get_or (zip_with f xs ys) k d ≡ f (get_or xs k x) (get_or ys k y)
unfolding zip_with
get_or-zip_with f [] ys k x y d e lt = absurd (omega (arith, lt))
get_or-zip_with f (a ∷ xs) [] k x y d e lt = absurd (omega (arith, e))
get_or-zip_with f (a ∷ xs) (b ∷ ys) zero x y d e lt = refl
get_or-zip_with f (a ∷ xs) (b ∷ ys) (suc k) x y d e lt = get_or-zip_with f xs ys k x y d (omega (arith, e)) (omega (arith, lt))

-- what is set in both words is below what the one is below
pub and_below : (m : ℕ) (xs ys : List ℕ) → 0 < m → ((k : ℕ) → get_or xs k 0 < m) → (k : ℕ) → get_or (zip_with bit_and xs ys) k 0 < m
unfolding zip_with
and_below m [] ys some below k = some
and_below m (x ∷ xs) [] some below k = some
and_below m (x ∷ xs) (y ∷ ys) some below zero = omega (arith, and_le_l x y, below zero)
and_below m (x ∷ xs) (y ∷ ys) some below (suc k) = and_below m xs ys some (λ j. below (suc j)) k

both : (a b : ℕ) → a < 2 → b < 2 → nat_eq (min a b) 1 ≡ in_both (nat_eq a 1) (nat_eq b 1)
both zero zero x y = refl
both zero (suc zero) x y = refl
both (suc zero) zero x y = refl
both (suc zero) (suc zero) x y = refl
both (suc (suc a)) b x y = absurd (omega (arith, x))
both zero (suc (suc b)) x y = absurd (omega (arith, y))
both (suc zero) (suc (suc b)) x y = absurd (omega (arith, y))

-- the bits that are set in both
pub bits_in_both : (xs ys : List ℕ) → length xs ≡ 8 → length ys ≡ 8 → bits_of (zip_with bit_and xs ys) ≡ zip_with in_both (bits_of xs) (bits_of ys)
bits_in_both xs ys long others = same_lists (bits_of (zip_with bit_and xs ys)) (zip_with in_both (bits_of xs) (bits_of ys)) (bits_long (zip_with bit_and xs ys) ∙ sym (length-zip_with in_both (bits_of xs) (bits_of ys) (bits_long xs ∙ sym (bits_long ys)) ∙ bits_long xs)) each
  where
    bit : (b : ℕ) → b < 512 → has_bit (zip_with bit_and xs ys) b ≡ in_both (has_bit xs b) (has_bit ys b)
    bit b lt =
        ap (λ (w : ℕ). nat_eq (bit_at w (b % 64)) 1) (get_or-zip_with bit_and xs ys (b / 64) 0 0 0 (long ∙ sym others) (omega (arith, lt, long)))
        ∙ ap (λ (x : ℕ). nat_eq x 1) (bit_at_and (get_or xs (b / 64) 0) (get_or ys (b / 64) 0) (b % 64))
        ∙ both (bit_at (get_or xs (b / 64) 0) (b % 64)) (bit_at (get_or ys (b / 64) 0) (b % 64)) (bit_at-lt (get_or xs (b / 64) 0) (b % 64)) (bit_at-lt (get_or ys (b / 64) 0) (b % 64))

    each : (b : ℕ) (d : Bool) → b < length (bits_of (zip_with bit_and xs ys)) → get_or (bits_of (zip_with bit_and xs ys)) b d ≡ get_or (zip_with in_both (bits_of xs) (bits_of ys)) b d
    each b d below =
        let few : b < 512 = omega (arith, below, bits_long (zip_with bit_and xs ys)) in
        bits_at (zip_with bit_and xs ys) b d few ∙ bit b few
        ∙ sym (get_or-zip_with in_both (bits_of xs) (bits_of ys) b d d d (bits_long xs ∙ sym (bits_long ys)) (omega (arith, few, bits_long xs))
        ∙ ap (λ (x : Bool). in_both x (get_or (bits_of ys) b d)) (bits_at xs b d few)
        ∙ ap (in_both (has_bit xs b)) (bits_at ys b d few))

-- so many from the front on are set, and then the next
ones_more : (l : List Bool) (k : ℕ) → k < length l → set (replicate k true ++ drop k l) k true ≡ replicate (suc k) true ++ drop (suc k) l
ones_more [] k lt = absurd (omega (arith, lt))
ones_more (x ∷ l) zero lt = refl
ones_more (x ∷ l) (suc k) lt = ap (λ (t : List Bool). true ∷ t) (ones_more l k (omega (arith, lt)))

more_from : (l : List Bool) (from k m : ℕ) → m ≡ from + k → m < length l → set (take from l ++ replicate k true ++ drop m l) m true ≡ take from l ++ replicate (suc k) true ++ drop (suc m) l
more_from [] from k m e lt = absurd (omega (arith, lt))
more_from (x ∷ l) zero k m e lt = ap (λ n. set (replicate k true ++ drop n (x ∷ l)) n true) same ∙ ones_more (x ∷ l) k (omega (arith, e, lt)) ∙ ap (λ n. replicate (suc k) true ++ drop (suc n) (x ∷ l)) (sym same)
  where
    same : m ≡ k
    same = omega (arith, e)
more_from (x ∷ l) (suc from) k zero e lt = absurd (omega (arith, e))
more_from (x ∷ l) (suc from) k (suc m) e lt = ap (λ (t : List Bool). x ∷ t) (more_from l from k m (omega (arith, e)) (omega (arith, lt)))

-- after as many as k bytes more are set, the next is
pub one_more : (l : List Bool) (from k : ℕ) → from + k < length l → set (take from l ++ replicate k true ++ drop (from + k) l) (from + k) true ≡ take from l ++ replicate (k + 1) true ++ drop (from + (k + 1)) l
one_more l from k lt =
    let one : k + 1 ≡ suc k = omega arith in
    let next : from + (k + 1) ≡ suc (from + k) = omega arith in
    more_from l from k (from + k) refl lt ∙ sym (ap (λ n. take from l ++ replicate n true ++ drop (from + (k + 1)) l) one ∙ ap (λ n. take from l ++ replicate (suc k) true ++ drop n l) next)

-- where that list is long enough, so is the one that it is made of
pub inside : (l : List Bool) (from k : ℕ) → length (take from l ++ replicate k true ++ drop (from + k) l) ≡ 512 → from + k < 512 → from + k < length l
inside l from k long lt = omega (arith, long, lt, length-append (take from l ++ replicate k true) (drop (from + k) l), length-append (take from l) (replicate k true), length-take from l, length-replicate k true, length-drop (from + k) l)
