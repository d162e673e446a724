-- How eight words are had back from their bits, as the checker needs it for copies. No clause speaks of it.
use Rattle.std.proofs.Common.{◌≡◌, ℕ, zero, suc, ◌+◌, ◌*◌, ◌<◌, ◌^◌, ◌/◌, ◌%◌, Bool, false, List, nat_eq, cond, length, get_or, take, drop, map, refl, sym, ◌∙◌, ap, arith}
use Rattle.std.specs.Int.{bit_at}
use Rattle.std.specs.List.{range_with_len}
use Rattle.std.proofs.lemmas.List.{same_lists, get_or-take, get_or-drop, get_or_default, length-take-le, length-drop}
use Rattle.std.proofs.lemmas.List.FromFn.{length-map-range_with_len, get_or-map-range_with_len}
use Rattle.std.proofs.lemmas.Nat.Bits.{bit_at-lt, same_from_bits_below}
use Rattle.std.proofs.lemmas.Simd.{bit_mask_l, mask_l-lt}
use lib.Lanes.{mask_l}
use Rattle.abs_state.specs.Bits.{has_bit, bits_of}

-- the eight words of 512 bits
unfoldable pub words_of : List Bool → List ℕ
words_of bits = map (λ i. mask_l (take 64 (drop (64 * i) bits))) (range_with_len 0 8)

pub bits_long : (ws : List ℕ) → length (bits_of ws) ≡ 512
unfolding bits_of
bits_long ws = length-map-range_with_len (has_bit ws) 0 512

pub bits_at : (ws : List ℕ) (b : ℕ) (d : Bool) → b < 512 → get_or (bits_of ws) b d ≡ has_bit ws b
unfolding bits_of
bits_at ws b d lt = get_or-map-range_with_len (has_bit ws) 0 512 b b d lt (omega arith)

test_of : (n : ℕ) → n < 2 → cond (nat_eq n 1) 1 0 ≡ n
test_of zero lt = refl
test_of (suc zero) lt = refl
test_of (suc (suc n)) lt = absurd (omega arith)

word_bit : (ws : List ℕ) (k i : ℕ) → i < 64 → has_bit ws (64 * k + i) ≡ nat_eq (bit_at (get_or ws k 0) i) 1
word_bit ws k i lt =
    let word : (64 * k + i) / 64 ≡ k = omega (arith, lt) in
    let rest : (64 * k + i) % 64 ≡ i = omega (arith, lt) in
    ap (λ (w : ℕ). nat_eq (bit_at (get_or ws w 0) ((64 * k + i) % 64)) 1) word ∙ ap (λ (r : ℕ). nat_eq (bit_at (get_or ws k 0) r) 1) rest

-- the words of the bits of some words are these
pub words_back : (ws : List ℕ) → length ws ≡ 8 → ((k : ℕ) → get_or ws k 0 < 2 ^ 64) → words_of (bits_of ws) ≡ ws
unfolding words_of
words_back ws long below = same_lists (words_of (bits_of ws)) ws (length-map-range_with_len word 0 8 ∙ sym long) each
  where
    ms : ℕ → List Bool
    ms k = take 64 (drop (64 * k) (bits_of ws))

    word : ℕ → ℕ
    word k = mask_l (ms k)

    bit : (k i : ℕ) → k < 8 → i < 64 → bit_at (word k) i ≡ bit_at (get_or ws k 0) i
    bit k i few lt =
        bit_mask_l (ms k) i
        ∙ ap (λ (b : Bool). cond b 1 0) (get_or-take 64 (drop (64 * k) (bits_of ws)) i false lt ∙ get_or-drop (64 * k) (bits_of ws) i false ∙ bits_at ws (64 * k + i) false (omega (arith, few, lt)) ∙ word_bit ws k i lt)
        ∙ test_of (bit_at (get_or ws k 0) i) (bit_at-lt (get_or ws k 0) i)

    many : (k : ℕ) → k < 8 → length (ms k) ≡ 64
    many k few = length-take-le 64 (drop (64 * k) (bits_of ws)) (omega (arith, few, bits_long ws, length-drop (64 * k) (bits_of ws)))

    small : (k : ℕ) → k < 8 → word k < 2 ^ 64
    small k few = rw (many k few) at (mask_l-lt (ms k))

    each : (k : ℕ) (d : ℕ) → k < length (words_of (bits_of ws)) → get_or (words_of (bits_of ws)) k d ≡ get_or ws k d
    each k d lt =
        let few : k < 8 = omega (arith, lt, length-map-range_with_len word 0 8) in
        get_or-map-range_with_len word 0 8 k k d few (omega arith)
        ∙ same_from_bits_below 64 (word k) (get_or ws k 0) (small k few) (below k) (λ i h. bit k i few h)
        ∙ get_or_default ws k 0 d (omega (arith, few, long))
