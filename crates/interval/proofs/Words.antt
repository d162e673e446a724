-- What operations on words depend on, and cut ranges.
use Rattle.std.proofs.Common.{◌≡◌, ℕ, ◌+◌, ◌-◌, ◌*◌, ◌%◌, ◌^◌, ◌<◌, ◌≤◌, arith, refl, sym, ap, ◌∙◌, inl, inr, Bool, true, false, nat_lt, pos, ◌-ℤ◌, ◌+ℤ◌, if◌then◌else◌}
use Rattle.std.proofs.Math.Nat.{mod-eq_of_lt, mod-mod}
use Rattle.std.proofs.Math.Pow.{mod-mod-pow}
use Rattle.std.proofs.lemmas.Nat.{mod_below, pow_pos, pow-add}
use Rattle.std.proofs.lemmas.Int.{ints, int_rem_euclid_is}
use Rattle.std.proofs.lemmas.Bool.{cases_lt}
use Rattle.std.proofs.lemmas.Bool.Decides.{nat_tests}
use Rattle.bpf_words.specs.Operation.{alu, source_bits}
use Rattle.bpf_words.specs.Word.{word, signed_value}
use Rattle.bpf_words.specs.declared.operation.Operation.{Operation}
use Rattle.bpf_words.specs.declared.operation.Operation.TheVariants.{Binary, Neg, Movsx}
use Rattle.interval.specs.Range.{Bounds, IsRange, IsWithin, is_single}
use Rattle.interval.specs.Table.{any_word, cut}

-- its numbers are words of n bits, and of 64
pub record IsCut (n : ℕ) (r : Bounds) : Type 0 where
  pub word : r.hi < 2 ^ n
  pub small : r.hi < 2 ^ 64

pub within_if : (t : Bool) (r s : Bounds) (v : ℕ) → (t ≡ true → IsWithin r v) → (t ≡ false → IsWithin s v) → IsWithin (if t then r else s) v
within_if true r s v p q = p refl
within_if false r s v p q = q refl

pub cut_if : {n : ℕ} (t : Bool) (r s : Bounds) → (t ≡ true → IsCut n r) → (t ≡ false → IsCut n s) → IsCut n (if t then r else s)
cut_if true r s p q = p refl
cut_if false r s p q = q refl

pub within_any : (n v : ℕ) → v < 2 ^ n → IsWithin (any_word n) v
within_any n v h = record { from = omega arith; to = omega arith }

cut_below : (n a : ℕ) → a % 2 ^ n < 2 ^ n
cut_below n a = mod_below a (2 ^ n) (pow_pos n)

pub any_sound : (n v : ℕ) → IsWithin (any_word n) (v % 2 ^ n)
any_sound n v = within_any n _ (cut_below n v)

pub cut_is_cut : (n : ℕ) (r : Bounds) → IsRange r → IsCut n (cut n r)
unfolding cut
cut_is_cut n r h = cut_if (nat_lt r.hi (2 ^ n)) r _ (λ t. record { word = grind (arith, nat_tests); small = h.word })
    (λ t. let low : 2 ^ n ≤ r.hi = grind (arith, nat_tests) in let small = h.word in cut_if (is_single r) _ _
    (λ t. let below = cut_below n r.lo in record { word = below; small = omega arith })
    (λ t. let above = pow_pos n in record { word = omega arith; small = omega arith }))

pub cut_sound : (n : ℕ) (r : Bounds) (x : ℕ) → IsWithin r x → IsWithin (cut n r) (x % 2 ^ n)
unfolding cut
cut_sound n r x w = within_if (nat_lt r.hi (2 ^ n)) _ _ _
    (λ t. let h : x < 2 ^ n = grind (arith, nat_tests) in rw (mod-eq_of_lt h) w)
    (λ t. within_if (is_single r) _ _ _
    (λ t. let e : r.lo ≡ x = grind (arith, nat_tests) in rw e (record { from = omega arith; to = omega arith }))
    (λ t. any_sound n x))

-- the low bits of a signed number are those of its word
low_of_signed : (n k j z : ℕ) → j + n ≡ k → word n (signed_value k z) ≡ z % 2 ^ n
low_of_signed n k j z e =
    elim (nat_lt z (2 ^ (k - 1))) as (λ t. word n (if t then pos z else pos z -ℤ pos (2 ^ k)) ≡ z % 2 ^ n) [
      | true ↦ refl
      | false ↦
          let whole : 2 ^ j * 2 ^ n ≡ 2 ^ k = sym (pow-add 2 j n) ∙ ap (λ i. 2 ^ i) e in
          let h : (pos z -ℤ pos (2 ^ k)) +ℤ pos (2 ^ j * 2 ^ n) ≡ pos z = rw whole (omega (arith, ints)) in
          rw (int_rem_euclid_is (pos z -ℤ pos (2 ^ k)) (pos (2 ^ n)) (2 ^ n) (2 ^ j) z (pow_pos n) refl h) refl
    ]

-- low bits of low bits
low_of_low : (y n k j : ℕ) → j + n ≡ k → y % 2 ^ k % 2 ^ n ≡ y % 2 ^ n
low_of_low y n k j e = rw (sym e) (mod-mod-pow y j n)

extension_cut : (n k y : ℕ) → word n (signed_value k (y % 2 ^ n % 2 ^ k)) ≡ word n (signed_value k (y % 2 ^ k))
extension_cut n k y = elim (cases_lt n k) [
  | inl lt ↦
      let e : (k - n) + n ≡ k = omega arith in
      low_of_signed n k (k - n) _ e ∙ low_of_low (y % 2 ^ n) n k (k - n) e ∙ mod-mod y (2 ^ n)
      ∙ sym (low_of_signed n k (k - n) _ e ∙ low_of_low y n k (k - n) e)
  | inr le ↦
      let e : (n - k) + k ≡ n = omega arith in
      ap (λ z. word n (signed_value k z)) (low_of_low y k n (n - k) e)
]

-- an operation depends on the low bits of its operands alone
pub alu_of_cut : (n : ℕ) (op : Operation) (x y : ℕ) → alu n op (x % 2 ^ n) (y % 2 ^ n) ≡ alu n op x y
unfolding alu
alu_of_cut n (Binary op) x y = rw (mod-mod x (2 ^ n), mod-mod y (2 ^ n)) refl
alu_of_cut n Neg x y = rw (mod-mod x (2 ^ n)) refl
alu_of_cut n (Movsx source) x y = extension_cut n (source_bits source) y
