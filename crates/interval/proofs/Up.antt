-- Powers of two less one.
use Rattle.std.proofs.Common.{◌≡◌, ℕ, suc, ◌+◌, ◌-◌, ◌*◌, ◌/◌, ◌^◌, ◌<◌, ◌≤◌, arith, ap, lit<, inl, inr}
use Rattle.std.proofs.Math.Nat.{pow-le-pow_right, pow-suc}
use Rattle.std.specs.Int.{w64, leading_zeros}
use Rattle.std.proofs.lemmas.Bool.{cases_lt}
use Rattle.std.proofs.lemmas.Nat.{leading_le, leading_length, pow_pos}
use Rattle.std.proofs.lemmas.Nat.Bits.{ones_shr}
use Rattle.interval.specs.Table.{up}

-- all ones, shifted right
pub ones_left : (x : ℕ) → (2 ^ 64 - 1) / 2 ^ leading_zeros w64 x ≡ 2 ^ (64 - leading_zeros w64 x) - 1
ones_left x = ones_shr 64 (leading_zeros w64 x) (leading_le 64 x)

-- the bound is one less than a power of two, and no lower one is above the number
pub record IsUp (x : ℕ) : Type 0 where
  pub bits : ℕ
  pub is : up x ≡ 2 ^ bits - 1
  pub above : x < 2 ^ bits
  pub least : 2 ^ bits ≤ 2 * x + 1

up_of : (x k : ℕ) → leading_zeros w64 x + k ≡ 64 → up x ≡ 2 ^ k - 1
unfolding up
up_of x k h = let e : 64 - leading_zeros w64 x ≡ k = omega arith in ap (λ j. 2 ^ j - 1) e

pub up_bits : (x : ℕ) → x < 2 ^ 64 → IsUp x
up_bits x h = let (k, sum, below, least) = leading_length 64 x h in record { bits = k; is = up_of x k sum; above = below; least = least }

-- what is below the power isn't above the bound
pub below_up : (x v : ℕ) (u : IsUp x) → v < 2 ^ u.bits → v ≤ up x
below_up x v u h = omega (arith, u.is)

pub up_above : (x : ℕ) → x < 2 ^ 64 → x ≤ up x
up_above x h = let u = up_bits x h in below_up x x u u.above

pub up_ones : (x : ℕ) → x < 2 ^ 64 → (k : ℕ) × (up x ≡ 2 ^ k - 1)
up_ones x h = let u = up_bits x h in (u.bits, u.is)

-- a power that is above the number isn't below the bound's
power_above : (x k : ℕ) (u : IsUp x) → x < 2 ^ k → 2 ^ u.bits ≤ 2 ^ k
power_above x k u h = elim (cases_lt k u.bits) [
  | inl lt ↦ let p : 2 ^ suc k ≤ 2 ^ u.bits = pow-le-pow_right (lit< tt) lt in omega (arith, pow-suc 2 k, u.least)
  | inr le ↦ pow-le-pow_right (lit< tt) le
]

pub up_least : (x k : ℕ) → x < 2 ^ 64 → x ≤ 2 ^ k - 1 → up x ≤ 2 ^ k - 1
up_least x k w h = let u = up_bits x w in let above = pow_pos k in let least = power_above x k u (omega arith) in omega (arith, u.is)
