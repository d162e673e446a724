-- Words: numbers below 2 ^ n, where n is the number of bits.
use Rattle.std.specs.Prelude.{ℕ, ◌-◌, ◌^◌, ℤ, pos, ◌-ℤ◌, nat_lt, unsigned_abs, if◌then◌else◌}
use Rattle.std.specs.Int.{int_rem_euclid}

-- the whole number that a word stands for as a signed one: its highest bit counts as -(2 ^ (n - 1))
abbrev pub signed_value : ℕ → ℕ → ℤ
signed_value n a = if nat_lt a (2 ^ (n - 1)) then pos a else pos a -ℤ pos (2 ^ n)

-- the word that differs from a whole number by a multiple of 2 ^ n
abbrev pub word : ℕ → ℤ → ℕ
word n z = unsigned_abs (int_rem_euclid z (pos (2 ^ n)))
