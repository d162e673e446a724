-- What the arithmetic operations give (RFC 9669 section 4.1), on n bits, where n is 64 or 32.
use Rattle.std.specs.Prelude.{ℕ, ◌+◌, ◌*◌, ◌/◌, ◌%◌, ◌^◌, pos, neg_ℤ, ◌-ℤ◌, int_div, int_rem, bit_and, bit_or, bit_xor, ◌==◌, if◌then◌else◌}
use Rattle.std.specs.Int.{int_div_euclid}
use Rattle.bpf_words.specs.Word.{signed_value, word}
use Rattle.bpf_words.specs.declared.operation.BinaryOperation.{BinaryOperation}
use Rattle.bpf_words.specs.declared.operation.BinaryOperation.TheVariants.{Add, Sub, Mul, Div, Sdiv, Or, And, Lsh, Rsh, Mod, Smod, Xor, Mov, Arsh}
use Rattle.bpf_words.specs.declared.operation.SignExtension.{SignExtension}
use Rattle.bpf_words.specs.declared.operation.SignExtension.TheVariants.{From8, From16, From32}
use Rattle.bpf_words.specs.declared.operation.Operation.{Operation}
use Rattle.bpf_words.specs.declared.operation.Operation.TheVariants.{Binary, Neg, Movsx}

-- An operation on two words (RFC 9669 section 4.1). `int_div` cuts the quotient towards zero,
-- and `int_rem` has the dividend's sign. By a power of two `int_div_euclid` rounds down, so that
-- the sign bit fills
unfoldable pub binary_value : ℕ → BinaryOperation → ℕ → ℕ → ℕ
binary_value n Add a b = (a + b) % 2 ^ n
binary_value n Sub a b = word n (pos a -ℤ pos b)
binary_value n Mul a b = (a * b) % 2 ^ n
binary_value n Div a b = if b == 0 then 0 else a / b
binary_value n Sdiv a b = if b == 0 then 0 else word n (int_div (signed_value n a) (signed_value n b))
binary_value n Or a b = bit_or a b
binary_value n And a b = bit_and a b
binary_value n Lsh a b = (a * 2 ^ (b % n)) % 2 ^ n
binary_value n Rsh a b = a / 2 ^ (b % n)
binary_value n Mod a b = if b == 0 then a else a % b
binary_value n Smod a b = if b == 0 then a else word n (int_rem (signed_value n a) (signed_value n b))
binary_value n Xor a b = bit_xor a b
binary_value n Mov a b = b
binary_value n Arsh a b = word n (int_div_euclid (signed_value n a) (pos (2 ^ (b % n))))

-- how many low bits a sign-extending move takes (RFC 9669 section 4.1)
abbrev pub source_bits : SignExtension → ℕ
source_bits From8 = 8
source_bits From16 = 16
source_bits From32 = 32

-- the low bits of b as a signed number, and the word of n bits that stands for it
abbrev pub sign_extension : ℕ → SignExtension → ℕ → ℕ
sign_extension n source b = let k = source_bits source in word n (signed_value k (b % 2 ^ k))

-- what an operation gives on the low n bits of the destination's value a and the source's value b
-- (RFC 9669 section 4.1)
unfoldable pub alu : ℕ → Operation → ℕ → ℕ → ℕ
alu n (Binary operation) a b = binary_value n operation (a % 2 ^ n) (b % 2 ^ n)
alu n Neg a b = word n (neg_ℤ (pos (a % 2 ^ n)))
alu n (Movsx source) a b = sign_extension n source b
