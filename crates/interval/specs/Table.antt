-- The range of an operation's results, from the ranges of its operands: one row an operation, on n bits,
-- where n is 64 or 32. Operands are the destination a and the source b.
use Rattle.std.specs.Prelude.{ℕ, ◌+◌, ◌-◌, ◌*◌, ◌/◌, ◌%◌, ◌^◌, nat_lt, nat_le, ◌==◌, ◌&&◌, Bool, min, max, if◌then◌else◌}
use Rattle.std.specs.Int.{w64, leading_zeros}
use Rattle.bpf_words.specs.Operation.{alu, source_bits}
use Rattle.bpf_words.specs.End.{end_value, end_bits}
use Rattle.bpf_words.specs.declared.operation.BinaryOperation.TheVariants.{Add, Sub, Mul, Div, Sdiv, Or, And, Lsh, Rsh, Mod, Smod, Xor, Mov, Arsh}
use Rattle.bpf_words.specs.declared.operation.ByteOrder.{ByteOrder}
use Rattle.bpf_words.specs.declared.operation.EndWidth.{EndWidth}
use Rattle.bpf_words.specs.declared.operation.Operation.{Operation}
use Rattle.bpf_words.specs.declared.operation.Operation.TheVariants.{Binary, Neg, Movsx}
use Rattle.interval.specs.Range.{Bounds, from_to, single, is_single}

-- every word of n bits
abbrev pub any_word : ℕ → Bounds
any_word n = from_to 0 (2 ^ n - 1)

-- from lo to hi where these are words of n bits, else every word
abbrev pub from_to_or_any : ℕ → ℕ → ℕ → Bounds
from_to_or_any n lo hi = if nat_lt hi (2 ^ n) then from_to lo hi else any_word n

-- the least 2 ^ k - 1 that isn't below the 64-bit word x: k is how many binary digits x has
unfoldable pub up : ℕ → ℕ
up x = 2 ^ (64 - leading_zeros w64 x) - 1

-- a shift to the right that fills zeros
abbrev pub right_shift : ℕ → Bounds → Bounds → Bounds
right_shift n a b = if is_single b then from_to (a.lo / 2 ^ (b.lo % n)) (a.hi / 2 ^ (b.lo % n)) else from_to 0 a.hi

-- the table, for operands that are words of n bits and aren't one value each
unfoldable pub table : ℕ → Operation → Bounds → Bounds → Bounds
table n (Binary Add) a b = from_to_or_any n (a.lo + b.lo) (a.hi + b.hi)
table n (Binary Sub) a b = if nat_le b.hi a.lo then from_to (a.lo - b.hi) (a.hi - b.lo) else any_word n
table n (Binary Mul) a b = from_to_or_any n (a.lo * b.lo) (a.hi * b.hi)
table n (Binary Div) a b = if b.lo == 0 then from_to 0 a.hi else from_to (a.lo / b.hi) (a.hi / b.lo)
table n (Binary Mod) a b =
    if nat_lt a.hi b.lo then a else
    if b.lo == 0 then from_to 0 a.hi else
    from_to 0 (min a.hi (b.hi - 1))
table n (Binary And) a b = from_to 0 (min a.hi b.hi)
table n (Binary Or) a b = from_to (max a.lo b.lo) (up (max a.hi b.hi))
table n (Binary Xor) a b = from_to 0 (up (max a.hi b.hi))
table n (Binary Lsh) a b = if is_single b then from_to_or_any n (a.lo * 2 ^ (b.lo % n)) (a.hi * 2 ^ (b.lo % n)) else any_word n
table n (Binary Rsh) a b = right_shift n a b
table n (Binary Arsh) a b = if nat_lt a.hi (2 ^ (n - 1)) then right_shift n a b else any_word n
table n (Binary Mov) a b = b
table n (Binary Sdiv) a b = any_word n
table n (Binary Smod) a b = any_word n
table n Neg a b = any_word n
table n (Movsx source) a b = if nat_lt b.hi (2 ^ (source_bits source - 1)) then b else any_word n

-- whether each operand is one value. MOV and MOVSX have the source alone, NEG the destination alone
abbrev pub are_single : Operation → Bounds → Bounds → Bool
are_single (Binary Mov) a b = is_single b
are_single (Binary op) a b = is_single a && is_single b
are_single Neg a b = is_single a
are_single (Movsx source) a b = is_single b

-- the range of the low n bits of a range's numbers
unfoldable pub cut : ℕ → Bounds → Bounds
cut n r = if nat_lt r.hi (2 ^ n) then r else if is_single r then single (r.lo % 2 ^ n) else any_word n

-- the same on operands that may be one value each
abbrev pub word_range : ℕ → Operation → Bounds → Bounds → Bounds
word_range n op a b = if are_single op a b then single (alu n op a.lo b.lo) else table n op a b

-- the range of what an operation gives, on n bits, on 64-bit operands in these ranges
unfoldable pub alu_range : ℕ → Operation → Bounds → Bounds → Bounds
alu_range n op a b = word_range n op (cut n a) (cut n b)

-- the range of what a byte swap instruction gives
unfoldable pub end_range : ByteOrder → EndWidth → Bounds → Bounds
end_range order width a = if is_single a then single (end_value order width a.lo) else any_word (end_bits width)
