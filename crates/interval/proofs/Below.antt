-- The table's rows are ranges of words of n bits.
use Rattle.std.proofs.Common.{ℕ, ◌^◌, ◌<◌, ◌≤◌, max, arith, Bool, true, false, if◌then◌else◌}
use Rattle.std.proofs.Math.Nat.{div-le_self}
use Rattle.std.proofs.lemmas.Nat.{pow_pos, shr_le}
use Rattle.std.proofs.lemmas.Bool.Decides.{nat_tests}
use Rattle.bpf_words.specs.Operation.{alu}
use Rattle.bpf_words.specs.End.{end_bits}
use Rattle.bpf_words.specs.declared.operation.BinaryOperation.TheVariants.{Add, Sub, Mul, Div, Sdiv, Or, And, Lsh, Rsh, Mod, Smod, Xor, Mov, Arsh}
use Rattle.bpf_words.specs.declared.operation.ByteOrder.{ByteOrder}
use Rattle.bpf_words.specs.declared.operation.EndWidth.{EndWidth}
use Rattle.bpf_words.specs.declared.operation.Operation.{Operation}
use Rattle.bpf_words.specs.declared.operation.Operation.TheVariants.{Binary, Neg, Movsx}
use Rattle.bpf_words.proofs.Words.{alu_below, ended_below}
use Rattle.interval.specs.Range.{Bounds, single, IsRange}
use Rattle.interval.specs.Table.{from_to_or_any, right_shift, table, are_single, cut, alu_range, end_range, up}
use Rattle.interval.proofs.Up.{up_least}
use Rattle.interval.proofs.Words.{IsCut, cut_is_cut}

or_any_below : (n lo hi : ℕ) → (from_to_or_any n lo hi).hi < 2 ^ n
or_any_below n lo hi = grind (arith, nat_tests, pow_pos)

right_below : (n : ℕ) (a b : Bounds) → a.hi < 2 ^ n → (right_shift n a b).hi < 2 ^ n
right_below n a b h = grind (arith, nat_tests, shr_le)

up_below : (n : ℕ) (a b : Bounds) → IsCut n a → IsCut n b → up (max a.hi b.hi) < 2 ^ n
up_below n a b ca cb = omega (arith, up_least (max a.hi b.hi) n (omega arith) (omega arith), pow_pos n)

table_below : (n : ℕ) (op : Operation) (a b : Bounds) → IsCut n a → IsCut n b → (table n op a b).hi < 2 ^ n
unfolding table
table_below n (Binary Add) a b ca cb = or_any_below n _ _
table_below n (Binary Sub) a b ca cb = grind (arith, nat_tests)
table_below n (Binary Mul) a b ca cb = or_any_below n _ _
table_below n (Binary Div) a b ca cb = grind (arith, nat_tests, div-le_self)
table_below n (Binary Mod) a b ca cb = grind (arith, nat_tests)
table_below n (Binary And) a b ca cb = omega arith
table_below n (Binary Or) a b ca cb = omega (arith, up_below n a b ca cb)
table_below n (Binary Xor) a b ca cb = omega (arith, up_below n a b ca cb)
table_below n (Binary Lsh) a b ca cb = grind (arith, nat_tests, pow_pos, or_any_below)
table_below n (Binary Rsh) a b ca cb = right_below n a b ca.word
table_below n (Binary Arsh) a b ca cb = grind (arith, nat_tests, right_below)
table_below n (Binary Mov) a b ca cb = cb.word
table_below n (Binary Sdiv) a b ca cb = omega (arith, pow_pos n)
table_below n (Binary Smod) a b ca cb = omega (arith, pow_pos n)
table_below n Neg a b ca cb = omega (arith, pow_pos n)
table_below n (Movsx source) a b ca cb = grind (arith, nat_tests)

below_if : (t : Bool) (r s : Bounds) (m : ℕ) → r.hi < m → s.hi < m → (if t then r else s).hi < m
below_if true r s m p q = p
below_if false r s m p q = q

pub alu_range_below : (n : ℕ) (op : Operation) (a b : Bounds) → IsRange a → IsRange b → (alu_range n op a b).hi < 2 ^ n
unfolding alu_range
alu_range_below n op a b ra rb = below_if (are_single op (cut n a) (cut n b)) (single (alu n op (cut n a).lo (cut n b).lo)) (table n op (cut n a) (cut n b)) _
    (alu_below n op (cut n a).lo (cut n b).lo) (table_below n op (cut n a) (cut n b) (cut_is_cut n a ra) (cut_is_cut n b rb))

pub end_range_below : (order : ByteOrder) (width : EndWidth) (a : Bounds) → (end_range order width a).hi < 2 ^ end_bits width
unfolding end_range
end_range_below order width a = grind (arith, nat_tests, pow_pos, ended_below)

pub end_range_ordered : (order : ByteOrder) (width : EndWidth) (a : Bounds) → (end_range order width a).lo ≤ (end_range order width a).hi
unfolding end_range
end_range_ordered order width a = grind (arith, nat_tests)
