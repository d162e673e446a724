-- Kinds of values: tests, and what operations give.
use Rattle.std.specs.Prelude.{ℕ, ◌^◌, ℤ, ◌+ℤ◌, ◌-ℤ◌, nat_le, nat_lt, Bool, true, false, ◌&&◌, if◌then◌else◌, Option, Some, None, unsigned_abs}
use Rattle.std.specs.FinMap.{get}
use Rattle.std.specs.Int.{w64, cast_signed, cast_unsigned}
use Rattle.bpf_words.specs.declared.operation.BinaryOperation.{BinaryOperation}
use Rattle.bpf_words.specs.declared.operation.BinaryOperation.TheVariants.{Add, Sub, Mov}
use Rattle.bpf_words.specs.declared.operation.Operation.{Operation}
use Rattle.bpf_words.specs.declared.operation.Operation.TheVariants.{Binary}
use Rattle.bpf_code.specs.declared.instruction.Width.{Width}
use Rattle.bpf_code.specs.declared.instruction.Width.TheVariants.{Bits32, Bits64}
use Rattle.bpf_code.specs.declared.instruction.Source.{Source}
use Rattle.bpf_code.specs.declared.instruction.Source.TheVariants as source
use Rattle.bpf_code.specs.Sizes.{width_bits}
use Rattle.bpf_semantics.specs.Step.{is_move_operation}
use Rattle.schema.specs.Schema.{Tables}
use Rattle.interval.specs.Range.{Bounds, single, is_single}
use Rattle.interval.specs.Table.{alu_range}
use Rattle.abs_state.specs.declared.kind.Kind.{Kind}
use Rattle.abs_state.specs.declared.kind.Kind.TheVariants.{Nothing, Number, Stack, Args}
use Rattle.abs_state.specs.declared.state.AbsState.{AbsState}
use Rattle.abs_state.specs.State.{kind_of}

abbrev pub is_nothing : Kind → Bool
is_nothing Nothing = true
is_nothing _ = false

abbrev pub is_number : Kind → Bool
is_number (Number _) = true
is_number _ = false

abbrev pub is_pointer : Kind → Bool
is_pointer (Stack _ _) = true
is_pointer (Args _ _) = true
is_pointer _ = false

-- an immediate is one number, sign-extended to 64 bits
abbrev pub operand_kind : AbsState → Source → Kind
operand_kind s (source.Immediate immediate) = Number (single (cast_unsigned w64 immediate))
operand_kind s (source.Register r) = kind_of s r

-- ---- pointers that are moved

-- whether some numbers of a range are below 2^63 and some aren't, so that as signed numbers they are no range
abbrev pub has_both_signs : Bounds → Bool
has_both_signs b = nat_lt b.lo (2 ^ 63) && nat_le (2 ^ 63) b.hi

-- a place may be as far away as 65,536
abbrev pub is_near : ℤ → Bool
is_near place = nat_le (unsigned_abs place) 65536

abbrev pub near_places : ℤ → ℤ → Option (ℤ × ℤ)
near_places lo hi = if is_near lo && is_near hi then Some (lo, hi) else None

-- where a pointer from lo to hi is after a 64-bit ADD or SUB of a number from least to greatest; None where that may be
-- too far away. Nothing else moves one
abbrev pub moved_by : BinaryOperation → ℤ → ℤ → ℤ → ℤ → Option (ℤ × ℤ)
moved_by Add lo hi least greatest = near_places (lo +ℤ least) (hi +ℤ greatest)
moved_by Sub lo hi least greatest = near_places (lo -ℤ greatest) (hi -ℤ least)
moved_by _ lo hi least greatest = None

-- the number is read as signed; None too where it may have either sign
abbrev pub moved_places : BinaryOperation → ℤ → ℤ → Bounds → Option (ℤ × ℤ)
moved_places op lo hi b =
    if has_both_signs b then None else moved_by op lo hi (cast_signed w64 b.lo) (cast_signed w64 b.hi)

-- ---- what an arithmetic operation gives

abbrev pub stack_of : Option (ℤ × ℤ) → Kind
stack_of None = Nothing
stack_of (Some places) = Stack places.0 places.1

abbrev pub args_of : Option (ℤ × ℤ) → Kind
args_of None = Nothing
args_of (Some places) = Args places.0 places.1

-- of MOV: at 64 bits a copy. It has the second operand alone
abbrev pub move_kind : Width → Kind → Kind
move_kind width (Number b) = Number (alu_range (width_bits width) (Binary Mov) b b)
move_kind Bits64 b = b
move_kind Bits32 _ = Nothing

-- of another operation: numbers give numbers, and at 64 bits a pointer is moved by a number
abbrev pub binary_kind : Width → BinaryOperation → Kind → Kind → Kind
binary_kind width op (Number a) (Number b) = Number (alu_range (width_bits width) (Binary op) a b)
binary_kind Bits64 op (Stack lo hi) (Number b) = stack_of (moved_places op lo hi b)
binary_kind Bits64 op (Args lo hi) (Number b) = args_of (moved_places op lo hi b)
binary_kind _ _ _ _ = Nothing

abbrev pub operation_kind : Width → BinaryOperation → Kind → Kind → Kind
operation_kind width op a b = if is_move_operation op then move_kind width b else binary_kind width op a b

-- of NEG, which has the first operand alone, and of MOVSX, which has the second
abbrev pub number_kind : Width → Operation → Kind → Kind
number_kind width op (Number a) = Number (alu_range (width_bits width) op a a)
number_kind _ _ _ = Nothing

-- ---- tables

-- the width of the table of a number that is one alone
abbrev pub table_width : Tables → Kind → Option ℕ
table_width tables (Number r) = if is_single r then get tables r.lo else None
table_width tables _ = None
