-- Why an instruction is refused, given what is known of the state before it: each cause with where it holds.
use Rattle.std.specs.Prelude.{ℕ, ℤ, Bool, true, false, not, ◌||◌, if◌then◌else◌, List, [], ◌∷◌, map, Option, Some, None}
use Rattle.std.specs.Option.{option_map, option_map_or, is_none}
use Rattle.std.specs.List.{list_any, zip, find}
use Rattle.bpf_words.specs.declared.operation.BinaryOperation.{BinaryOperation}
use Rattle.bpf_code.specs.declared.instruction.Register.{Register}
use Rattle.bpf_code.specs.declared.instruction.Register.TheVariants.{R0, R1, R2, R3, R4, R5}
use Rattle.bpf_code.specs.declared.instruction.Width.{Width}
use Rattle.bpf_code.specs.declared.instruction.Width.TheVariants.{Bits32, Bits64}
use Rattle.bpf_code.specs.declared.instruction.Source.{Source}
use Rattle.bpf_code.specs.declared.instruction.Source.TheVariants as source
use Rattle.bpf_code.specs.declared.instruction.Instruction.{Instruction}
use Rattle.bpf_code.specs.declared.instruction.Instruction.TheVariants.{LoadWide, Load, StoreImmediate, StoreRegister, Arithmetic, Negate, MoveSignExtended, End, Branch, Call, Exit}
use Rattle.bpf_code.specs.Sizes.{size_bytes, load_bytes}
use Rattle.schema.specs.Schema.{Tables}
use Rattle.schema.specs.Helper.{helper_of, arguments_of}
use Rattle.schema.specs.declared.helper.Helper.{Helper}
use Rattle.schema.specs.declared.helper.ArgumentKind.{ArgumentKind}
use Rattle.schema.specs.declared.helper.ArgumentKind.TheVariants as argument
use Rattle.bpf_semantics.specs.Step.{is_read_only, is_move_operation}
use Rattle.abs_state.specs.declared.kind.Kind.{Kind}
use Rattle.abs_state.specs.declared.kind.Kind.TheVariants.{Nothing, Number, Stack, Args}
use Rattle.abs_state.specs.declared.state.AbsState.{AbsState}
use Rattle.abs_state.specs.State.{kind_of}
use Rattle.abs_step.specs.declared.cause.Cause.{Cause}
use Rattle.abs_step.specs.declared.cause.Cause.TheVariants.{HoldsNothing, WritesFramePointer, UsesPointer, OutsideMemory, Uninitialised, UnknownHelper, UnknownTable, NoNumber, NoBuffer, RepliesPointer, StoresToArguments}
use Rattle.abs_state.specs.Kind.{is_nothing, is_number, is_pointer, operand_kind, moved_places, table_width}
use Rattle.abs_state.specs.declared.access.ByteSpan.{ByteSpan}
use Rattle.abs_state.specs.Access.{stack_span, args_span, buffer_span, are_initialised}

-- ---- a register that is read may hold nothing

abbrev pub source_registers : Source → List Register
source_registers (source.Immediate _) = []
source_registers (source.Register r) = r ∷ []

-- MOV doesn't read its destination
abbrev pub operation_registers : BinaryOperation → Register → Source → List Register
operation_registers op dst src = if is_move_operation op then source_registers src else dst ∷ source_registers src

-- what a call takes, each with its register, r1 first; an unknown helper takes nothing
abbrev pub call_arguments : Option Helper → List (ArgumentKind × Register)
call_arguments None = []
call_arguments (Some helper) = zip (arguments_of helper) (R1 ∷ R2 ∷ R3 ∷ R4 ∷ R5 ∷ [])

-- the registers that an instruction reads
abbrev pub registers_read : Instruction → List Register
registers_read (Load _ _ src _) = src ∷ []
registers_read (StoreImmediate _ dst _ _) = dst ∷ []
registers_read (StoreRegister _ dst src _) = dst ∷ src ∷ []
registers_read (Arithmetic _ op dst src) = operation_registers op dst src
registers_read (Negate _ dst) = dst ∷ []
registers_read (MoveSignExtended _ _ src) = src ∷ []
registers_read (End _ _ dst) = dst ∷ []
registers_read (Branch _ _ dst src _) = dst ∷ source_registers src
registers_read (Call helper) = map (λ a. a.1) (call_arguments (helper_of helper))
registers_read Exit = R0 ∷ []
registers_read _ = []

unfoldable pub holds_nothing : Instruction → AbsState → Bool
holds_nothing i s = list_any (λ r. is_nothing (kind_of s r)) (registers_read i)

-- ---- r10 is written

-- the register that an instruction writes. r0 to r5, which a call changes, aren't counted: none is r10
abbrev pub register_written : Instruction → Option Register
register_written (LoadWide dst _) = Some dst
register_written (Load _ dst _ _) = Some dst
register_written (Arithmetic _ _ dst _) = Some dst
register_written (Negate _ dst) = Some dst
register_written (MoveSignExtended _ dst _) = Some dst
register_written (End _ _ dst) = Some dst
register_written _ = None

abbrev pub writes_frame_pointer : Instruction → Bool
writes_frame_pointer i = option_map_or is_read_only (register_written i) false

-- ---- a pointer where only a number may be

-- a 64-bit MOV copies a pointer
abbrev pub move_uses_pointer : Width → Kind → Bool
move_uses_pointer Bits64 b = false
move_uses_pointer Bits32 b = is_pointer b

-- a 64-bit ADD or SUB moves a pointer by a number that has one sign, so far as places go
abbrev pub binary_uses_pointer : Width → BinaryOperation → Kind → Kind → Bool
binary_uses_pointer Bits64 op (Stack lo hi) (Number b) = is_none (moved_places op lo hi b)
binary_uses_pointer Bits64 op (Args lo hi) (Number b) = is_none (moved_places op lo hi b)
binary_uses_pointer _ op a b = is_pointer a || is_pointer b

abbrev pub operands_use_pointer : Width → BinaryOperation → Kind → Kind → Bool
operands_use_pointer width op a b = if is_move_operation op then move_uses_pointer width b else binary_uses_pointer width op a b

unfoldable pub uses_pointer : Instruction → AbsState → Bool
uses_pointer (Arithmetic width op dst src) s = operands_use_pointer width op (kind_of s dst) (operand_kind s src)
uses_pointer (Negate _ dst) s = is_pointer (kind_of s dst)
uses_pointer (MoveSignExtended _ _ src) s = is_pointer (kind_of s src)
uses_pointer (End _ _ dst) s = is_pointer (kind_of s dst)
uses_pointer (StoreRegister _ _ src _) s = is_pointer (kind_of s src)
uses_pointer (Branch _ _ dst src _) s = is_pointer (kind_of s dst) || is_pointer (operand_kind s src)
uses_pointer _ s = false

-- ---- loads and stores

-- a load's or a store's address is a number, or a byte that it may touch lies outside
abbrev pub load_is_outside : ℕ → Kind → ℤ → ℕ → Bool
load_is_outside args_len Nothing offset size = false
load_is_outside args_len (Number _) offset size = true
load_is_outside args_len (Stack lo hi) offset size = is_none (stack_span lo hi offset size)
load_is_outside args_len (Args lo hi) offset size = is_none (args_span args_len lo hi offset size)

abbrev pub store_is_outside : Kind → ℤ → ℕ → Bool
store_is_outside (Number _) offset size = true
store_is_outside (Stack lo hi) offset size = is_none (stack_span lo hi offset size)
store_is_outside _ offset size = false

unfoldable pub is_outside : ℕ → Instruction → AbsState → Bool
is_outside args_len (Load kind _ src offset) s = load_is_outside args_len (kind_of s src) offset (load_bytes kind)
is_outside args_len (StoreImmediate size dst offset _) s = store_is_outside (kind_of s dst) offset (size_bytes size)
is_outside args_len (StoreRegister size dst _ offset) s = store_is_outside (kind_of s dst) offset (size_bytes size)
is_outside args_len _ s = false

abbrev pub is_args : Kind → Bool
is_args (Args _ _) = true
is_args _ = false

abbrev pub stores_to_arguments : Instruction → AbsState → Bool
stores_to_arguments (StoreImmediate _ dst _ _) s = is_args (kind_of s dst)
stores_to_arguments (StoreRegister _ dst _ _) s = is_args (kind_of s dst)
stores_to_arguments _ s = false

-- ---- calls

abbrev pub is_unknown_helper : Instruction → Bool
is_unknown_helper (Call helper) = is_none (helper_of helper)
is_unknown_helper _ = false

-- how long a buffer is, where the table has this width
abbrev pub buffer_length : Option ℕ → ArgumentKind → Option ℕ
buffer_length width argument.RowRead = width
buffer_length width argument.RowWritten = width
buffer_length width argument.KeyWritten = Some 8
buffer_length width _ = None

-- whether some argument of a call passes a test of what it is to be and what is known of it
abbrev pub has_argument : (ArgumentKind → Kind → Bool) → Instruction → AbsState → Bool
has_argument test (Call helper) s = list_any (λ a. test a.0 (kind_of s a.1)) (call_arguments (helper_of helper))
has_argument test _ s = false

abbrev pub is_unknown_table : Tables → ArgumentKind → Kind → Bool
is_unknown_table tables argument.Table k = is_none (table_width tables k)
is_unknown_table tables _ k = false

abbrev pub is_no_number : ArgumentKind → Kind → Bool
is_no_number argument.Number k = not (is_number k)
is_no_number _ k = false

abbrev pub lacks_room : Option ℕ → Kind → Bool
lacks_room None k = false
lacks_room (Some count) k = is_none (buffer_span k count)

abbrev pub is_no_buffer : Option ℕ → ArgumentKind → Kind → Bool
is_no_buffer width a k = lacks_room (buffer_length width a) k

-- ---- bytes that may be read before anything was written there

abbrev pub some_uninitialised : AbsState → Option ByteSpan → Bool
some_uninitialised s None = false
some_uninitialised s (Some bytes) = not (are_initialised s bytes)

abbrev pub bytes_loaded : Kind → ℤ → ℕ → Option ByteSpan
bytes_loaded (Stack lo hi) offset size = stack_span lo hi offset size
bytes_loaded _ offset size = None

abbrev pub row_is_uninitialised : AbsState → Option ℕ → ArgumentKind → Kind → Bool
row_is_uninitialised s (Some width) argument.RowRead k = some_uninitialised s (buffer_span k width)
row_is_uninitialised s _ _ k = false

unfoldable pub reads_uninitialised : Tables → Instruction → AbsState → Bool
reads_uninitialised tables (Load kind _ src offset) s = some_uninitialised s (bytes_loaded (kind_of s src) offset (load_bytes kind))
reads_uninitialised tables i s = has_argument (row_is_uninitialised s (table_width tables (kind_of s R1))) i s

abbrev pub replies_pointer : Instruction → AbsState → Bool
replies_pointer Exit s = is_pointer (kind_of s R0)
replies_pointer _ s = false

-- ---- the causes

-- each with whether it holds, the lowest first
abbrev pub causes : Tables → ℕ → Instruction → AbsState → List (Cause × Bool)
causes tables args_len i s =
    let width = table_width tables (kind_of s R1) in
    (HoldsNothing, holds_nothing i s)
    ∷ (WritesFramePointer, writes_frame_pointer i)
    ∷ (UsesPointer, uses_pointer i s)
    ∷ (OutsideMemory, is_outside args_len i s)
    ∷ (Uninitialised, reads_uninitialised tables i s)
    ∷ (UnknownHelper, is_unknown_helper i)
    ∷ (UnknownTable, has_argument (is_unknown_table tables) i s)
    ∷ (NoNumber, has_argument is_no_number i s)
    ∷ (NoBuffer, has_argument (is_no_buffer width) i s)
    ∷ (RepliesPointer, replies_pointer i s)
    ∷ (StoresToArguments, stores_to_arguments i s)
    ∷ []

-- the lowest that holds
unfoldable pub cause_of : Tables → ℕ → Instruction → AbsState → Option Cause
cause_of tables args_len i s = option_map (λ c. c.0) (find (λ c. c.1) (causes tables args_len i s))
