-- One instruction, one equation a form (RFC 9669 sections 4 and 5; places, and what is stuck, are this product's
-- own). What can't be run is stuck: a value that is nothing is read, a place is stored, computed with or moved too far,
-- an address or a call is wrong, r10 is written, a jump goes backwards, no instruction begins at the slot, r0 is no
-- number at EXIT.
use Rattle.std.specs.Prelude.{ℕ, Bool, true, false, ◌+◌, ℤ, pos, negsuc, ◌+ℤ◌, neg_ℤ, nat_le, unsigned_abs, if◌then◌else◌, List, length, Option, Some, None}
use Rattle.std.specs.Option.{option_map}
use Rattle.std.specs.Int.{w64, cast_signed, cast_unsigned}
use Rattle.byteorder.specs.Endian.{little_number, little_bytes}
use Rattle.bpf_words.specs.declared.operation.BinaryOperation.{BinaryOperation}
use Rattle.bpf_words.specs.declared.operation.BinaryOperation.TheVariants.{Add, Sub, Mov}
use Rattle.bpf_words.specs.declared.operation.SignExtension.{SignExtension}
use Rattle.bpf_words.specs.declared.operation.SignExtension.TheVariants.{From8, From16, From32}
use Rattle.bpf_words.specs.declared.operation.Operation.TheVariants.{Binary, Neg, Movsx}
use Rattle.bpf_words.specs.Operation.{alu}
use Rattle.bpf_words.specs.Condition.{holds}
use Rattle.bpf_words.specs.End.{end_value}
use Rattle.bpf_code.specs.declared.instruction.Register.{Register}
use Rattle.bpf_code.specs.declared.instruction.Register.TheVariants.{R0, R10}
use Rattle.bpf_code.specs.declared.instruction.Width.{Width}
use Rattle.bpf_code.specs.declared.instruction.Width.TheVariants.{Bits32, Bits64}
use Rattle.bpf_code.specs.declared.instruction.SignExtendingMove.{SignExtendingMove}
use Rattle.bpf_code.specs.declared.instruction.SignExtendingMove.TheVariants.{From8To32, From16To32, From8To64, From16To64, From32To64}
use Rattle.bpf_code.specs.declared.instruction.Source.{Source}
use Rattle.bpf_code.specs.declared.instruction.Source.TheVariants as source
use Rattle.bpf_code.specs.declared.instruction.Instruction.{Instruction}
use Rattle.bpf_code.specs.declared.instruction.Instruction.TheVariants.{LoadWide, Load, StoreImmediate, StoreRegister, Arithmetic, Negate, MoveSignExtended, End, Jump, LongJump, Branch, Call, Exit}
use Rattle.bpf_code.specs.Sizes.{width_bits, size_bytes, load_bytes, extension_width}
use Rattle.bpf_code.specs.Program.{Program, instruction_at}
use Rattle.schema.specs.Schema.{Tables}
use Rattle.schema.specs.Helper.{helper_of}
use Rattle.bpf_semantics.specs.declared.value.Value.{Value}
use Rattle.bpf_semantics.specs.declared.value.Value.TheVariants.{Number, Stack, Args}
use Rattle.bpf_semantics.specs.State.{State, register, with_register, past, number}
use Rattle.bpf_semantics.specs.Memory.{◌>>=◌, load_value, memory_bytes, memory_with_store}
use Rattle.bpf_semantics.specs.Helpers.{with_stack, state_after_call}

-- the state after an instruction; the reply at EXIT, and the state there; or that there is no step
pub data Moment : Type 0 where
  Going : State → Moment
  Ended : ℕ → State → Moment
  Stuck : Moment

unfoldable pub or_stuck : {X : Type 0} → Option X → (X → Moment) → Moment
or_stuck None next = Stuck
or_stuck (Some x) next = next x

-- an immediate is sign-extended to 64 bits; 32-bit forms take the low 32 bits (in `alu` and `holds`)
abbrev pub operand : State → Source → Value
operand s (source.Immediate immediate) = Number (cast_unsigned w64 immediate)
operand s (source.Register r) = register s r

abbrev pub low_bits : SignExtendingMove → SignExtension
low_bits From8To32 = From8
low_bits From16To32 = From16
low_bits From8To64 = From8
low_bits From16To64 = From16
low_bits From32To64 = From32

-- ---- places

-- a place may be as far away as 65,536
abbrev pub near_place : ℤ → Option ℤ
near_place place = if nat_le (unsigned_abs place) 65536 then Some place else None

abbrev pub moved_place : Value → ℤ → Option Value
moved_place (Stack place) distance = option_map (λ p. Stack p) (near_place (place +ℤ distance))
moved_place (Args place) distance = option_map (λ p. Args p) (near_place (place +ℤ distance))
moved_place _ distance = None

-- MOV reads its source alone, and at 64 bits copies a place
abbrev pub move_result : Width → Value → Option Value
move_result width (Number b) = Some (Number (alu (width_bits width) (Binary Mov) 0 b))
move_result Bits64 (Stack place) = Some (Stack place)
move_result Bits64 (Args place) = Some (Args place)
move_result _ _ = None

-- a 64-bit ADD or SUB moves a place by a number, read as signed; nothing else has a step
abbrev pub place_result : Width → BinaryOperation → Value → ℕ → Option Value
place_result Bits64 Add a b = moved_place a (cast_signed w64 b)
place_result Bits64 Sub a b = moved_place a (neg_ℤ (cast_signed w64 b))
place_result _ _ a b = None

-- numbers give numbers; no number plus a place, no place minus a place
abbrev pub binary_result : Width → BinaryOperation → Value → Value → Option Value
binary_result width op (Number a) (Number b) = Some (Number (alu (width_bits width) (Binary op) a b))
binary_result width op a (Number b) = place_result width op a b
binary_result _ _ _ _ = None

abbrev pub is_move_operation : BinaryOperation → Bool
is_move_operation Mov = true
is_move_operation _ = false

-- what an operation gives on two values
unfoldable pub operation_result : Width → BinaryOperation → Value → Value → Option Value
operation_result width op a b = if is_move_operation op then move_result width b else binary_result width op a b

-- ---- the step

-- r10 is read only
abbrev pub is_read_only : Register → Bool
is_read_only R10 = true
is_read_only _ = false

-- so many slots on, with a value in a register that may be written
abbrev pub with_result : ℕ → Register → Value → State → Moment
with_result slots dst v s = if is_read_only dst then Stuck else Going (past slots (with_register s dst v))

abbrev pub with_store : Option (List (Option ℕ)) → State → Moment
with_store written s = or_stuck written (λ stack. Going (past 1 (with_stack stack s)))

-- to the slot this far past the next one
abbrev pub after_jump : ℤ → State → Moment
after_jump (pos distance) s = Going (past (1 + distance) s)
after_jump (negsuc _) s = Stuck

unfoldable pub execute : Tables → Instruction → State → Moment
execute tables (LoadWide dst value) s = with_result 2 dst (Number value) s
execute tables (Load kind dst src offset) s =
    or_stuck (memory_bytes s.stack s.args (register s src) offset (load_bytes kind)) (λ bytes.
    with_result 1 dst (Number (load_value kind (little_number (length bytes) bytes))) s)
execute tables (StoreImmediate size dst offset immediate) s =
    let bytes = little_bytes (size_bytes size) (cast_unsigned w64 immediate) in
    with_store (memory_with_store s.stack (register s dst) offset bytes) s
execute tables (StoreRegister size dst src offset) s =
    or_stuck (number (register s src)) (λ n.
    with_store (memory_with_store s.stack (register s dst) offset (little_bytes (size_bytes size) n)) s)
execute tables (Arithmetic width op dst src) s =
    or_stuck (operation_result width op (register s dst) (operand s src)) (λ v. with_result 1 dst v s)
execute tables (Negate width dst) s =
    or_stuck (number (register s dst)) (λ a. with_result 1 dst (Number (alu (width_bits width) Neg a 0)) s)
execute tables (MoveSignExtended kind dst src) s =
    or_stuck (number (register s src)) (λ b.
    with_result 1 dst (Number (alu (width_bits (extension_width kind)) (Movsx (low_bits kind)) 0 b)) s)
execute tables (End order width dst) s =
    or_stuck (number (register s dst)) (λ a. with_result 1 dst (Number (end_value order width a)) s)
execute tables (Jump distance) s = after_jump distance s
execute tables (LongJump distance) s = after_jump distance s
execute tables (Branch width condition dst src distance) s =
    or_stuck (number (register s dst)) (λ a.
    or_stuck (number (operand s src)) (λ b.
    if holds (width_bits width) condition a b then after_jump distance s else Going (past 1 s)))
execute tables (Call helper) s =
    or_stuck (helper_of helper >>= λ h. state_after_call tables h s) (λ t. Going (past 1 t))
execute tables Exit s = or_stuck (number (register s R0)) (λ reply. Ended reply (past 0 s))

-- the instruction at the state's slot; stuck where none begins there
unfoldable pub step : Program → Tables → State → Moment
step p tables s = or_stuck (instruction_at p s.slot) (λ i. execute tables i s)
