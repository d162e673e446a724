-- What the fields of a slot read as: an instruction, or the lowest of their faults. For a wide load
-- the value is so far that of the first half.
use Rattle.std.specs.Prelude.{ℕ, ℤ, pos, ◌==◌, ◌&&◌, ◌||◌, not, Bool, true, false, if◌then◌else◌, Option, Some, None, Result, Ok, Err}
use Rattle.std.specs.Ordering.{int_eq}
use Rattle.std.specs.Option.{option_map}
use Rattle.std.specs.Int.{w32, cast_unsigned}
use Rattle.bpf_words.specs.declared.operation.BinaryOperation.{BinaryOperation}
use Rattle.bpf_words.specs.declared.operation.BinaryOperation.TheVariants as operation
use Rattle.bpf_words.specs.declared.operation.EndWidth.{EndWidth}
use Rattle.bpf_words.specs.declared.operation.EndWidth.TheVariants.{Low16, Low32, Low64}
use Rattle.bpf_bytes.specs.declared.fault.DecodeCause.{DecodeCause}
use Rattle.bpf_bytes.specs.declared.fault.DecodeCause.TheVariants.{UnknownOpcode, RegisterNumber, UnusedField, UndefinedValue}
use Rattle.bpf_bytes.specs.declared.fields.Fields.{Fields}
use Rattle.bpf_code.specs.declared.instruction.Register.{Register}
use Rattle.bpf_code.specs.declared.instruction.Width.{Width}
use Rattle.bpf_code.specs.declared.instruction.Width.TheVariants.{Bits32, Bits64}
use Rattle.bpf_code.specs.declared.instruction.SignExtendingMove.{SignExtendingMove}
use Rattle.bpf_code.specs.declared.instruction.SignExtendingMove.TheVariants.{From8To32, From16To32, From8To64, From16To64, From32To64}
use Rattle.bpf_code.specs.declared.instruction.Source.TheVariants as source
use Rattle.bpf_code.specs.declared.instruction.Instruction.{Instruction}
use Rattle.bpf_code.specs.declared.instruction.Instruction.TheVariants as instruction
use Rattle.bpf_bytes.specs.declared.opcode.ArithmeticCode.{ArithmeticCode}
use Rattle.bpf_bytes.specs.declared.opcode.ArithmeticCode.TheVariants.{Add, Sub, Mul, Div, Or, And, Lsh, Rsh, Mod, Xor, Mov, Arsh}
use Rattle.bpf_bytes.specs.declared.opcode.SourceKind.TheVariants.{Immediate, Register as InRegister}
use Rattle.bpf_bytes.specs.declared.opcode.Uses.{Uses}
use Rattle.bpf_bytes.specs.declared.opcode.Opcode.{Opcode}
use Rattle.bpf_bytes.specs.declared.opcode.Opcode.TheVariants.{LoadWide, Load, StoreImmediate, StoreRegister, Arithmetic, Negate, End, Jump, Branch, Call, Exit}
use Rattle.bpf_code.specs.Register.{register_of}
use Rattle.bpf_bytes.specs.Opcode.{opcode_of}
use Rattle.bpf_bytes.specs.Uses.{fields_used, uses_of}

-- ---- the fields that an opcode doesn't use

unfoldable pub unused_are_zero : Uses → Fields → Bool
unused_are_zero used f =
    (used.dst || f.dst == 0) && (used.src || f.src == 0)
    && (used.offset || int_eq f.offset (pos 0)) && (used.immediate || int_eq f.immediate (pos 0))

-- ---- the instruction of an opcode and the fields that it uses; none where a value isn't defined

-- the offset 1 makes a division signed
abbrev pub signed_or : BinaryOperation → BinaryOperation → ℤ → Option BinaryOperation
signed_or plain signed offset = if int_eq offset (pos 0) then Some plain else if int_eq offset (pos 1) then Some signed else None

unfoldable pub operation_of : ArithmeticCode → ℤ → Option BinaryOperation
operation_of Add _ = Some operation.Add
operation_of Sub _ = Some operation.Sub
operation_of Mul _ = Some operation.Mul
operation_of Div offset = signed_or operation.Div operation.Sdiv offset
operation_of Or _ = Some operation.Or
operation_of And _ = Some operation.And
operation_of Lsh _ = Some operation.Lsh
operation_of Rsh _ = Some operation.Rsh
operation_of Mod offset = signed_or operation.Mod operation.Smod offset
operation_of Xor _ = Some operation.Xor
operation_of Mov _ = Some operation.Mov
operation_of Arsh _ = Some operation.Arsh

-- a MOV from a register with an offset extends the sign of so many low bits
unfoldable pub extension_of : Width → ℤ → Option SignExtendingMove
extension_of Bits32 offset =
    if int_eq offset (pos 8) then Some From8To32
    else if int_eq offset (pos 16) then Some From16To32
    else None
extension_of Bits64 offset =
    if int_eq offset (pos 8) then Some From8To64
    else if int_eq offset (pos 16) then Some From16To64
    else if int_eq offset (pos 32) then Some From32To64
    else None

unfoldable pub end_width_of : ℤ → Option EndWidth
end_width_of immediate =
    if int_eq immediate (pos 16) then Some Low16
    else if int_eq immediate (pos 32) then Some Low32
    else if int_eq immediate (pos 64) then Some Low64
    else None

abbrev pub is_move : ArithmeticCode → Bool
is_move Mov = true
is_move _ = false

-- an operation on dst and a register
unfoldable pub on_register : Width → ArithmeticCode → Register → Register → ℤ → Option Instruction
on_register width code dst src offset =
    if is_move code && not (int_eq offset (pos 0))
    then option_map (λ kind. instruction.MoveSignExtended kind dst src) (extension_of width offset)
    else option_map (λ op. instruction.Arithmetic width op dst (source.Register src)) (operation_of code offset)

-- src_reg 0 is the only one that the profile defines for the wide load and the call
abbrev pub with_src_0 : ℕ → Instruction → Option Instruction
with_src_0 src made = if src == 0 then Some made else None

unfoldable pub instruction_of : Opcode → Register → Register → Fields → Option Instruction
instruction_of LoadWide dst _ f = with_src_0 f.src (instruction.LoadWide dst (cast_unsigned w32 f.immediate))
instruction_of (Load kind) dst src f = Some (instruction.Load kind dst src f.offset)
instruction_of (StoreImmediate size) dst _ f = Some (instruction.StoreImmediate size dst f.offset f.immediate)
instruction_of (StoreRegister size) dst src f = Some (instruction.StoreRegister size dst src f.offset)
instruction_of (Arithmetic width code Immediate) dst _ f = option_map (λ op. instruction.Arithmetic width op dst (source.Immediate f.immediate)) (operation_of code f.offset)
instruction_of (Arithmetic width code InRegister) dst src f = on_register width code dst src f.offset
instruction_of (Negate width) dst _ _ = Some (instruction.Negate width dst)
instruction_of (End order) dst _ f = option_map (λ width. instruction.End order width dst) (end_width_of f.immediate)
instruction_of (Jump Bits64) _ _ f = Some (instruction.Jump f.offset)
instruction_of (Jump Bits32) _ _ f = Some (instruction.LongJump f.immediate)
instruction_of (Branch width condition Immediate) dst _ f = Some (instruction.Branch width condition dst (source.Immediate f.immediate) f.offset)
instruction_of (Branch width condition InRegister) dst src f = Some (instruction.Branch width condition dst (source.Register src) f.offset)
instruction_of Call _ _ f = with_src_0 f.src (instruction.Call f.immediate)
instruction_of Exit _ _ _ = Some instruction.Exit

-- ---- a slot

abbrev pub or_fault : {A : Type 0} → DecodeCause → Option A → (A → Result Instruction DecodeCause) → Result Instruction DecodeCause
or_fault cause None next = Err cause
or_fault cause (Some x) next = next x

-- the first slot of an instruction: its opcode, its registers, its unused fields, its values
unfoldable pub reading_of : Fields → Result Instruction DecodeCause
reading_of f =
    or_fault UnknownOpcode (opcode_of f.opcode) (λ opcode.
    or_fault RegisterNumber (register_of f.dst) (λ dst.
    or_fault RegisterNumber (register_of f.src) (λ src.
    if unused_are_zero (uses_of opcode) f
    then or_fault UndefinedValue (instruction_of opcode dst src f) (λ made. Ok made)
    else Err UnusedField)))

-- the second slot of a wide load has an immediate and nothing else: the upper half of the value
unfoldable pub half_reading_of : Fields → Result ℕ DecodeCause
half_reading_of f = if unused_are_zero (fields_used false false false true) f && f.opcode == 0 then Ok (cast_unsigned w32 f.immediate) else Err UnusedField
