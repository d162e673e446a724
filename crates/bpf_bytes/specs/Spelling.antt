-- How each instruction is spelled: the fields of its slots, and their bytes (RFC 9669 sections 3, 4
-- and 5); and how a program is.
use Rattle.std.specs.Prelude.{ℕ, ℤ, pos, ◌/◌, ◌%◌, ◌^◌, List, [], ◌++◌, Option, Some, None}
use Rattle.std.specs.Int.{w32, cast_signed}
use Rattle.std.specs.List.{flat_map}
use Rattle.bpf_words.specs.declared.operation.BinaryOperation.{BinaryOperation}
use Rattle.bpf_words.specs.declared.operation.BinaryOperation.TheVariants as operation
use Rattle.bpf_words.specs.declared.operation.EndWidth.{EndWidth}
use Rattle.bpf_words.specs.declared.operation.EndWidth.TheVariants.{Low16, Low32, Low64}
use Rattle.bpf_bytes.specs.declared.fields.Fields.{Fields}
use Rattle.bpf_code.specs.declared.instruction.Width.TheVariants.{Bits32, Bits64}
use Rattle.bpf_code.specs.declared.instruction.SignExtendingMove.{SignExtendingMove}
use Rattle.bpf_code.specs.declared.instruction.SignExtendingMove.TheVariants.{From8To32, From16To32, From8To64, From16To64, From32To64}
use Rattle.bpf_code.specs.declared.instruction.Source.TheVariants as source
use Rattle.bpf_code.specs.declared.instruction.Instruction.{Instruction}
use Rattle.bpf_code.specs.declared.instruction.Instruction.TheVariants.{LoadWide, Load, StoreImmediate, StoreRegister, Arithmetic, Negate, MoveSignExtended, End, Jump, LongJump, Branch, Call, Exit}
use Rattle.bpf_bytes.specs.declared.opcode.ArithmeticCode.{ArithmeticCode}
use Rattle.bpf_bytes.specs.declared.opcode.ArithmeticCode.TheVariants as code
use Rattle.bpf_bytes.specs.declared.opcode.SourceKind.TheVariants.{Immediate, Register as InRegister}
use Rattle.bpf_bytes.specs.declared.opcode.Opcode.{Opcode}
use Rattle.bpf_bytes.specs.declared.opcode.Opcode.TheVariants as opcode
use Rattle.bpf_code.specs.Register.{number_of}
use Rattle.bpf_code.specs.Sizes.{extension_width}
use Rattle.bpf_code.specs.Program.{Program}
use Rattle.bpf_bytes.specs.Opcode.{byte_of}
use Rattle.bpf_bytes.specs.Fields.{bytes_of}

-- an operation's code, and the offset that goes with it
abbrev pub code_of : BinaryOperation → ArithmeticCode
code_of operation.Add = code.Add
code_of operation.Sub = code.Sub
code_of operation.Mul = code.Mul
code_of operation.Div = code.Div
code_of operation.Sdiv = code.Div
code_of operation.Or = code.Or
code_of operation.And = code.And
code_of operation.Lsh = code.Lsh
code_of operation.Rsh = code.Rsh
code_of operation.Mod = code.Mod
code_of operation.Smod = code.Mod
code_of operation.Xor = code.Xor
code_of operation.Mov = code.Mov
code_of operation.Arsh = code.Arsh

abbrev pub operation_offset : BinaryOperation → ℤ
operation_offset operation.Sdiv = pos 1
operation_offset operation.Smod = pos 1
operation_offset _ = pos 0

abbrev pub extension_offset : SignExtendingMove → ℤ
extension_offset From8To32 = pos 8
extension_offset From16To32 = pos 16
extension_offset From8To64 = pos 8
extension_offset From16To64 = pos 16
extension_offset From32To64 = pos 32

abbrev pub end_immediate : EndWidth → ℤ
end_immediate Low16 = pos 16
end_immediate Low32 = pos 32
end_immediate Low64 = pos 64

-- a slot by its opcode, dst, src, offset and immediate
abbrev pub slot : Opcode → ℕ → ℕ → ℤ → ℤ → Fields
slot o dst src offset immediate = record { opcode = byte_of o; dst = dst; src = src; offset = offset; immediate = immediate }

-- the slot of an instruction, the first one of the wide load
unfoldable pub fields_of : Instruction → Fields
fields_of (LoadWide dst value) = slot opcode.LoadWide (number_of dst) 0 (pos 0) (cast_signed w32 (value % 2 ^ 32))
fields_of (Load kind dst src offset) = slot (opcode.Load kind) (number_of dst) (number_of src) offset (pos 0)
fields_of (StoreImmediate size dst offset immediate) = slot (opcode.StoreImmediate size) (number_of dst) 0 offset immediate
fields_of (StoreRegister size dst src offset) = slot (opcode.StoreRegister size) (number_of dst) (number_of src) offset (pos 0)
fields_of (Arithmetic width op dst (source.Immediate immediate)) = slot (opcode.Arithmetic width (code_of op) Immediate) (number_of dst) 0 (operation_offset op) immediate
fields_of (Arithmetic width op dst (source.Register src)) = slot (opcode.Arithmetic width (code_of op) InRegister) (number_of dst) (number_of src) (operation_offset op) (pos 0)
fields_of (Negate width dst) = slot (opcode.Negate width) (number_of dst) 0 (pos 0) (pos 0)
fields_of (MoveSignExtended kind dst src) = slot (opcode.Arithmetic (extension_width kind) code.Mov InRegister) (number_of dst) (number_of src) (extension_offset kind) (pos 0)
fields_of (End order width dst) = slot (opcode.End order) (number_of dst) 0 (pos 0) (end_immediate width)
fields_of (Jump distance) = slot (opcode.Jump Bits64) 0 0 distance (pos 0)
fields_of (LongJump distance) = slot (opcode.Jump Bits32) 0 0 (pos 0) distance
fields_of (Branch width condition dst (source.Immediate immediate) distance) = slot (opcode.Branch width condition Immediate) (number_of dst) 0 distance immediate
fields_of (Branch width condition dst (source.Register src) distance) = slot (opcode.Branch width condition InRegister) (number_of dst) (number_of src) distance (pos 0)
fields_of (Call helper) = slot opcode.Call 0 0 (pos 0) helper
fields_of Exit = slot opcode.Exit 0 0 (pos 0) (pos 0)

-- the second slot of a wide load has the upper half of the value
abbrev pub second_half : ℕ → Fields
second_half high = record { opcode = 0; dst = 0; src = 0; offset = pos 0; immediate = cast_signed w32 high }

abbrev pub second_slot : Instruction → Option Fields
second_slot (LoadWide dst value) = Some (second_half (value / 2 ^ 32))
second_slot _ = None

abbrev pub slot_bytes : Option Fields → List ℕ
slot_bytes None = []
slot_bytes (Some f) = bytes_of f

unfoldable pub instruction_bytes : Instruction → List ℕ
instruction_bytes i = bytes_of (fields_of i) ++ slot_bytes (second_slot i)

-- ---- of a program

abbrev pub spelling_at : Option Instruction → List ℕ
spelling_at None = []
spelling_at (Some i) = instruction_bytes i

-- the bytes of the instructions, one after another
abbrev pub spelling : Program → List ℕ
spelling p = flat_map spelling_at p
