-- The bytes of a program decode to it.
use Rattle.std.proofs.Common.{◌≡◌, ℕ, ℤ, pos, ◌%◌, ◌^◌, ◌<◌, true, Some, Ok, refl, ap, ◌∙◌, arith}
use Rattle.std.specs.Option.{option_map}
use Rattle.std.specs.Int.{w32, cast_signed, cast_unsigned}
use Rattle.std.proofs.lemmas.Int.{of_z-to_z}
use Rattle.bpf_words.specs.declared.operation.BinaryOperation.{BinaryOperation}
use Rattle.bpf_words.specs.declared.operation.BinaryOperation.TheVariants as operation
use Rattle.bpf_words.specs.declared.operation.ByteOrder.TheVariants as order
use Rattle.bpf_words.specs.declared.operation.EndWidth.{EndWidth}
use Rattle.bpf_words.specs.declared.operation.EndWidth.TheVariants.{Low16, Low32, Low64}
use Rattle.bpf_words.specs.declared.condition.Condition.TheVariants as condition
use Rattle.bpf_bytes.specs.declared.fields.Fields.{Fields}
use Rattle.bpf_code.specs.declared.instruction.Register.{Register}
use Rattle.bpf_code.specs.declared.instruction.Register.TheVariants.{R0, R1, R2, R3, R4, R5, R6, R7, R8, R9, R10}
use Rattle.bpf_code.specs.declared.instruction.Width.{Width}
use Rattle.bpf_code.specs.declared.instruction.Width.TheVariants.{Bits32, Bits64}
use Rattle.bpf_code.specs.declared.instruction.Size.TheVariants.{Byte, HalfWord, Word, DoubleWord}
use Rattle.bpf_code.specs.declared.instruction.LoadKind.TheVariants.{U8, U16, U32, U64, I8, I16, I32}
use Rattle.bpf_code.specs.declared.instruction.SignExtendingMove.{SignExtendingMove}
use Rattle.bpf_code.specs.declared.instruction.SignExtendingMove.TheVariants.{From8To32, From16To32, From8To64, From16To64, From32To64}
use Rattle.bpf_code.specs.declared.instruction.Source.TheVariants as source
use Rattle.bpf_code.specs.declared.instruction.Instruction.{Instruction}
use Rattle.bpf_code.specs.declared.instruction.Instruction.TheVariants.{LoadWide, Load, StoreImmediate, StoreRegister, Arithmetic, Negate, MoveSignExtended, End, Jump, LongJump, Branch, Call, Exit}
use Rattle.bpf_bytes.specs.declared.opcode.ArithmeticCode.TheVariants as code
use Rattle.bpf_bytes.specs.declared.opcode.SourceKind.TheVariants.{Immediate, Register as InRegister}
use Rattle.bpf_bytes.specs.declared.opcode.Opcode.{Opcode}
use Rattle.bpf_bytes.specs.declared.opcode.Opcode.TheVariants as opcode
use Rattle.bpf_code.specs.Register.{number_of, register_of}
use Rattle.bpf_bytes.specs.Opcode.{byte_of, opcode_of, binary_of, branch_of, memory_of}
use Rattle.bpf_bytes.specs.Uses.{uses_of}
use Rattle.bpf_bytes.specs.Reading.{reading_of, half_reading_of, unused_are_zero, instruction_of, on_register, operation_of, extension_of, end_width_of}
use Rattle.bpf_bytes.specs.Spelling.{slot, fields_of, second_half, code_of, operation_offset, extension_offset, end_immediate}
use Rattle.bpf_code.specs.Sizes.{extension_width}

register_again : (r : Register) → register_of (number_of r) ≡ Some r
register_again R0 = refl
register_again R1 = refl
register_again R2 = refl
register_again R3 = refl
register_again R4 = refl
register_again R5 = refl
register_again R6 = refl
register_again R7 = refl
register_again R8 = refl
register_again R9 = refl
register_again R10 = refl

-- each opcode is read again from its byte
opcode_again : (o : Opcode) → opcode_of (byte_of o) ≡ Some o
unfolding opcode_of binary_of branch_of memory_of
opcode_again opcode.LoadWide = refl
opcode_again (opcode.Load U8) = refl
opcode_again (opcode.Load U16) = refl
opcode_again (opcode.Load U32) = refl
opcode_again (opcode.Load U64) = refl
opcode_again (opcode.Load I8) = refl
opcode_again (opcode.Load I16) = refl
opcode_again (opcode.Load I32) = refl
opcode_again (opcode.StoreImmediate Byte) = refl
opcode_again (opcode.StoreImmediate HalfWord) = refl
opcode_again (opcode.StoreImmediate Word) = refl
opcode_again (opcode.StoreImmediate DoubleWord) = refl
opcode_again (opcode.StoreRegister Byte) = refl
opcode_again (opcode.StoreRegister HalfWord) = refl
opcode_again (opcode.StoreRegister Word) = refl
opcode_again (opcode.StoreRegister DoubleWord) = refl
opcode_again (opcode.Arithmetic Bits32 code.Add Immediate) = refl
opcode_again (opcode.Arithmetic Bits32 code.Add InRegister) = refl
opcode_again (opcode.Arithmetic Bits32 code.Sub Immediate) = refl
opcode_again (opcode.Arithmetic Bits32 code.Sub InRegister) = refl
opcode_again (opcode.Arithmetic Bits32 code.Mul Immediate) = refl
opcode_again (opcode.Arithmetic Bits32 code.Mul InRegister) = refl
opcode_again (opcode.Arithmetic Bits32 code.Div Immediate) = refl
opcode_again (opcode.Arithmetic Bits32 code.Div InRegister) = refl
opcode_again (opcode.Arithmetic Bits32 code.Or Immediate) = refl
opcode_again (opcode.Arithmetic Bits32 code.Or InRegister) = refl
opcode_again (opcode.Arithmetic Bits32 code.And Immediate) = refl
opcode_again (opcode.Arithmetic Bits32 code.And InRegister) = refl
opcode_again (opcode.Arithmetic Bits32 code.Lsh Immediate) = refl
opcode_again (opcode.Arithmetic Bits32 code.Lsh InRegister) = refl
opcode_again (opcode.Arithmetic Bits32 code.Rsh Immediate) = refl
opcode_again (opcode.Arithmetic Bits32 code.Rsh InRegister) = refl
opcode_again (opcode.Arithmetic Bits32 code.Mod Immediate) = refl
opcode_again (opcode.Arithmetic Bits32 code.Mod InRegister) = refl
opcode_again (opcode.Arithmetic Bits32 code.Xor Immediate) = refl
opcode_again (opcode.Arithmetic Bits32 code.Xor InRegister) = refl
opcode_again (opcode.Arithmetic Bits32 code.Mov Immediate) = refl
opcode_again (opcode.Arithmetic Bits32 code.Mov InRegister) = refl
opcode_again (opcode.Arithmetic Bits32 code.Arsh Immediate) = refl
opcode_again (opcode.Arithmetic Bits32 code.Arsh InRegister) = refl
opcode_again (opcode.Arithmetic Bits64 code.Add Immediate) = refl
opcode_again (opcode.Arithmetic Bits64 code.Add InRegister) = refl
opcode_again (opcode.Arithmetic Bits64 code.Sub Immediate) = refl
opcode_again (opcode.Arithmetic Bits64 code.Sub InRegister) = refl
opcode_again (opcode.Arithmetic Bits64 code.Mul Immediate) = refl
opcode_again (opcode.Arithmetic Bits64 code.Mul InRegister) = refl
opcode_again (opcode.Arithmetic Bits64 code.Div Immediate) = refl
opcode_again (opcode.Arithmetic Bits64 code.Div InRegister) = refl
opcode_again (opcode.Arithmetic Bits64 code.Or Immediate) = refl
opcode_again (opcode.Arithmetic Bits64 code.Or InRegister) = refl
opcode_again (opcode.Arithmetic Bits64 code.And Immediate) = refl
opcode_again (opcode.Arithmetic Bits64 code.And InRegister) = refl
opcode_again (opcode.Arithmetic Bits64 code.Lsh Immediate) = refl
opcode_again (opcode.Arithmetic Bits64 code.Lsh InRegister) = refl
opcode_again (opcode.Arithmetic Bits64 code.Rsh Immediate) = refl
opcode_again (opcode.Arithmetic Bits64 code.Rsh InRegister) = refl
opcode_again (opcode.Arithmetic Bits64 code.Mod Immediate) = refl
opcode_again (opcode.Arithmetic Bits64 code.Mod InRegister) = refl
opcode_again (opcode.Arithmetic Bits64 code.Xor Immediate) = refl
opcode_again (opcode.Arithmetic Bits64 code.Xor InRegister) = refl
opcode_again (opcode.Arithmetic Bits64 code.Mov Immediate) = refl
opcode_again (opcode.Arithmetic Bits64 code.Mov InRegister) = refl
opcode_again (opcode.Arithmetic Bits64 code.Arsh Immediate) = refl
opcode_again (opcode.Arithmetic Bits64 code.Arsh InRegister) = refl
opcode_again (opcode.Negate Bits32) = refl
opcode_again (opcode.Negate Bits64) = refl
opcode_again (opcode.End order.Little) = refl
opcode_again (opcode.End order.Big) = refl
opcode_again (opcode.End order.Swap) = refl
opcode_again (opcode.Jump Bits32) = refl
opcode_again (opcode.Jump Bits64) = refl
opcode_again (opcode.Branch Bits32 condition.Eq Immediate) = refl
opcode_again (opcode.Branch Bits32 condition.Eq InRegister) = refl
opcode_again (opcode.Branch Bits32 condition.Gt Immediate) = refl
opcode_again (opcode.Branch Bits32 condition.Gt InRegister) = refl
opcode_again (opcode.Branch Bits32 condition.Ge Immediate) = refl
opcode_again (opcode.Branch Bits32 condition.Ge InRegister) = refl
opcode_again (opcode.Branch Bits32 condition.Set Immediate) = refl
opcode_again (opcode.Branch Bits32 condition.Set InRegister) = refl
opcode_again (opcode.Branch Bits32 condition.Ne Immediate) = refl
opcode_again (opcode.Branch Bits32 condition.Ne InRegister) = refl
opcode_again (opcode.Branch Bits32 condition.Sgt Immediate) = refl
opcode_again (opcode.Branch Bits32 condition.Sgt InRegister) = refl
opcode_again (opcode.Branch Bits32 condition.Sge Immediate) = refl
opcode_again (opcode.Branch Bits32 condition.Sge InRegister) = refl
opcode_again (opcode.Branch Bits32 condition.Lt Immediate) = refl
opcode_again (opcode.Branch Bits32 condition.Lt InRegister) = refl
opcode_again (opcode.Branch Bits32 condition.Le Immediate) = refl
opcode_again (opcode.Branch Bits32 condition.Le InRegister) = refl
opcode_again (opcode.Branch Bits32 condition.Slt Immediate) = refl
opcode_again (opcode.Branch Bits32 condition.Slt InRegister) = refl
opcode_again (opcode.Branch Bits32 condition.Sle Immediate) = refl
opcode_again (opcode.Branch Bits32 condition.Sle InRegister) = refl
opcode_again (opcode.Branch Bits64 condition.Eq Immediate) = refl
opcode_again (opcode.Branch Bits64 condition.Eq InRegister) = refl
opcode_again (opcode.Branch Bits64 condition.Gt Immediate) = refl
opcode_again (opcode.Branch Bits64 condition.Gt InRegister) = refl
opcode_again (opcode.Branch Bits64 condition.Ge Immediate) = refl
opcode_again (opcode.Branch Bits64 condition.Ge InRegister) = refl
opcode_again (opcode.Branch Bits64 condition.Set Immediate) = refl
opcode_again (opcode.Branch Bits64 condition.Set InRegister) = refl
opcode_again (opcode.Branch Bits64 condition.Ne Immediate) = refl
opcode_again (opcode.Branch Bits64 condition.Ne InRegister) = refl
opcode_again (opcode.Branch Bits64 condition.Sgt Immediate) = refl
opcode_again (opcode.Branch Bits64 condition.Sgt InRegister) = refl
opcode_again (opcode.Branch Bits64 condition.Sge Immediate) = refl
opcode_again (opcode.Branch Bits64 condition.Sge InRegister) = refl
opcode_again (opcode.Branch Bits64 condition.Lt Immediate) = refl
opcode_again (opcode.Branch Bits64 condition.Lt InRegister) = refl
opcode_again (opcode.Branch Bits64 condition.Le Immediate) = refl
opcode_again (opcode.Branch Bits64 condition.Le InRegister) = refl
opcode_again (opcode.Branch Bits64 condition.Slt Immediate) = refl
opcode_again (opcode.Branch Bits64 condition.Slt InRegister) = refl
opcode_again (opcode.Branch Bits64 condition.Sle Immediate) = refl
opcode_again (opcode.Branch Bits64 condition.Sle InRegister) = refl
opcode_again opcode.Call = refl
opcode_again opcode.Exit = refl

-- ---- a slot

-- a slot with a known opcode and registers reads as what its opcode makes of it
read_known : (o : Opcode) (dst src : Register) (offset immediate : ℤ) (made : Instruction) (f : Fields) → f ≡ slot o (number_of dst) (number_of src) offset immediate
    → unused_are_zero (uses_of o) f ≡ true → instruction_of o dst src f ≡ Some made → reading_of f ≡ Ok made
unfolding reading_of
read_known o dst src offset immediate made f e unused makes =
    rw (ap (λ (g : Fields). opcode_of g.opcode) e ∙ opcode_again o, ap (λ (g : Fields). register_of g.dst) e ∙ register_again dst, ap (λ (g : Fields). register_of g.src) e ∙ register_again src, unused, makes) refl

operation_again : (op : BinaryOperation) → operation_of (code_of op) (operation_offset op) ≡ Some op
unfolding operation_of
operation_again operation.Add = refl
operation_again operation.Sub = refl
operation_again operation.Mul = refl
operation_again operation.Div = refl
operation_again operation.Sdiv = refl
operation_again operation.Or = refl
operation_again operation.And = refl
operation_again operation.Lsh = refl
operation_again operation.Rsh = refl
operation_again operation.Mod = refl
operation_again operation.Smod = refl
operation_again operation.Xor = refl
operation_again operation.Mov = refl
operation_again operation.Arsh = refl

-- the first half of what is read
abbrev pub first_of : Instruction → Instruction
first_of (LoadWide dst value) = LoadWide dst (value % 2 ^ 32)
first_of i = i

unused_immediate : (width : Width) (op : BinaryOperation) (dst : Register) (immediate : ℤ)
    → unused_are_zero (uses_of (opcode.Arithmetic width (code_of op) Immediate)) (slot (opcode.Arithmetic width (code_of op) Immediate) (number_of dst) 0 (operation_offset op) immediate) ≡ true
unfolding unused_are_zero
unused_immediate width operation.Add dst immediate = refl
unused_immediate width operation.Sub dst immediate = refl
unused_immediate width operation.Mul dst immediate = refl
unused_immediate width operation.Div dst immediate = refl
unused_immediate width operation.Sdiv dst immediate = refl
unused_immediate width operation.Or dst immediate = refl
unused_immediate width operation.And dst immediate = refl
unused_immediate width operation.Lsh dst immediate = refl
unused_immediate width operation.Rsh dst immediate = refl
unused_immediate width operation.Mod dst immediate = refl
unused_immediate width operation.Smod dst immediate = refl
unused_immediate width operation.Xor dst immediate = refl
unused_immediate width operation.Mov dst immediate = refl
unused_immediate width operation.Arsh dst immediate = refl

unused_register : (width : Width) (op : BinaryOperation) (dst src : Register)
    → unused_are_zero (uses_of (opcode.Arithmetic width (code_of op) InRegister)) (slot (opcode.Arithmetic width (code_of op) InRegister) (number_of dst) (number_of src) (operation_offset op) (pos 0)) ≡ true
unfolding unused_are_zero
unused_register width operation.Add dst src = refl
unused_register width operation.Sub dst src = refl
unused_register width operation.Mul dst src = refl
unused_register width operation.Div dst src = refl
unused_register width operation.Sdiv dst src = refl
unused_register width operation.Or dst src = refl
unused_register width operation.And dst src = refl
unused_register width operation.Lsh dst src = refl
unused_register width operation.Rsh dst src = refl
unused_register width operation.Mod dst src = refl
unused_register width operation.Smod dst src = refl
unused_register width operation.Xor dst src = refl
unused_register width operation.Mov dst src = refl
unused_register width operation.Arsh dst src = refl

on_register_again : (width : Width) (op : BinaryOperation) (dst src : Register)
    → on_register width (code_of op) dst src (operation_offset op) ≡ Some (Arithmetic width op dst (source.Register src))
unfolding on_register operation_of
on_register_again width operation.Add dst src = refl
on_register_again width operation.Sub dst src = refl
on_register_again width operation.Mul dst src = refl
on_register_again width operation.Div dst src = refl
on_register_again width operation.Sdiv dst src = refl
on_register_again width operation.Or dst src = refl
on_register_again width operation.And dst src = refl
on_register_again width operation.Lsh dst src = refl
on_register_again width operation.Rsh dst src = refl
on_register_again width operation.Mod dst src = refl
on_register_again width operation.Smod dst src = refl
on_register_again width operation.Xor dst src = refl
on_register_again width operation.Mov dst src = refl
on_register_again width operation.Arsh dst src = refl

move_again : (kind : SignExtendingMove) (dst src : Register)
    → on_register (extension_width kind) code.Mov dst src (extension_offset kind) ≡ Some (MoveSignExtended kind dst src)
unfolding on_register extension_of
move_again From8To32 dst src = refl
move_again From16To32 dst src = refl
move_again From8To64 dst src = refl
move_again From16To64 dst src = refl
move_again From32To64 dst src = refl

end_width_again : (width : EndWidth) → end_width_of (end_immediate width) ≡ Some width
unfolding end_width_of
end_width_again Low16 = refl
end_width_again Low32 = refl
end_width_again Low64 = refl

-- each instruction is read again from its slot
pub read_again : (i : Instruction) → reading_of (fields_of i) ≡ Ok (first_of i)
unfolding fields_of unused_are_zero instruction_of
read_again (LoadWide dst value) =
    let low : cast_unsigned w32 (cast_signed w32 (value % 2 ^ 32)) ≡ value % 2 ^ 32 = of_z-to_z w32 (value % 2 ^ 32) (omega arith) in
    read_known opcode.LoadWide dst R0 (pos 0) (cast_signed w32 (value % 2 ^ 32)) (LoadWide dst (value % 2 ^ 32)) (fields_of (LoadWide dst value)) refl refl (ap (λ (v : ℕ). Some (LoadWide dst v)) low)
read_again (Load kind dst src offset) = read_known (opcode.Load kind) dst src offset (pos 0) (Load kind dst src offset) (fields_of (Load kind dst src offset)) refl refl refl
read_again (StoreImmediate size dst offset immediate) =
    read_known (opcode.StoreImmediate size) dst R0 offset immediate (StoreImmediate size dst offset immediate) (fields_of (StoreImmediate size dst offset immediate)) refl refl refl
read_again (StoreRegister size dst src offset) =
    read_known (opcode.StoreRegister size) dst src offset (pos 0) (StoreRegister size dst src offset) (fields_of (StoreRegister size dst src offset)) refl refl refl
read_again (Arithmetic width op dst (source.Immediate immediate)) =
    read_known (opcode.Arithmetic width (code_of op) Immediate) dst R0 (operation_offset op) immediate (Arithmetic width op dst (source.Immediate immediate))
    (fields_of (Arithmetic width op dst (source.Immediate immediate))) refl (unused_immediate width op dst immediate)
    (ap (option_map (λ (o : BinaryOperation). Arithmetic width o dst (source.Immediate immediate))) (operation_again op))
read_again (Arithmetic width op dst (source.Register src)) =
    read_known (opcode.Arithmetic width (code_of op) InRegister) dst src (operation_offset op) (pos 0) (Arithmetic width op dst (source.Register src))
    (fields_of (Arithmetic width op dst (source.Register src))) refl (unused_register width op dst src) (on_register_again width op dst src)
read_again (Negate width dst) = read_known (opcode.Negate width) dst R0 (pos 0) (pos 0) (Negate width dst) (fields_of (Negate width dst)) refl refl refl
read_again (MoveSignExtended kind dst src) =
    read_known (opcode.Arithmetic (extension_width kind) code.Mov InRegister) dst src (extension_offset kind) (pos 0) (MoveSignExtended kind dst src)
    (fields_of (MoveSignExtended kind dst src)) refl refl (move_again kind dst src)
read_again (End order width dst) =
    read_known (opcode.End order) dst R0 (pos 0) (end_immediate width) (End order width dst) (fields_of (End order width dst)) refl refl
    (ap (option_map (λ (w : EndWidth). End order w dst)) (end_width_again width))
read_again (Jump distance) = read_known (opcode.Jump Bits64) R0 R0 distance (pos 0) (Jump distance) (fields_of (Jump distance)) refl refl refl
read_again (LongJump distance) = read_known (opcode.Jump Bits32) R0 R0 (pos 0) distance (LongJump distance) (fields_of (LongJump distance)) refl refl refl
read_again (Branch width condition dst (source.Immediate immediate) distance) =
    read_known (opcode.Branch width condition Immediate) dst R0 distance immediate (Branch width condition dst (source.Immediate immediate) distance)
    (fields_of (Branch width condition dst (source.Immediate immediate) distance)) refl refl refl
read_again (Branch width condition dst (source.Register src) distance) =
    read_known (opcode.Branch width condition InRegister) dst src distance (pos 0) (Branch width condition dst (source.Register src) distance)
    (fields_of (Branch width condition dst (source.Register src) distance)) refl refl refl
read_again (Call helper) = read_known opcode.Call R0 R0 (pos 0) helper (Call helper) (fields_of (Call helper)) refl refl refl
read_again Exit = read_known opcode.Exit R0 R0 (pos 0) (pos 0) Exit (fields_of Exit) refl refl refl

pub read_half_again : (high : ℕ) → high < 2 ^ 32 → half_reading_of (second_half high) ≡ Ok high
unfolding half_reading_of unused_are_zero
read_half_again high fits = ap (λ (h : ℕ). Ok h) (of_z-to_z w32 high fits)
