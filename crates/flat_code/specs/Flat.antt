-- What a flat instruction is as an instruction of a program, and the layout of a program.
use Rattle.std.specs.Prelude.{◌≡◌, ℕ, ℤ, List, length, slice_get, Some}
use Rattle.std.specs.Option.{option_map}
use Rattle.std.specs.Int.{w64, cast_signed}
use Rattle.bpf_words.specs.declared.operation.BinaryOperation.TheVariants as operation
use Rattle.bpf_words.specs.declared.condition.Condition.TheVariants as condition
use Rattle.bpf_words.specs.declared.operation.ByteOrder.TheVariants as order
use Rattle.bpf_words.specs.declared.operation.EndWidth.TheVariants as end
use Rattle.bpf_code.specs.declared.instruction.Register.{Register}
use Rattle.bpf_code.specs.declared.instruction.Width.TheVariants.{Bits32, Bits64}
use Rattle.bpf_code.specs.declared.instruction.SignExtendingMove.TheVariants as extension
use Rattle.bpf_code.specs.declared.instruction.LoadKind.TheVariants as load
use Rattle.bpf_code.specs.declared.instruction.Size.TheVariants as size
use Rattle.bpf_code.specs.declared.instruction.Source.{Source}
use Rattle.bpf_code.specs.declared.instruction.Source.TheVariants as source
use Rattle.bpf_code.specs.declared.instruction.Instruction.{Instruction}
use Rattle.bpf_code.specs.declared.instruction.Instruction.TheVariants.{LoadWide, Load, StoreImmediate, StoreRegister, Arithmetic, Negate, MoveSignExtended, End, Jump, LongJump, Branch, Call, Exit}
use Rattle.bpf_code.specs.Program.{Program, instruction_at}
use Rattle.flat_code.specs.declared.kind.Kind.{Kind}
use Rattle.flat_code.specs.declared.kind.Kind.TheVariants as kind
use Rattle.flat_code.specs.declared.instruction.FlatInstruction.{FlatInstruction}

-- the number whose 64 bits, in two's complement, are the word
abbrev pub signed : ℕ → ℤ
signed n = cast_signed w64 n

-- an immediate that stands as a word
abbrev pub widened : ℕ → Source
widened n = source.Immediate (cast_signed w64 n)

-- of a kind, with these registers, this offset and this word; what a form hasn't says nothing
unfoldable pub instruction_by : Kind → Register → Register → ℤ → ℕ → Instruction
instruction_by kind.Add64Immediate dst src offset n = Arithmetic Bits64 operation.Add dst (widened n)
instruction_by kind.Sub64Immediate dst src offset n = Arithmetic Bits64 operation.Sub dst (widened n)
instruction_by kind.Mul64Immediate dst src offset n = Arithmetic Bits64 operation.Mul dst (widened n)
instruction_by kind.Div64Immediate dst src offset n = Arithmetic Bits64 operation.Div dst (widened n)
instruction_by kind.Sdiv64Immediate dst src offset n = Arithmetic Bits64 operation.Sdiv dst (widened n)
instruction_by kind.Or64Immediate dst src offset n = Arithmetic Bits64 operation.Or dst (widened n)
instruction_by kind.And64Immediate dst src offset n = Arithmetic Bits64 operation.And dst (widened n)
instruction_by kind.Lsh64Immediate dst src offset n = Arithmetic Bits64 operation.Lsh dst (widened n)
instruction_by kind.Rsh64Immediate dst src offset n = Arithmetic Bits64 operation.Rsh dst (widened n)
instruction_by kind.Mod64Immediate dst src offset n = Arithmetic Bits64 operation.Mod dst (widened n)
instruction_by kind.Smod64Immediate dst src offset n = Arithmetic Bits64 operation.Smod dst (widened n)
instruction_by kind.Xor64Immediate dst src offset n = Arithmetic Bits64 operation.Xor dst (widened n)
instruction_by kind.Mov64Immediate dst src offset n = Arithmetic Bits64 operation.Mov dst (widened n)
instruction_by kind.Arsh64Immediate dst src offset n = Arithmetic Bits64 operation.Arsh dst (widened n)
instruction_by kind.Add64Register dst src offset n = Arithmetic Bits64 operation.Add dst (source.Register src)
instruction_by kind.Sub64Register dst src offset n = Arithmetic Bits64 operation.Sub dst (source.Register src)
instruction_by kind.Mul64Register dst src offset n = Arithmetic Bits64 operation.Mul dst (source.Register src)
instruction_by kind.Div64Register dst src offset n = Arithmetic Bits64 operation.Div dst (source.Register src)
instruction_by kind.Sdiv64Register dst src offset n = Arithmetic Bits64 operation.Sdiv dst (source.Register src)
instruction_by kind.Or64Register dst src offset n = Arithmetic Bits64 operation.Or dst (source.Register src)
instruction_by kind.And64Register dst src offset n = Arithmetic Bits64 operation.And dst (source.Register src)
instruction_by kind.Lsh64Register dst src offset n = Arithmetic Bits64 operation.Lsh dst (source.Register src)
instruction_by kind.Rsh64Register dst src offset n = Arithmetic Bits64 operation.Rsh dst (source.Register src)
instruction_by kind.Mod64Register dst src offset n = Arithmetic Bits64 operation.Mod dst (source.Register src)
instruction_by kind.Smod64Register dst src offset n = Arithmetic Bits64 operation.Smod dst (source.Register src)
instruction_by kind.Xor64Register dst src offset n = Arithmetic Bits64 operation.Xor dst (source.Register src)
instruction_by kind.Mov64Register dst src offset n = Arithmetic Bits64 operation.Mov dst (source.Register src)
instruction_by kind.Arsh64Register dst src offset n = Arithmetic Bits64 operation.Arsh dst (source.Register src)
instruction_by kind.Add32Immediate dst src offset n = Arithmetic Bits32 operation.Add dst (widened n)
instruction_by kind.Sub32Immediate dst src offset n = Arithmetic Bits32 operation.Sub dst (widened n)
instruction_by kind.Mul32Immediate dst src offset n = Arithmetic Bits32 operation.Mul dst (widened n)
instruction_by kind.Div32Immediate dst src offset n = Arithmetic Bits32 operation.Div dst (widened n)
instruction_by kind.Sdiv32Immediate dst src offset n = Arithmetic Bits32 operation.Sdiv dst (widened n)
instruction_by kind.Or32Immediate dst src offset n = Arithmetic Bits32 operation.Or dst (widened n)
instruction_by kind.And32Immediate dst src offset n = Arithmetic Bits32 operation.And dst (widened n)
instruction_by kind.Lsh32Immediate dst src offset n = Arithmetic Bits32 operation.Lsh dst (widened n)
instruction_by kind.Rsh32Immediate dst src offset n = Arithmetic Bits32 operation.Rsh dst (widened n)
instruction_by kind.Mod32Immediate dst src offset n = Arithmetic Bits32 operation.Mod dst (widened n)
instruction_by kind.Smod32Immediate dst src offset n = Arithmetic Bits32 operation.Smod dst (widened n)
instruction_by kind.Xor32Immediate dst src offset n = Arithmetic Bits32 operation.Xor dst (widened n)
instruction_by kind.Mov32Immediate dst src offset n = Arithmetic Bits32 operation.Mov dst (widened n)
instruction_by kind.Arsh32Immediate dst src offset n = Arithmetic Bits32 operation.Arsh dst (widened n)
instruction_by kind.Add32Register dst src offset n = Arithmetic Bits32 operation.Add dst (source.Register src)
instruction_by kind.Sub32Register dst src offset n = Arithmetic Bits32 operation.Sub dst (source.Register src)
instruction_by kind.Mul32Register dst src offset n = Arithmetic Bits32 operation.Mul dst (source.Register src)
instruction_by kind.Div32Register dst src offset n = Arithmetic Bits32 operation.Div dst (source.Register src)
instruction_by kind.Sdiv32Register dst src offset n = Arithmetic Bits32 operation.Sdiv dst (source.Register src)
instruction_by kind.Or32Register dst src offset n = Arithmetic Bits32 operation.Or dst (source.Register src)
instruction_by kind.And32Register dst src offset n = Arithmetic Bits32 operation.And dst (source.Register src)
instruction_by kind.Lsh32Register dst src offset n = Arithmetic Bits32 operation.Lsh dst (source.Register src)
instruction_by kind.Rsh32Register dst src offset n = Arithmetic Bits32 operation.Rsh dst (source.Register src)
instruction_by kind.Mod32Register dst src offset n = Arithmetic Bits32 operation.Mod dst (source.Register src)
instruction_by kind.Smod32Register dst src offset n = Arithmetic Bits32 operation.Smod dst (source.Register src)
instruction_by kind.Xor32Register dst src offset n = Arithmetic Bits32 operation.Xor dst (source.Register src)
instruction_by kind.Mov32Register dst src offset n = Arithmetic Bits32 operation.Mov dst (source.Register src)
instruction_by kind.Arsh32Register dst src offset n = Arithmetic Bits32 operation.Arsh dst (source.Register src)
instruction_by kind.Neg64 dst src offset n = Negate Bits64 dst
instruction_by kind.Neg32 dst src offset n = Negate Bits32 dst
instruction_by kind.MoveFrom8To32 dst src offset n = MoveSignExtended extension.From8To32 dst src
instruction_by kind.MoveFrom16To32 dst src offset n = MoveSignExtended extension.From16To32 dst src
instruction_by kind.MoveFrom8To64 dst src offset n = MoveSignExtended extension.From8To64 dst src
instruction_by kind.MoveFrom16To64 dst src offset n = MoveSignExtended extension.From16To64 dst src
instruction_by kind.MoveFrom32To64 dst src offset n = MoveSignExtended extension.From32To64 dst src
instruction_by kind.Little16 dst src offset n = End order.Little end.Low16 dst
instruction_by kind.Little32 dst src offset n = End order.Little end.Low32 dst
instruction_by kind.Little64 dst src offset n = End order.Little end.Low64 dst
instruction_by kind.Big16 dst src offset n = End order.Big end.Low16 dst
instruction_by kind.Big32 dst src offset n = End order.Big end.Low32 dst
instruction_by kind.Big64 dst src offset n = End order.Big end.Low64 dst
instruction_by kind.Swap16 dst src offset n = End order.Swap end.Low16 dst
instruction_by kind.Swap32 dst src offset n = End order.Swap end.Low32 dst
instruction_by kind.Swap64 dst src offset n = End order.Swap end.Low64 dst
instruction_by kind.LoadU8 dst src offset n = Load load.U8 dst src offset
instruction_by kind.LoadU16 dst src offset n = Load load.U16 dst src offset
instruction_by kind.LoadU32 dst src offset n = Load load.U32 dst src offset
instruction_by kind.LoadU64 dst src offset n = Load load.U64 dst src offset
instruction_by kind.LoadI8 dst src offset n = Load load.I8 dst src offset
instruction_by kind.LoadI16 dst src offset n = Load load.I16 dst src offset
instruction_by kind.LoadI32 dst src offset n = Load load.I32 dst src offset
instruction_by kind.Store8Immediate dst src offset n = StoreImmediate size.Byte dst offset (signed n)
instruction_by kind.Store16Immediate dst src offset n = StoreImmediate size.HalfWord dst offset (signed n)
instruction_by kind.Store32Immediate dst src offset n = StoreImmediate size.Word dst offset (signed n)
instruction_by kind.Store64Immediate dst src offset n = StoreImmediate size.DoubleWord dst offset (signed n)
instruction_by kind.Store8Register dst src offset n = StoreRegister size.Byte dst src offset
instruction_by kind.Store16Register dst src offset n = StoreRegister size.HalfWord dst src offset
instruction_by kind.Store32Register dst src offset n = StoreRegister size.Word dst src offset
instruction_by kind.Store64Register dst src offset n = StoreRegister size.DoubleWord dst src offset
instruction_by kind.Jump dst src offset n = Jump offset
instruction_by kind.LongJump dst src offset n = LongJump (signed n)
instruction_by kind.BranchEq64Immediate dst src offset n = Branch Bits64 condition.Eq dst (widened n) offset
instruction_by kind.BranchGt64Immediate dst src offset n = Branch Bits64 condition.Gt dst (widened n) offset
instruction_by kind.BranchGe64Immediate dst src offset n = Branch Bits64 condition.Ge dst (widened n) offset
instruction_by kind.BranchSet64Immediate dst src offset n = Branch Bits64 condition.Set dst (widened n) offset
instruction_by kind.BranchNe64Immediate dst src offset n = Branch Bits64 condition.Ne dst (widened n) offset
instruction_by kind.BranchSgt64Immediate dst src offset n = Branch Bits64 condition.Sgt dst (widened n) offset
instruction_by kind.BranchSge64Immediate dst src offset n = Branch Bits64 condition.Sge dst (widened n) offset
instruction_by kind.BranchLt64Immediate dst src offset n = Branch Bits64 condition.Lt dst (widened n) offset
instruction_by kind.BranchLe64Immediate dst src offset n = Branch Bits64 condition.Le dst (widened n) offset
instruction_by kind.BranchSlt64Immediate dst src offset n = Branch Bits64 condition.Slt dst (widened n) offset
instruction_by kind.BranchSle64Immediate dst src offset n = Branch Bits64 condition.Sle dst (widened n) offset
instruction_by kind.BranchEq64Register dst src offset n = Branch Bits64 condition.Eq dst (source.Register src) offset
instruction_by kind.BranchGt64Register dst src offset n = Branch Bits64 condition.Gt dst (source.Register src) offset
instruction_by kind.BranchGe64Register dst src offset n = Branch Bits64 condition.Ge dst (source.Register src) offset
instruction_by kind.BranchSet64Register dst src offset n = Branch Bits64 condition.Set dst (source.Register src) offset
instruction_by kind.BranchNe64Register dst src offset n = Branch Bits64 condition.Ne dst (source.Register src) offset
instruction_by kind.BranchSgt64Register dst src offset n = Branch Bits64 condition.Sgt dst (source.Register src) offset
instruction_by kind.BranchSge64Register dst src offset n = Branch Bits64 condition.Sge dst (source.Register src) offset
instruction_by kind.BranchLt64Register dst src offset n = Branch Bits64 condition.Lt dst (source.Register src) offset
instruction_by kind.BranchLe64Register dst src offset n = Branch Bits64 condition.Le dst (source.Register src) offset
instruction_by kind.BranchSlt64Register dst src offset n = Branch Bits64 condition.Slt dst (source.Register src) offset
instruction_by kind.BranchSle64Register dst src offset n = Branch Bits64 condition.Sle dst (source.Register src) offset
instruction_by kind.BranchEq32Immediate dst src offset n = Branch Bits32 condition.Eq dst (widened n) offset
instruction_by kind.BranchGt32Immediate dst src offset n = Branch Bits32 condition.Gt dst (widened n) offset
instruction_by kind.BranchGe32Immediate dst src offset n = Branch Bits32 condition.Ge dst (widened n) offset
instruction_by kind.BranchSet32Immediate dst src offset n = Branch Bits32 condition.Set dst (widened n) offset
instruction_by kind.BranchNe32Immediate dst src offset n = Branch Bits32 condition.Ne dst (widened n) offset
instruction_by kind.BranchSgt32Immediate dst src offset n = Branch Bits32 condition.Sgt dst (widened n) offset
instruction_by kind.BranchSge32Immediate dst src offset n = Branch Bits32 condition.Sge dst (widened n) offset
instruction_by kind.BranchLt32Immediate dst src offset n = Branch Bits32 condition.Lt dst (widened n) offset
instruction_by kind.BranchLe32Immediate dst src offset n = Branch Bits32 condition.Le dst (widened n) offset
instruction_by kind.BranchSlt32Immediate dst src offset n = Branch Bits32 condition.Slt dst (widened n) offset
instruction_by kind.BranchSle32Immediate dst src offset n = Branch Bits32 condition.Sle dst (widened n) offset
instruction_by kind.BranchEq32Register dst src offset n = Branch Bits32 condition.Eq dst (source.Register src) offset
instruction_by kind.BranchGt32Register dst src offset n = Branch Bits32 condition.Gt dst (source.Register src) offset
instruction_by kind.BranchGe32Register dst src offset n = Branch Bits32 condition.Ge dst (source.Register src) offset
instruction_by kind.BranchSet32Register dst src offset n = Branch Bits32 condition.Set dst (source.Register src) offset
instruction_by kind.BranchNe32Register dst src offset n = Branch Bits32 condition.Ne dst (source.Register src) offset
instruction_by kind.BranchSgt32Register dst src offset n = Branch Bits32 condition.Sgt dst (source.Register src) offset
instruction_by kind.BranchSge32Register dst src offset n = Branch Bits32 condition.Sge dst (source.Register src) offset
instruction_by kind.BranchLt32Register dst src offset n = Branch Bits32 condition.Lt dst (source.Register src) offset
instruction_by kind.BranchLe32Register dst src offset n = Branch Bits32 condition.Le dst (source.Register src) offset
instruction_by kind.BranchSlt32Register dst src offset n = Branch Bits32 condition.Slt dst (source.Register src) offset
instruction_by kind.BranchSle32Register dst src offset n = Branch Bits32 condition.Sle dst (source.Register src) offset
instruction_by kind.LoadWide dst src offset n = LoadWide dst n
instruction_by kind.Call dst src offset n = Call (signed n)
instruction_by kind.Exit dst src offset n = Exit

abbrev pub instruction_of : FlatInstruction → Instruction
instruction_of flat = instruction_by flat.kind flat.dst flat.src flat.offset flat.immediate

-- one flat instruction a slot: where an instruction begins it is that one, and at a second half it says nothing
pub record LaidOut (p : Program) (flat : List FlatInstruction) : Type 0 where
  pub long : length flat ≡ length p
  pub each : (slot : ℕ) (i : Instruction) → instruction_at p slot ≡ Some i → option_map instruction_of (slice_get flat slot) ≡ Some i
