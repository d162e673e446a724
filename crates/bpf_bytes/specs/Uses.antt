-- Which fields of its slot an opcode uses (RFC 9669 sections 3 to 5); the others are zero.
use Rattle.std.specs.Prelude.{Bool, true, false}
use Rattle.bpf_code.specs.declared.instruction.Width.TheVariants.{Bits32, Bits64}
use Rattle.bpf_bytes.specs.declared.opcode.ArithmeticCode.{ArithmeticCode}
use Rattle.bpf_bytes.specs.declared.opcode.ArithmeticCode.TheVariants.{Div, Mod, Mov}
use Rattle.bpf_bytes.specs.declared.opcode.SourceKind.{SourceKind}
use Rattle.bpf_bytes.specs.declared.opcode.SourceKind.TheVariants.{Immediate, Register as InRegister}
use Rattle.bpf_bytes.specs.declared.opcode.Uses.{Uses}
use Rattle.bpf_bytes.specs.declared.opcode.Opcode.{Opcode}
use Rattle.bpf_bytes.specs.declared.opcode.Opcode.TheVariants.{LoadWide, Load, StoreImmediate, StoreRegister, Arithmetic, Negate, End, Jump, Branch, Call, Exit}

-- DIV and MOD tell signed from unsigned by the offset, MOV from a register its sign extension
abbrev pub offset_chooses : ArithmeticCode → SourceKind → Bool
offset_chooses Div _ = true
offset_chooses Mod _ = true
offset_chooses Mov InRegister = true
offset_chooses _ _ = false

abbrev pub fields_used : Bool → Bool → Bool → Bool → Uses
fields_used dst src offset immediate = record { dst = dst; src = src; offset = offset; immediate = immediate }

abbrev pub uses_of : Opcode → Uses
uses_of LoadWide = fields_used true true false true
uses_of (Load _) = fields_used true true true false
uses_of (StoreImmediate _) = fields_used true false true true
uses_of (StoreRegister _) = fields_used true true true false
uses_of (Arithmetic _ code Immediate) = fields_used true false (offset_chooses code Immediate) true
uses_of (Arithmetic _ code InRegister) = fields_used true true (offset_chooses code InRegister) false
uses_of (Negate _) = fields_used true false false false
uses_of (End _) = fields_used true false false true
uses_of (Jump Bits64) = fields_used false false true false
uses_of (Jump Bits32) = fields_used false false false true
uses_of (Branch _ _ Immediate) = fields_used true false true true
uses_of (Branch _ _ InRegister) = fields_used true true true false
uses_of Call = fields_used false true false true
uses_of Exit = fields_used false false false false
