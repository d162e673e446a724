-- The listing of a program: a line for each instruction.
use Rattle.std.specs.Prelude.{ℕ, ◌+◌, ◌*◌, List, [], ◌∷◌, ◌++◌, codes, Option, Some, None}
use Rattle.std.specs.Fmt.{decimal, signed_decimal}
use Rattle.hex.specs.Hex.{encode_lower}
use Rattle.byte_output.specs.Column.{right_in}
use Rattle.bpf_words.specs.declared.operation.BinaryOperation.{BinaryOperation}
use Rattle.bpf_words.specs.declared.operation.BinaryOperation.TheVariants as operation
use Rattle.bpf_words.specs.declared.operation.ByteOrder.TheVariants.{Little, Big, Swap}
use Rattle.bpf_words.specs.declared.condition.Condition.{Condition}
use Rattle.bpf_words.specs.declared.condition.Condition.TheVariants as condition
use Rattle.bpf_bytes.specs.declared.fields.Fields.{Fields}
use Rattle.bpf_code.specs.declared.instruction.LoadKind.{LoadKind}
use Rattle.bpf_code.specs.declared.instruction.LoadKind.TheVariants.{I8, I16, I32}
use Rattle.bpf_code.specs.declared.instruction.Instruction.{Instruction}
use Rattle.bpf_code.specs.declared.instruction.Instruction.TheVariants.{LoadWide, Load, StoreImmediate, StoreRegister, Arithmetic, Negate, MoveSignExtended, End, Jump, LongJump, Branch, Call, Exit}
use Rattle.bpf_bytes.specs.Fields.{bytes_of}
use Rattle.bpf_bytes.specs.Spelling.{fields_of, second_slot}
use Rattle.bpf_code.specs.Sizes.{width_bits, size_bytes, load_bytes, extension_width}
use Rattle.bpf_code.specs.Program.{Program}

-- ---- names

abbrev pub operation_name : BinaryOperation → List ℕ
operation_name operation.Add = codes "add"
operation_name operation.Sub = codes "sub"
operation_name operation.Mul = codes "mul"
operation_name operation.Div = codes "div"
operation_name operation.Sdiv = codes "sdiv"
operation_name operation.Or = codes "or"
operation_name operation.And = codes "and"
operation_name operation.Lsh = codes "lsh"
operation_name operation.Rsh = codes "rsh"
operation_name operation.Mod = codes "mod"
operation_name operation.Smod = codes "smod"
operation_name operation.Xor = codes "xor"
operation_name operation.Mov = codes "mov"
operation_name operation.Arsh = codes "arsh"

abbrev pub condition_name : Condition → List ℕ
condition_name condition.Eq = codes "jeq"
condition_name condition.Gt = codes "jgt"
condition_name condition.Ge = codes "jge"
condition_name condition.Set = codes "jset"
condition_name condition.Ne = codes "jne"
condition_name condition.Sgt = codes "jsgt"
condition_name condition.Sge = codes "jsge"
condition_name condition.Lt = codes "jlt"
condition_name condition.Le = codes "jle"
condition_name condition.Slt = codes "jslt"
condition_name condition.Sle = codes "jsle"

-- a load's name
abbrev pub load_name : LoadKind → List ℕ
load_name I8 = codes "ldsx"
load_name I16 = codes "ldsx"
load_name I32 = codes "ldsx"
load_name _ = codes "ldx"

-- a name, and the bits that follow it where they do
abbrev pub name_parts : Instruction → List ℕ × Option ℕ
name_parts (LoadWide _ _) = (codes "lddw", None)
name_parts (Load kind _ _ _) = (load_name kind, Some (8 * load_bytes kind))
name_parts (StoreImmediate size _ _ _) = (codes "st", Some (8 * size_bytes size))
name_parts (StoreRegister size _ _ _) = (codes "stx", Some (8 * size_bytes size))
name_parts (Arithmetic width op _ _) = (operation_name op, Some (width_bits width))
name_parts (Negate width _) = (codes "neg", Some (width_bits width))
name_parts (MoveSignExtended kind _ _) = (codes "movsx", Some (width_bits (extension_width kind)))
name_parts (End Little _ _) = (codes "le", None)
name_parts (End Big _ _) = (codes "be", None)
name_parts (End Swap _ _) = (codes "swap", None)
name_parts (Jump _) = (codes "ja", Some 64)
name_parts (LongJump _) = (codes "ja", Some 32)
name_parts (Branch width c _ _ _) = (condition_name c, Some (width_bits width))
name_parts (Call _) = (codes "call", None)
name_parts Exit = (codes "exit", None)

-- ---- a line

abbrev pub bits_text : Option ℕ → List ℕ
bits_text None = []
bits_text (Some bits) = decimal bits

abbrev pub name_text : List ℕ × Option ℕ → List ℕ
name_text parts = parts.0 ++ bits_text parts.1

-- the bytes of the slots in hex
abbrev pub slot_hex : Option Fields → List ℕ
slot_hex None = []
slot_hex (Some f) = encode_lower (bytes_of f)

-- of the wide load the whole value, which has no sign
abbrev pub immediate_text : Instruction → List ℕ
immediate_text (LoadWide _ value) = decimal value
immediate_text i = signed_decimal (fields_of i).immediate

unfoldable pub line : ℕ → Instruction → List ℕ
line slot i =
    (right_in 4 (decimal slot) ++ codes " ")
    ++ (slot_hex (Some (fields_of i)) ++ slot_hex (second_slot i))
    ++ (codes " " ++ name_text (name_parts i))
    ++ (codes " dst " ++ decimal (fields_of i).dst)
    ++ (codes " src " ++ decimal (fields_of i).src)
    ++ (codes " off " ++ signed_decimal (fields_of i).offset)
    ++ (codes " imm " ++ immediate_text i)
    ++ codes "\n"

-- the line of the instruction that begins at a slot, where one does
abbrev pub line_at : ℕ → Option Instruction → List ℕ
line_at slot None = []
line_at slot (Some i) = line slot i

-- the lines of the slots from this one on
abbrev pub lines : ℕ → Program → List ℕ
lines slot [] = []
lines slot (begins ∷ rest) = line_at slot begins ++ lines (slot + 1) rest

abbrev pub listing_of : Program → List ℕ
listing_of p = lines 0 p
