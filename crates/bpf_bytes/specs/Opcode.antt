-- The opcodes of the profile, and the byte of each (RFC 9669 sections 3.3, 4 and 5).
use Rattle.std.specs.Prelude.{ℕ, ◌+◌, ◌*◌, ◌/◌, ◌%◌, ◌==◌, if◌then◌else◌, List, [], ◌∷◌, Option, Some, find}
use Rattle.std.specs.Option.{option_map}
use Rattle.bpf_words.specs.declared.operation.ByteOrder.TheVariants.{Little, Big, Swap}
use Rattle.bpf_words.specs.declared.condition.Condition.{Condition}
use Rattle.bpf_words.specs.declared.condition.Condition.TheVariants as condition
use Rattle.bpf_code.specs.declared.instruction.Width.{Width}
use Rattle.bpf_code.specs.declared.instruction.Width.TheVariants.{Bits32, Bits64}
use Rattle.bpf_code.specs.declared.instruction.Size.{Size}
use Rattle.bpf_code.specs.declared.instruction.Size.TheVariants.{Byte, HalfWord, Word, DoubleWord}
use Rattle.bpf_code.specs.declared.instruction.LoadKind.{LoadKind}
use Rattle.bpf_code.specs.declared.instruction.LoadKind.TheVariants.{U8, U16, U32, U64, I8, I16, I32}
use Rattle.bpf_bytes.specs.declared.opcode.ArithmeticCode.{ArithmeticCode}
use Rattle.bpf_bytes.specs.declared.opcode.ArithmeticCode.TheVariants.{Add, Sub, Mul, Div, Or, And, Lsh, Rsh, Mod, Xor, Mov, Arsh}
use Rattle.bpf_bytes.specs.declared.opcode.SourceKind.{SourceKind}
use Rattle.bpf_bytes.specs.declared.opcode.SourceKind.TheVariants.{Immediate, Register}
use Rattle.bpf_bytes.specs.declared.opcode.Opcode.{Opcode}
use Rattle.bpf_bytes.specs.declared.opcode.Opcode.TheVariants.{LoadWide, Load, StoreImmediate, StoreRegister, Arithmetic, Negate, End, Jump, Branch, Call, Exit}

-- ---- the byte of an opcode

-- classes: LD 0, LDX 1, ST 2, STX 3, ALU 4, JMP 5, JMP32 6, ALU64 7
abbrev pub arithmetic_class : Width → ℕ
arithmetic_class Bits32 = 4
arithmetic_class Bits64 = 7

abbrev pub jump_class : Width → ℕ
jump_class Bits32 = 6
jump_class Bits64 = 5

abbrev pub source_bit : SourceKind → ℕ
source_bit Immediate = 0
source_bit Register = 1

abbrev pub size_code : Size → ℕ
size_code Word = 0
size_code HalfWord = 1
size_code Byte = 2
size_code DoubleWord = 3

abbrev pub arithmetic_number : ArithmeticCode → ℕ
arithmetic_number Add = 0
arithmetic_number Sub = 1
arithmetic_number Mul = 2
arithmetic_number Div = 3
arithmetic_number Or = 4
arithmetic_number And = 5
arithmetic_number Lsh = 6
arithmetic_number Rsh = 7
arithmetic_number Mod = 9
arithmetic_number Xor = 10
arithmetic_number Mov = 11
arithmetic_number Arsh = 12

abbrev pub condition_number : Condition → ℕ
condition_number condition.Eq = 1
condition_number condition.Gt = 2
condition_number condition.Ge = 3
condition_number condition.Set = 4
condition_number condition.Ne = 5
condition_number condition.Sgt = 6
condition_number condition.Sge = 7
condition_number condition.Lt = 10
condition_number condition.Le = 11
condition_number condition.Slt = 12
condition_number condition.Sle = 13

-- loads: mode MEM 0x60, MEMSX 0x80, and the size
abbrev pub load_byte : LoadKind → ℕ
load_byte U32 = 0x61
load_byte U16 = 0x69
load_byte U8 = 0x71
load_byte U64 = 0x79
load_byte I32 = 0x81
load_byte I16 = 0x89
load_byte I8 = 0x91

abbrev pub byte_of : Opcode → ℕ
byte_of LoadWide = 0x18
byte_of (Load kind) = load_byte kind
byte_of (StoreImmediate size) = 0x62 + 8 * size_code size
byte_of (StoreRegister size) = 0x63 + 8 * size_code size
byte_of (Arithmetic width code source) = 16 * arithmetic_number code + 8 * source_bit source + arithmetic_class width
byte_of (Negate width) = 0x80 + arithmetic_class width
byte_of (End Little) = 0xd4
byte_of (End Big) = 0xdc
byte_of (End Swap) = 0xd7
byte_of (Jump width) = jump_class width
byte_of (Branch width c source) = 16 * condition_number c + 8 * source_bit source + jump_class width
byte_of Call = 0x85
byte_of Exit = 0x95

-- ---- the opcode of a byte

abbrev pub source_of : ℕ → SourceKind
source_of b = if b / 8 % 2 == 0 then Immediate else Register

abbrev pub arithmetic_codes : List ArithmeticCode
arithmetic_codes = Add ∷ Sub ∷ Mul ∷ Div ∷ Or ∷ And ∷ Lsh ∷ Rsh ∷ Mod ∷ Xor ∷ Mov ∷ Arsh ∷ []

abbrev pub arithmetic_of : ℕ → Option ArithmeticCode
arithmetic_of number = find (λ c. arithmetic_number c == number) arithmetic_codes

abbrev pub conditions : List Condition
conditions = condition.Eq ∷ condition.Gt ∷ condition.Ge ∷ condition.Set ∷ condition.Ne ∷ condition.Sgt ∷ condition.Sge ∷ condition.Lt ∷ condition.Le ∷ condition.Slt ∷ condition.Sle ∷ []

abbrev pub condition_of : ℕ → Option Condition
condition_of number = find (λ c. condition_number c == number) conditions

unfoldable pub binary_of : Width → ℕ → Option Opcode
binary_of width b = option_map (λ c. Arithmetic width c (source_of b)) (arithmetic_of (b / 16))

unfoldable pub branch_of : Width → ℕ → Option Opcode
branch_of width b = option_map (λ c. Branch width c (source_of b)) (condition_of (b / 16))

-- the opcodes of the classes LD, LDX, ST and STX
abbrev pub memory_opcodes : List Opcode
memory_opcodes = LoadWide
    ∷ Load U32 ∷ Load U16 ∷ Load U8 ∷ Load U64 ∷ Load I32 ∷ Load I16 ∷ Load I8
    ∷ StoreImmediate Word ∷ StoreImmediate HalfWord ∷ StoreImmediate Byte ∷ StoreImmediate DoubleWord
    ∷ StoreRegister Word ∷ StoreRegister HalfWord ∷ StoreRegister Byte ∷ StoreRegister DoubleWord
    ∷ []

unfoldable pub memory_of : ℕ → Option Opcode
memory_of b = find (λ o. byte_of o == b) memory_opcodes

unfoldable pub opcode_of : ℕ → Option Opcode
opcode_of b =
    if b == 0x84 then Some (Negate Bits32)
    else if b == 0x87 then Some (Negate Bits64)
    else if b == 0xd4 then Some (End Little)
    else if b == 0xdc then Some (End Big)
    else if b == 0xd7 then Some (End Swap)
    else if b == 0x05 then Some (Jump Bits64)
    else if b == 0x06 then Some (Jump Bits32)
    else if b == 0x85 then Some Call
    else if b == 0x95 then Some Exit
    else if b % 8 == 4 then binary_of Bits32 b
    else if b % 8 == 5 then branch_of Bits64 b
    else if b % 8 == 6 then branch_of Bits32 b
    else if b % 8 == 7 then binary_of Bits64 b
    else memory_of b
