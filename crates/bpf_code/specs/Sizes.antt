-- How many bits operations work on, and how many bytes stores write and loads read (RFC 9669 sections 3.3 and 5).
use Rattle.std.specs.Prelude.{ℕ}
use Rattle.bpf_code.specs.declared.instruction.Width.{Width}
use Rattle.bpf_code.specs.declared.instruction.Width.TheVariants.{Bits32, Bits64}
use Rattle.bpf_code.specs.declared.instruction.Size.{Size}
use Rattle.bpf_code.specs.declared.instruction.Size.TheVariants.{Byte, HalfWord, Word, DoubleWord}
use Rattle.bpf_code.specs.declared.instruction.LoadKind.{LoadKind}
use Rattle.bpf_code.specs.declared.instruction.LoadKind.TheVariants.{U8, U16, U32, U64, I8, I16, I32}
use Rattle.bpf_code.specs.declared.instruction.SignExtendingMove.{SignExtendingMove}
use Rattle.bpf_code.specs.declared.instruction.SignExtendingMove.TheVariants.{From8To32, From16To32, From8To64, From16To64, From32To64}

abbrev pub width_bits : Width → ℕ
width_bits Bits32 = 32
width_bits Bits64 = 64

abbrev pub size_bytes : Size → ℕ
size_bytes Byte = 1
size_bytes HalfWord = 2
size_bytes Word = 4
size_bytes DoubleWord = 8

abbrev pub load_bytes : LoadKind → ℕ
load_bytes U8 = 1
load_bytes U16 = 2
load_bytes U32 = 4
load_bytes U64 = 8
load_bytes I8 = 1
load_bytes I16 = 2
load_bytes I32 = 4

-- the width that a move extends to
abbrev pub extension_width : SignExtendingMove → Width
extension_width From8To32 = Bits32
extension_width From16To32 = Bits32
extension_width From8To64 = Bits64
extension_width From16To64 = Bits64
extension_width From32To64 = Bits64
