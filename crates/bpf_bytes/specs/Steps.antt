-- What the decoder keeps from slot to slot: no clause that a caller sees speaks of this.
use Rattle.std.specs.Prelude.{ℕ, ◌^◌, ◌<◌, List, [], Option, Some, None}
use Rattle.bpf_code.specs.declared.instruction.Instruction.{Instruction}
use Rattle.bpf_code.specs.declared.instruction.Instruction.TheVariants.{LoadWide}
use Rattle.bpf_bytes.specs.Fields.{bytes_of}
use Rattle.bpf_bytes.specs.Spelling.{fields_of}

-- the first half of a wide load has the lower half of its value
abbrev pub IsFirstHalf : Instruction → Type 0
IsFirstHalf (LoadWide _ low) = low < 2 ^ 32
IsFirstHalf _ = ⊥

abbrev pub IsHalf : Option Instruction → Type 0
IsHalf None = Unit {0}
IsHalf (Some i) = IsFirstHalf i

-- how many slots a half that waits stands for, and their bytes
abbrev pub half_count : Option Instruction → ℕ
half_count None = 0
half_count (Some _) = 1

abbrev pub half_bytes : Option Instruction → List ℕ
half_bytes None = []
half_bytes (Some i) = bytes_of (fields_of i)
