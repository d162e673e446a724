-- A program's bytes as they are read: all of them, or that there are too many for a program.
use Rattle.std.specs.Prelude.{◌≡◌, ℕ, ◌*◌, ◌%◌, ◌<◌, ◌↔◌, Bool, true, false, List, length, IsTrue, Vec}
use Rattle.bpf_code.specs.Program.{max_slots}
use Rattle.program_commands.specs.declared.source.ProgramSource.{ProgramSource}
use Rattle.program_commands.specs.declared.source.ProgramSource.TheVariants.{Whole, TooLong}
use Rattle.program_commands.specs.declared.source.Front.{Front}

-- what was read of these bytes
abbrev pub IsSourceOf : {A : Type 0} → ProgramSource A → List ℕ → Type 0
IsSourceOf (Whole v) bytes = v.items ≡ bytes
IsSourceOf (TooLong slots) bytes = (8 * max_slots < length bytes) × (IsTrue slots ↔ (length bytes % 8 ≡ 0))

-- whether there were too many, and if not, which bytes there were
abbrev pub KeepsBytes : {A : Type 0} → Bool → Vec ℕ A → List ℕ → Type 0
KeepsBytes true v bytes = 8 * max_slots < length bytes
KeepsBytes false v bytes = v.items ≡ bytes

-- what is kept of the bytes so far
pub record IsFrontOf {A : Type 0} (f : Front A) (bytes : List ℕ) : Type 0 where
  pub remainder : f.remainder ≡ length bytes % 8
  pub holds : KeepsBytes f.is_long f.bytes bytes
