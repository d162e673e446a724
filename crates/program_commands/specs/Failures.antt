-- What a command that fails leaves, and what is said of it.
use Rattle.std.specs.Prelude.{◌≡◌, ℕ, List, codes, Option}
use Rattle.byte_output.specs.Writes.{AppendsBeginning}
use Rattle.byte_output.specs.Failure.{SaysStream}
use Rattle.schema.specs.declared.or_no_memory.OrNoMemory.{OrNoMemory}
use Rattle.schema.specs.declared.or_no_memory.OrNoMemory.TheVariants.{NoMemory, Fault}
use Rattle.program_commands.specs.declared.failure.StreamFault.{StreamFault}
use Rattle.program_commands.specs.declared.failure.StreamFault.TheVariants.{Input, Output}

-- where the output failed, `Begun` says what it has; where memory was wanting or the input failed it is as it was
abbrev pub Leaves : Type 0 → Option (List ℕ) → Option (List ℕ) → OrNoMemory StreamFault → Type 0
Leaves Begun old new (Fault (Output error)) = Begun
Leaves Begun old new (Fault (Input error)) = new ≡ old
Leaves Begun old new NoMemory = new ≡ old

-- what is said of a failure, or a beginning of it
abbrev pub IsSaid : Option (List ℕ) → Option (List ℕ) → OrNoMemory StreamFault → Type 0
IsSaid old new NoMemory = AppendsBeginning old new (codes "dsmdb: out of memory\n")
IsSaid old new (Fault (Input error)) = SaysStream old new
IsSaid old new (Fault (Output error)) = SaysStream old new

-- it isn't the output that failed
abbrev pub IsBeforeOutput : OrNoMemory StreamFault → Type 0
IsBeforeOutput (Fault (Output error)) = ⊥
IsBeforeOutput _ = Unit {0}
