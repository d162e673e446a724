-- What is said of a script that ends before its end, and its exit status.
use Rattle.std.specs.Prelude.{◌≡◌, ℕ, List, ◌++◌, codes, Option}
use Rattle.byte_output.specs.Writes.{AppendsBeginning}
pub use Rattle.byte_output.specs.declared.status.TheConstants.{FAILED}
pub use Rattle.byte_output.specs.Failure.{SaysStream}
use Rattle.script.specs.declared.cause.FaultCause.{FaultCause}
use Rattle.script.specs.declared.cause.FaultCause.TheVariants.{NoMemory}
use Rattle.script.specs.declared.cause.ScriptFault.{ScriptFault}
use Rattle.script.specs.SettingsFault.{script_fault_text}
use Rattle.script.specs.declared.stop.Stop.{Stop}
use Rattle.script.specs.declared.stop.Stop.TheVariants.{Fault}

-- as `line 4: L7 V5 slot 6`
abbrev pub fault_line : ScriptFault → List ℕ
fault_line fault = script_fault_text fault ++ codes "\n"

-- want of memory isn't the script's fault
abbrev pub status_of_cause : FaultCause → ℕ
status_of_cause NoMemory = FAILED
status_of_cause _ = 1

-- the exit status of a script that stopped, and its line of faults or what a stream says, or a beginning of that
abbrev pub SaysEnd : Option (List ℕ) → Option (List ℕ) → Stop → ℕ → Type 0
SaysEnd old new (Fault fault) status = (status ≡ status_of_cause fault.cause) × AppendsBeginning old new (fault_line fault)
SaysEnd old new _ status = (status ≡ FAILED) × SaysStream old new
