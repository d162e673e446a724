-- What the lines of a script come to that is read whole, and why it isn't read.
use Rattle.std.specs.Prelude.{◌≡◌, ◌⊎◌, ◌≤◌, ℕ, ◌+◌, List, [], ◌∷◌, Result, Ok, Err}
use Rattle.script.specs.declared.cause.FaultCause.{FaultCause}
use Rattle.script.specs.declared.cause.FaultCause.TheVariants.{NoMemory}
use Rattle.script.specs.declared.cause.ScriptFault.{ScriptFault}
use Rattle.script.specs.declared.stop.Stop.{Stop}
use Rattle.script.specs.declared.stop.Stop.TheVariants.{Fault, Input, Output}

abbrev pub fault_at : ℕ → FaultCause → ScriptFault
fault_at line cause = record { line = line; cause = cause }

-- the first line at fault ends a script
abbrev pub unless_faulty : {S X : Type 0} → ℕ → Result S FaultCause → (S → Result X ScriptFault) → Result X ScriptFault
unless_faulty number (Ok s) Behind = Behind s
unless_faulty number (Err cause) Behind = Err (fault_at number cause)

-- what lines come to behind what is said, by what that is after one more line, and what it is at the end; the first of
-- them has this number
unfoldable pub said_from : {S X : Type 0} → (S → List ℕ → Result S FaultCause) → (S → Result X ScriptFault)
    → S → ℕ → List (List ℕ) → Result X ScriptFault
said_from after at_end s number [] = at_end s
said_from after at_end s number (line ∷ lines) =
    unless_faulty number (after s line) (λ next. said_from after at_end next (number + 1) lines)

-- the stop is at the fault that is said, or memory was wanting, or the input failed; the number of a line where memory
-- was wanting is at most the count of lines, and 0 before the first
abbrev pub IsStopOf : {X : Type 0} → Result X ScriptFault → ℕ → Stop → Type 0
IsStopOf said count (Fault fault) = ((fault.cause ≡ NoMemory) × (fault.line ≤ count)) ⊎ (said ≡ Err fault)
IsStopOf said count (Input error) = Unit {0}
IsStopOf said count (Output error) = ⊥
