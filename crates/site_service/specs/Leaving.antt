-- What a site leaves on its output, and its exit status.
use Rattle.std.specs.Prelude.{◌≡◌, ◌⊎◌, ◌≤◌, ℕ, ◌+◌, List, Option, Result, Ok, Err}
use Rattle.std.specs.Io.KnownBytes.{Appends}
use Rattle.byte_output.specs.Writes.{AppendsBeginning}
use Rattle.script.specs.declared.cause.FaultCause.TheVariants.{NoMemory}
use Rattle.script.specs.declared.cause.ScriptFault.{ScriptFault}
use Rattle.script.specs.declared.stop.Stop.{Stop}
use Rattle.script.specs.declared.stop.Stop.TheVariants.{Fault, Input, Output}
use Rattle.script.specs.Said.{fault_at}
use Rattle.script.specs.Telling.{FAILED, SaysStream, fault_line}
use Rattle.site_model.specs.Standing.{SiteSetting}
use Rattle.site_service.specs.Answering.{AnswersFirst, AreAllAnswers}

-- ---- the end of a site whose settings hold

-- it answered all lines, with status 0; or something failed, and what was written is a beginning of the answers
abbrev pub Leaves : SiteSetting → List ℕ → Option (List ℕ) → Option (List ℕ) → ℕ → Type 0
Leaves s bytes old new status = (text : List ℕ) × AreAllAnswers s bytes text
    × (((status ≡ 0) × Appends old new text) ⊎ ((status ≡ FAILED) × AppendsBeginning old new text))

-- memory was wanting before input and output were touched, and the number is at most the count of lines of the settings;
-- or memory was wanting at the line of the input with this number: the lines before are answered, and no more is written
abbrev pub WantsAt : Type 0 → ℕ → SiteSetting → List ℕ → Option (List ℕ) → Option (List ℕ) → ℕ → Type 0
WantsAt IsUntouched setting_lines s bytes old new number =
    (IsUntouched × (number ≤ setting_lines) × AnswersFirst s bytes old new 0)
    ⊎ ((before : ℕ) × (before + 1 ≡ number) × AnswersFirst s bytes old new before)

-- what failed is told: a stream, or memory with the number of a line
abbrev pub TellsFailure : Type 0 → ℕ → SiteSetting → List ℕ → Option (List ℕ) → Option (List ℕ) → Option (List ℕ) → Option (List ℕ)
    → Type 0
TellsFailure IsUntouched setting_lines s bytes old new old_faults new_faults =
    SaysStream old_faults new_faults
    ⊎ ((number : ℕ) × WantsAt IsUntouched setting_lines s bytes old new number
    × AppendsBeginning old_faults new_faults (fault_line (fault_at number NoMemory)))

-- the input and the output are as they were
abbrev pub AreUntouched : {R W : Type 0} → R → R → W → W → Type 0
AreUntouched old_input new_input old_output new_output = (new_input ≡ old_input) × (new_output ≡ old_output)

-- ---- settings at fault

-- the fault is told, with status 1; or something failed before
abbrev pub TellsFault : Option (List ℕ) → Option (List ℕ) → ℕ → ScriptFault → Type 0
TellsFault old_faults new_faults status fault =
    ((status ≡ 1) × AppendsBeginning old_faults new_faults (fault_line fault)) ⊎ (status ≡ FAILED)

-- ---- before it is told

-- what a stop leaves of the answers
abbrev pub LeavesUpTo : Type 0 → ℕ → SiteSetting → List ℕ → Option (List ℕ) → Option (List ℕ) → Stop → Type 0
LeavesUpTo IsUntouched setting_lines s bytes old new (Fault fault) =
    (fault.cause ≡ NoMemory) × WantsAt IsUntouched setting_lines s bytes old new fault.line
LeavesUpTo IsUntouched setting_lines s bytes old new (Input error) = (count : ℕ) × AnswersFirst s bytes old new count
LeavesUpTo IsUntouched setting_lines s bytes old new (Output error) =
    (text : List ℕ) × AreAllAnswers s bytes text × AppendsBeginning old new text

abbrev pub LeavesEnd : {T : Type 0} → Type 0 → ℕ → SiteSetting → List ℕ → Option (List ℕ) → Option (List ℕ) → Result T Stop → Type 0
LeavesEnd IsUntouched setting_lines s bytes old new (Ok _) = (text : List ℕ) × AreAllAnswers s bytes text × Appends old new text
LeavesEnd IsUntouched setting_lines s bytes old new (Err stop) = LeavesUpTo IsUntouched setting_lines s bytes old new stop

-- it stopped at the settings, for this fault or since something failed, and answered nothing
abbrev pub StopsAtSettings : {T : Type 0} → ScriptFault → Result T Stop → Type 0
StopsAtSettings fault (Ok _) = ⊥
StopsAtSettings fault (Err (Fault f)) = (f.cause ≡ NoMemory) ⊎ (f ≡ fault)
StopsAtSettings fault (Err (Input error)) = Unit {0}
StopsAtSettings fault (Err (Output error)) = ⊥
