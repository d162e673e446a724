-- What is given to an output, in front of which a page is kept, while a script's lines are done; and what is written at its
-- end.
use Rattle.std.specs.Prelude.{◌≡◌, ◌⊎◌, ℕ, ◌+◌, Bool, true, false, List, [], ◌++◌, Option, Some, Result, Ok, Err}
use Rattle.std.specs.Io.KnownBytes.{Appends}
use Rattle.byte_output.specs.declared.paged.PagedOutput.{PagedOutput}
use Rattle.byte_output.specs.Pending.{Passes}
use Rattle.byte_output.specs.Writes.{AppendsBeginning}
use Rattle.script_replay.specs.Actions.{setting_of, world_of}
use Rattle.script.specs.declared.cause.FaultCause.TheVariants.{NoMemory}
use Rattle.script_replay.specs.Acting.{PassesBeginning}
use Rattle.script_replay.specs.declared.stage.Stage as code
use Rattle.script_replay.specs.declared.stage.Stage.TheVariants.{SettingUp as SettingUpCode, Acting as ActingCode}
use Rattle.script.specs.declared.stop.Stop.{Stop}
use Rattle.script.specs.declared.stop.Stop.TheVariants.{Fault, Output}
use Rattle.script_replay.specs.Stage.{Stage, Setup, Acting, Effect, Fails}
use Rattle.script_replay.specs.Replay.{Ending, Finished, Faulty, Prints, PrintsEffect}
use Rattle.script_replay.specs.Leaving.{IsReadTo, StopsAt}

-- what a stage of the code stands for
abbrev pub stage_of : {A : Type 0} → code.Stage A → Stage
stage_of (SettingUpCode settings) = Setup settings
stage_of (ActingCode world) = Acting (setting_of world) (world_of world)

-- texts that may be printed, each with an ending
abbrev pub Printable : Type 1
Printable = List ℕ → Ending → Type 0

-- what an effect and then these lines may print; the effect's line has this number
abbrev pub PrintsFrom : ℕ → Effect → List (List ℕ) → List ℕ → Ending → Type 0
PrintsFrom number effect more text ending =
    PrintsEffect number effect (λ stage rest. Prints stage (number + 1) more rest ending) text ending

-- ---- one line

-- a line is at fault by its effect, or memory was wanting
abbrev pub IsFaultOf : ℕ → Effect → Stop → Type 0
IsFaultOf number effect (Fault fault) = (fault.line ≡ number) × ((fault.cause ≡ NoMemory) ⊎ (effect ≡ Fails fault.cause))
IsFaultOf number effect _ = ⊥

-- a beginning of what may be printed was given
abbrev pub GivesBeginning : {W : Type 0} → (W → Option (List ℕ)) → PagedOutput W → PagedOutput W → Printable → Type 0
GivesBeginning contents old new P = (text : List ℕ) × (ending : Ending) × P text ending × PassesBeginning contents old new text

-- it was given to a fault that is no want of memory, or up to where something failed
abbrev pub GivesUpTo : {W : Type 0} → (W → Option (List ℕ)) → PagedOutput W → PagedOutput W → Printable → Stop → Type 0
GivesUpTo contents old new P (Fault fault) =
    ((fault.cause ≡ NoMemory) × GivesBeginning contents old new P) ⊎ ((text : List ℕ) × P text (Faulty fault) × Passes contents old new text)
GivesUpTo contents old new P _ = GivesBeginning contents old new P

-- an effect came about, and the lines behind it go on from a stage; or it stopped there
abbrev pub GivesEffect : {A W : Type 0} → (W → Option (List ℕ)) → ℕ → Effect → PagedOutput W → PagedOutput W
    → Result (code.Stage A) Stop → Type 0
GivesEffect contents number effect old new (Ok next) =
    (here : List ℕ) × Passes contents old new here
    × ((more : List (List ℕ)) (text : List ℕ) (ending : Ending) → Prints (stage_of next) (number + 1) more text ending
    → PrintsFrom number effect more (here ++ text) ending)
GivesEffect contents number effect old new (Err stop) =
    (more : List (List ℕ)) → GivesUpTo contents old new (PrintsFrom number effect more) stop

-- a line that is at fault, or at which memory was wanting, is told by its number, and nothing that was given is lost
abbrev pub StopsBy : {W : Type 0} → (W → Option (List ℕ)) → ℕ → PagedOutput W → PagedOutput W → Stop → Type 0
StopsBy contents number old new (Fault fault) = (fault.line ≡ number) × (text : List ℕ) × Passes contents old new text
StopsBy contents number old new _ = Unit {0}

-- ---- a whole script

-- as `StopsAtLine`, where pages stand in front of the output
pub record GivesUpToLine {W : Type 0} (contents : W → Option (List ℕ)) (bytes : List ℕ) (left : Option (List ℕ)) (old new : PagedOutput W) (number : ℕ) : Type 0 where
  pub lines : IsReadTo bytes left number
  pub here : List ℕ
  pub given : Passes contents old new (lines.done ++ here)
  pub beginning : PassesBeginning contents old new lines.text

pub record GivesNoLines {W : Type 0} (contents : W → Option (List ℕ)) (bytes : List ℕ) (left : Option (List ℕ)) (old new : PagedOutput W) (number : ℕ) : Type 0 where
  pub zero : number ≡ 0
  pub read : left ≡ Some bytes
  pub given : Passes contents old new []

-- where memory was wanting
abbrev pub GivesUpToWant : {W : Type 0} → (W → Option (List ℕ)) → List ℕ → Option (List ℕ) → PagedOutput W → PagedOutput W → Stop → Type 0
GivesUpToWant contents bytes left old new (Fault fault) =
    fault.cause ≡ NoMemory → GivesNoLines contents bytes left old new fault.line ⊎ GivesUpToLine contents bytes left old new fault.line
GivesUpToWant contents bytes left old new _ = Unit {0}

abbrev pub WritesUpToWant : List ℕ → Option (List ℕ) → Option (List ℕ) → Option (List ℕ) → Stop → Type 0
WritesUpToWant bytes left old new (Fault fault) = fault.cause ≡ NoMemory → StopsAt bytes left old new fault.line
WritesUpToWant bytes left old new _ = Unit {0}

abbrev pub GivesReplay : {T W : Type 0} → (W → Option (List ℕ)) → PagedOutput W → PagedOutput W → Printable → Result T Stop → Type 0
GivesReplay contents old new P (Ok _) = (text : List ℕ) × P text Finished × Passes contents old new text
GivesReplay contents old new P (Err stop) = GivesUpTo contents old new P stop

abbrev pub has_output_failed : {T : Type 0} → Result T Stop → Bool
has_output_failed (Err (Output error)) = true
has_output_failed _ = false

-- a beginning of what may be printed was written
abbrev pub WritesBeginning : Option (List ℕ) → Option (List ℕ) → Printable → Type 0
WritesBeginning old new P = (text : List ℕ) × (ending : Ending) × P text ending × AppendsBeginning old new text

-- all that is printed was written, or a beginning of it where something failed
abbrev pub WritesReplay : {T : Type 0} → Option (List ℕ) → Option (List ℕ) → Printable → Result T Stop → Type 0
WritesReplay old new P (Ok _) = (text : List ℕ) × P text Finished × Appends old new text
WritesReplay old new P (Err (Fault fault)) =
    ((fault.cause ≡ NoMemory) × WritesBeginning old new P) ⊎ ((text : List ℕ) × P text (Faulty fault) × Appends old new text)
WritesReplay old new P (Err _) = WritesBeginning old new P
