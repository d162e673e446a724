-- What a replay leaves on its output, and its exit status.
use Rattle.std.specs.Prelude.{◌≡◌, ◌⊎◌, ℕ, ◌+◌, List, [], ◌∷◌, ◌++◌, length, Option, Some}
use Rattle.std.specs.Io.KnownBytes.{Appends}
use Rattle.byte_output.specs.Writes.{AppendsBeginning}
use Rattle.script.specs.Text.{lines_of}
use Rattle.script.specs.declared.cause.FaultCause.TheVariants.{NoMemory}
use Rattle.script.specs.Telling.{FAILED, fault_line}
use Rattle.script_replay.specs.Stage.{first_stage}
use Rattle.script_replay.specs.Replay.{Ending, Finished, Faulty, Prints}

abbrev pub status_of : Ending → ℕ
status_of Finished = 0
status_of (Faulty fault) = 1

-- what is said of a script's end, apart from what it prints
abbrev pub faults_of : Ending → List ℕ
faults_of Finished = []
faults_of (Faulty fault) = fault_line fault

-- what is written to an output and to a writer for faults: something failed, and a beginning of the text was written; or
-- the whole text was, with the ending's status, and for faults no more than the ending's line
abbrev pub Leaves : Option (List ℕ) → Option (List ℕ) → Option (List ℕ) → Option (List ℕ) → ℕ → List ℕ → Ending → Type 0
Leaves old new old_faults new_faults status text ending =
    ((status ≡ FAILED) × AppendsBeginning old new text)
    ⊎ ((status ≡ status_of ending) × Appends old new text × AppendsBeginning old_faults new_faults (faults_of ending))

-- ---- where memory was wanting

-- the line of this number was read and no more, with what the lines before it print, and what may be printed up to its end
pub record IsReadTo (bytes : List ℕ) (left : Option (List ℕ)) (number : ℕ) : Type 0 where
  pub before : List (List ℕ)
  pub line : List ℕ
  pub rest : List ℕ
  pub read : left ≡ Some rest
  pub lines : lines_of bytes ≡ before ++ line ∷ lines_of rest
  pub count : length before + 1 ≡ number
  pub done : List ℕ
  pub printed : Prints first_stage 1 before done Finished
  pub text : List ℕ
  pub ending : Ending
  pub prints : Prints first_stage 1 (before ++ line ∷ []) text ending

-- a script that stopped at the line of this number, and what it has written: all that the lines before print, and of this
-- one a beginning of what it prints
pub record StopsAtLine (bytes : List ℕ) (left old new : Option (List ℕ)) (number : ℕ) : Type 0 where
  pub lines : IsReadTo bytes left number
  pub here : List ℕ
  pub written : Appends old new (lines.done ++ here)
  pub beginning : AppendsBeginning old new lines.text

-- one that stopped before its first line, which counts as 0: nothing was read, and nothing written
pub record StopsBeforeLines (bytes : List ℕ) (left old new : Option (List ℕ)) (number : ℕ) : Type 0 where
  pub zero : number ≡ 0
  pub read : left ≡ Some bytes
  pub written : Appends old new []

abbrev pub StopsAt : List ℕ → Option (List ℕ) → Option (List ℕ) → Option (List ℕ) → ℕ → Type 0
StopsAt bytes left old new number = StopsBeforeLines bytes left old new number ⊎ StopsAtLine bytes left old new number

-- as `line 4: L9`
abbrev pub memory_line : ℕ → List ℕ
memory_line number = fault_line (record { line = number; cause = NoMemory })
