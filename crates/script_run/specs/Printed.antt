-- What a run of a script prints.
use Rattle.std.specs.Prelude.{◌≡◌, ℕ, ◌+◌, Bool, true, List, [], ◌∷◌, ◌++◌, ◌⊎◌, All, length, Option, Some, IfSome, Result, Ok, Err}
use Rattle.std.specs.Io.KnownBytes.{Appends}
use Rattle.byte_output.specs.Writes.{AppendsBeginning}
use Rattle.tallies.specs.declared.counts.Counts.{Counts}
use Rattle.report.specs.Lines.{line_text}
use Rattle.node_calls.specs.declared.answer.Answer.{Answer}
use Rattle.report.specs.declared.printed.Line.{Line}
use Rattle.report.specs.declared.printed.ReplicaReport.TheVariants as replica
use Rattle.report.specs.declared.printed.Line.TheVariants.{Answered, Totals, Replica, Agreement}
use Rattle.log_model.specs.Log.{Setting}
use Rattle.script_run.specs.Calls.{Said, script_says}
use Rattle.script_run.specs.declared.call.ScriptCall.{ScriptCall}
use Rattle.script.specs.declared.cause.FaultCause.TheVariants.{NoMemory}
use Rattle.script.specs.declared.cause.ScriptFault.{ScriptFault}
use Rattle.script.specs.Telling.{fault_line}
use Rattle.script.specs.declared.stop.Stop.{Stop}
use Rattle.script.specs.declared.stop.Stop.TheVariants as stop
use Rattle.script_run.specs.declared.run.Report.{Report}
use Rattle.script_run.specs.declared.text.ReplicaEnd.{ReplicaEnd}
use Rattle.node.specs.Requests.{Entries}
use Rattle.script_run.specs.Answered.{AreToldOf, IsEndOf}
use Rattle.catalogue.specs.Catalogue.{system_setting}

-- what a run comes to
pub record RunReport : Type 0 where
  pub answers : List Answer  -- in the order of the script's calls
  pub totals : Counts
  pub replicas : List ReplicaEnd  -- how each has ended
  pub agrees : Bool

-- a line for each item, by its number; so many items stand before the first
unfoldable pub numbered_text : {X : Type 0} → (ℕ → X → Line) → ℕ → List X → List ℕ
numbered_text line_of before [] = []
numbered_text line_of before (item ∷ items) = line_text (line_of (before + 1) item) ++ numbered_text line_of (before + 1) items

-- a line for each answer; so many calls stand before the first
abbrev pub answers_text : ℕ → List Answer → List ℕ
answers_text before answers = numbered_text Answered before answers

abbrev pub replica_line : ℕ → ReplicaEnd → Line
replica_line number end = Replica number (replica.Ended end.position end.commits end.is_stopped)

-- a line for each replica; so many stand before the first
abbrev pub replicas_text : ℕ → List ReplicaEnd → List ℕ
replicas_text before ends = numbered_text replica_line before ends

-- an answer to each call, the totals, how each replica has ended, and whether they agree
abbrev pub run_text : RunReport → List ℕ
run_text r =
    answers_text 0 r.answers ++ line_text (Totals r.totals) ++ replicas_text 0 r.replicas ++ line_text (Agreement r.agrees)

-- what these calls come to at so many replicas: there is one log of which each answer and each replica's end is true
pub record IsRun (w : Setting) (replicas : ℕ) (calls : List (ScriptCall (List ℕ))) (r : RunReport) : Type 0 where
  pub log : Entries
  pub answered : length r.answers ≡ length calls
  pub answers : AreToldOf w replicas log calls r.answers
  pub count : length r.replicas ≡ replicas
  pub ends : All (IsEndOf w log) r.replicas
  pub agrees : r.agrees ≡ true

-- what a script comes to, which says a window and how many replicas there are
pub record IsReportOf (said : Said) (r : RunReport) : Type 0 where
  pub window : ℕ
  pub window_said : said.settings.window ≡ Some window
  pub replicas : ℕ
  pub replicas_said : said.settings.replicas ≡ Some replicas
  pub run : IsRun (system_setting said.settings.catalogue window) replicas said.calls r

-- what the code has of a run
abbrev pub report_of : Report → RunReport
report_of r = record { answers = r.answers.items; totals = r.totals; replicas = r.replicas.items; agrees = r.agrees }

-- the script of these bytes says something, and the output grew by what a run of it prints
abbrev pub PrintsRun : List ℕ → Option (List ℕ) → Option (List ℕ) → Type 0
PrintsRun bytes old new =
    (said : Said) × (report : RunReport) × (script_says bytes ≡ Ok said) × IsReportOf said report × Appends old new (run_text report)

-- the output is as it was; or the script says something, and the output has a beginning of what a run of it prints
abbrev pub PrintsNoMore : Option (List ℕ) → Option (List ℕ) → Option (List ℕ) → Type 0
PrintsNoMore input old new =
    (new ≡ old) ⊎ ((said : Said) × (report : RunReport) × IfSome input (λ bytes. script_says bytes ≡ Ok said) × IsReportOf said report
    × AppendsBeginning old new (run_text report))

-- the script of these bytes is at fault, and that was said, or a beginning of it
abbrev pub SaysFault : List ℕ → Option (List ℕ) → Option (List ℕ) → Type 0
SaysFault bytes old new = (fault : ScriptFault) × (script_says bytes ≡ Err fault) × AppendsBeginning old new (fault_line fault)

-- the text was written, or a beginning of it, since the output failed or memory was wanting
abbrev pub PrintsReport : Option (List ℕ) → Option (List ℕ) → List ℕ → Result (Unit {0}) Stop → Type 0
PrintsReport old new text (Ok done) = Appends old new text
PrintsReport old new text (Err (stop.Output error)) = AppendsBeginning old new text
PrintsReport old new text (Err (stop.Input error)) = ⊥
PrintsReport old new text (Err (stop.Fault fault)) = (fault.cause ≡ NoMemory) × AppendsBeginning old new text
