-- What lines print of a world: the answers of steps, the rows of a replica, the log, an entry.
use Rattle.std.specs.Prelude.{ℕ, ◌+◌, nat_lt, Bool, if◌then◌else◌, List, [], ◌∷◌, ◌++◌, codes, length, map, Option, Some, None}
use Rattle.std.specs.List.{concat, list_any}
use Rattle.std.specs.Option.{option_map}
use Rattle.std.specs.FinMap.{len, entries}
use Rattle.schema.specs.Rows.{Key}
use Rattle.dsm_model.specs.declared.outcome.Outcome.{Outcome}
use Rattle.dsm_model.specs.declared.outcome.Outcome.TheVariants.{Delivered}
use Rattle.dsm_model.specs.declared.outcome.StepRefusal.TheVariants.{NoReplica}
use Rattle.log_model.specs.declared.verdict.Verdict.{Verdict}
use Rattle.log_model.specs.Log.{Setting, Item, CallItem, AdditionItem, Log, rows_after, run_in, verdict_of}
use Rattle.certify.specs.Comparisons.{comparisons_of}
use Rattle.log_model.specs.Entries.{Entry, CallEntry, AdditionEntry}
use Rattle.dsm_model.specs.World.{World, Replica, Step, numbered}
use Rattle.dsm_model.specs.Sound.{told_by}
use Rattle.log_entry.specs.Bytes.{entry_bytes}
use Rattle.report.specs.declared.printed.DeliveredEntry.{DeliveredEntry}
use Rattle.report.specs.declared.printed.DeliveredEntry.TheVariants as delivered
use Rattle.report.specs.declared.printed.LoggedEntry.{LoggedEntry}
use Rattle.report.specs.declared.printed.Line.{Line}
use Rattle.report.specs.declared.printed.Line.TheVariants as line
use Rattle.report.specs.declared.printed.ReplicaReport.TheVariants as report
use Rattle.report.specs.Lines.{row_words, bytes_words, line_text}
use Rattle.report.specs.Answers.{answer_text}

-- ---- the answer of a step

abbrev pub delivered_item : Option Item → Option ℕ → DeliveredEntry
delivered_item (Some (AdditionItem p)) reply = delivered.Addition p.number
delivered_item _ reply = delivered.Call reply

-- what is said of the delivered entry: of a call the reply that its verdict tells, of an addition its procedure
abbrev pub delivered_entry : Setting → Log → Outcome → DeliveredEntry
delivered_entry w log (Delivered position verdict) = delivered_item (numbered log position) (told_by w log position (Some verdict))
delivered_entry w log _ = delivered.Call None

-- the line of a step's answer
abbrev pub step_text : Setting → Log → Step → Outcome → List ℕ
step_text w log step outcome = answer_text step outcome (delivered_entry w log outcome)

-- ---- the rows of a replica

abbrev pub row_text : (Key × List ℕ) → List ℕ
row_text row = row_words row.0.0 row.0.1 row.1 ++ codes "\n"

-- each row in the order of tables and keys, and how many there are
abbrev pub all_rows_text : ℕ → ℕ → List (Key × List ℕ) → List ℕ
all_rows_text r position rows = concat (map row_text rows) ++ line_text (line.Replica r (report.Rows position (length rows)))

-- the rows as far as a replica has come
abbrev pub rows_text : Setting → Log → ℕ → Option Replica → List ℕ
rows_text w log r None = line_text (line.Replica r (report.Refused NoReplica))
rows_text w log r (Some replica) = all_rows_text r replica.position (entries (rows_after w log replica.position))

-- ---- an entry as it is shipped

-- a call with the looks, writes and reply of its run; an addition as it is
abbrev pub entry_of : Setting → Log → Item → Entry
entry_of w log (CallItem call) =
    let run = run_in w log call in
    CallEntry (record { call = call; looks = run.looks; writes = run.writes; reply = run.reply })
entry_of w log (AdditionItem p) = AdditionEntry p

-- the bytes of the entry at a position, where there is one
abbrev pub entry_text : Setting → Log → ℕ → List ℕ
entry_text w log position =
    bytes_words position (option_map (λ item. entry_bytes (entry_of w log item)) (numbered log position)) ++ codes "\n"

-- ---- the log

-- whether some replica has delivered the entry that has so many before it
abbrev pub is_delivered : World → ℕ → Bool
is_delivered world before = list_any (λ replica. nat_lt before replica.position) world.replicas

abbrev pub certified_line : LoggedEntry → ℕ → Option Verdict → Line
certified_line e compared (Some verdict) = line.Certified e compared verdict
certified_line e compared None = line.Open e

-- what its line has of the entry at a position
abbrev pub logged_entry : ℕ → Entry → LoggedEntry
logged_entry position (CallEntry e) =
    record { position = position; procedure = e.call.procedure; snapshot = Some e.call.snapshot; writes = len e.writes }
logged_entry position (AdditionEntry p) = record { position = position; procedure = p.number; snapshot = None; writes = 0 }

-- how many exact comparisons its verdict takes; that of an addition takes none
abbrev pub compared_count : Setting → Log → ℕ → Item → ℕ
compared_count w log before (CallItem call) = length (comparisons_of w log before call)
compared_count w log before (AdditionItem p) = 0

-- its line: the verdict, and how many exact comparisons that took, where some replica has delivered it
abbrev pub logged_text : Setting → World → ℕ → Item → List ℕ
logged_text w world before item =
    line_text (certified_line (logged_entry (before + 1) (entry_of w world.log item)) (compared_count w world.log before item)
    (if is_delivered world before then verdict_of w world.log (before + 1) else None))

-- the lines of entries, of which the first has so many before it
abbrev pub items_text : Setting → World → ℕ → Log → List ℕ
items_text w world before [] = []
items_text w world before (item ∷ later) = logged_text w world before item ++ items_text w world (before + 1) later

-- each entry in order, and how many there are
abbrev pub log_text : Setting → World → List ℕ
log_text w world = items_text w world 0 world.log ++ line_text (line.Log (length world.log))
