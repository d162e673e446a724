-- What a replica keeps, and the delivered entries for which it stands.
use Rattle.std.specs.Prelude.{◌≡◌, ℕ, ◌+◌, ◌-◌, ◌≤◌, Bool, true, false, List, [], ◌∷◌, ◌++◌, length, map, take, slice_get, Some}
use Rattle.std.specs.FinMap.{empty}
use Rattle.schema.specs.Schema.{Tables}
use Rattle.schema.specs.Rows.{Rows, Writes}
use Rattle.schema.specs.declared.look.Look.{Look}
use Rattle.log_model.specs.InstalledWrites.{map_after}
use Rattle.log_model.specs.declared.verdict.Verdict.{Verdict}
use Rattle.log_model.specs.Log.{DoneRequest, Beginning, Setting, Call as OrderedCall, CertifiedItem, IsLog, verdict_after, verdict_of, rows_after, procedures_after}
use Rattle.certify.specs.Comparisons.{comparisons_after}
use Rattle.log_model.specs.Entries.{Entry, CallEntry, AdditionEntry, items_of, CarryRuns, CertifiedEntries, certified_entry, certified_entries_of, installed_from}
use Rattle.log_model.specs.Fit.{BeginsSafely, AreItems}
use Rattle.rows_mv.specs.Versions.{Versions, AnswersFrom, AreOfTables, HaveTables, HaveWidths, width_of}
use Rattle.catalogue.specs.Stored.{ListedProcedure, AreForTables, stored_procedures}
use Rattle.log_model.specs.Name.{is_name}
use Rattle.log_entry.specs.declared.entry.Entry.{Entry as LogEntry}
use Rattle.log_entry.specs.declared.entry.Entry.TheVariants.{Call, Addition}
use Rattle.log_entry.specs.Kind.{entry_of}
use Rattle.certify.specs.Kept as certifier
use Rattle.certify.specs.declared.certification.Certification.{Certification}

-- the rows after a position, by the beginning and the delivered entries alone
abbrev pub rows_kept : ℕ → Beginning → List Entry → ℕ → Rows
rows_kept window base entries s = map_after base.rows (installed_from 1 (certified_entries_of window base entries).certified) s

-- each position within the window, and each later one, answers from the rows after it
abbrev pub KeepsRows : ℕ → Beginning → Versions → List Entry → ℕ → Type 0
KeepsRows window base versions entries position =
    (s : ℕ) → position - s ≤ window → AnswersFrom versions.tables s (rows_kept window base entries s)

-- the verdict on the next call, and how many exact comparisons it takes
abbrev pub certification_after : ℕ → List DoneRequest → List CertifiedItem → OrderedCall → List Look → Certification
certification_after window done past call looks = record {
  verdict = verdict_after window done past call looks;
  compared = length (comparisons_after window done past call looks);
}

-- that of the next entry: an addition takes no comparison
abbrev pub certification_next : ℕ → CertifiedEntries → Entry → Certification
certification_next window past (CallEntry e) = certification_after window past.done past.certified e.call e.looks
certification_next window past (AdditionEntry p) = record { verdict = (certified_entry window past (AdditionEntry p)).verdict; compared = 0 }

-- that of an entry which has so many before it
abbrev pub certification_of : ℕ → Beginning → List Entry → ℕ → Entry → Certification
certification_of window base entries before e = certification_next window (certified_entries_of window base (take before entries)) e

-- that of each entry
pub record AreCertificationsOf (window : ℕ) (base : Beginning) (entries : List Entry) (certifications : List Certification) : Type 0 where
  pub count : length certifications ≡ length entries
  pub each : (before : ℕ) (e : Entry) → slice_get entries before ≡ Some e
      → slice_get certifications before ≡ Some (certification_of window base entries before e)

-- what a replica keeps of the delivered entries for verdicts and for rows, its procedures, and whether it has stopped
pub record Replica : Type 0 where
  pub window : ℕ
  pub position : ℕ
  pub stopped : Bool
  pub certifications : List Certification
  pub memory : certifier.Memory
  pub versions : Versions
  pub procedures : List ListedProcedure

-- what is known of every replica
pub record IsReplica (r : Replica) : Type 0 where
  pub certifications : length r.certifications ≡ r.position
  pub count : r.memory.count ≡ r.position
  pub window : r.memory.window ≡ r.window
  pub horizon : r.versions.horizon ≤ r.position - r.window

-- what it keeps is of these entries, in the order of their delivery, after this beginning
pub record StandsFor (base : Beginning) (r : Replica) (entries : List Entry) : Type 0 where
  pub position : r.position ≡ length entries
  pub window : r.memory.window ≡ r.window
  pub memory : certifier.IsMemoryOf r.memory base.requests (certified_entries_of r.window base entries).certified
  pub horizon : r.versions.horizon ≤ r.position - r.window
  pub rows : KeepsRows r.window base r.versions entries r.position
  pub certifications : AreCertificationsOf r.window base entries r.certifications
  pub procedures : stored_procedures r.procedures ≡ (certified_entries_of r.window base entries).procedures

-- the replica stands for these entries in a setting: its window, its tables and the tables of its procedures are the
-- setting's
pub record StandsIn (w : Setting) (r : Replica) (entries : List Entry) : Type 0 where
  pub delivered : StandsFor w.beginning r entries
  pub window : r.window ≡ w.window
  pub tables : HaveTables w.tables r.versions.tables
  pub procedures : AreForTables w.tables r.procedures

-- writes for which the tables have room: of their keys, and of their widths
pub record FitTables (versions : Versions) (writes : Writes) : Type 0 where
  pub tables : AreOfTables writes versions.tables
  pub widths : HaveWidths writes versions.tables

-- ---- the log

-- the entries are of a log of this setting, and each call carries its run
pub record AreEntriesOf (w : Setting) (entries : List Entry) : Type 0 where
  pub begins : BeginsSafely w
  pub log : IsLog (items_of entries)
  pub items : AreItems w (items_of entries)
  pub runs : CarryRuns w entries

-- the replica stands for these entries, which are a log's of this setting
pub record FollowsLog (w : Setting) (r : Replica) (entries : List Entry) : Type 0 where
  pub of_log : AreEntriesOf w entries
  pub stands : StandsIn w r entries

-- ---- what is asked of an entry

-- what an entry writes: an addition nothing
abbrev pub writes_in : Entry → Writes
writes_in (CallEntry e) = e.writes
writes_in (AdditionEntry p) = empty

-- the name of an added procedure is one
abbrev pub IsNamed : Entry → Type 0
IsNamed (CallEntry e) = Unit {0}
IsNamed (AdditionEntry p) = is_name p.name ≡ true

-- the program of an added procedure was accepted for these tables
abbrev pub IsForTables : {A : Type 0} → Tables → LogEntry A → Type 0
IsForTables tables (Call e) = Unit {0}
IsForTables tables (Addition p) = p.accepted.tables ≡ tables

-- entries in code, as the model has them
abbrev pub entries_of : {A : Type 0} → List (LogEntry A) → List Entry
entries_of entries = map entry_of entries

-- ---- what a delivery leaves

-- the window and the tables stay
pub record HasSameTables (old new : Replica) : Type 0 where
  pub window : new.window ≡ old.window
  pub widths : (t : ℕ) → width_of new.versions.tables t ≡ width_of old.versions.tables t
  pub count : length new.versions.tables ≡ length old.versions.tables

-- it has taken an entry in with this verdict, which is that of the entries for which it stood, and where these are of a
-- setting that of their log, whose rows and procedures it has then
pub record HasDelivered (old new : Replica) (e : Entry) (v : Verdict) : Type 0 where
  pub position : new.position ≡ old.position + 1
  pub running : new.stopped ≡ false
  pub stands : (base : Beginning) (past : List Entry) → StandsFor base old past → StandsFor base new (past ++ e ∷ [])
  pub verdict : (base : Beginning) (past : List Entry) → StandsFor base old past
      → v ≡ (certified_entry old.window (certified_entries_of old.window base past) e).verdict
  pub log_verdict : (w : Setting) (past : List Entry) → w.window ≡ old.window → StandsFor w.beginning old past
      → AreEntriesOf w (past ++ e ∷ []) → verdict_of w (items_of (past ++ e ∷ [])) new.position ≡ Some v
  pub log_rows : (w : Setting) (past : List Entry) → w.window ≡ old.window → StandsFor w.beginning old past
      → AreEntriesOf w (past ++ e ∷ [])
      → AnswersFrom new.versions.tables new.position (rows_after w (items_of (past ++ e ∷ [])) new.position)
  pub log_procedures : (w : Setting) (past : List Entry) → w.window ≡ old.window → StandsFor w.beginning old past
      → AreEntriesOf w (past ++ e ∷ [])
      → stored_procedures new.procedures ≡ procedures_after w (items_of (past ++ e ∷ [])) new.position

-- there was no memory: it has stopped, and stands for what it stood for
pub record HasStopped (old new : Replica) : Type 0 where
  pub position : new.position ≡ old.position
  pub stopped : new.stopped ≡ true
  pub procedures : new.procedures ≡ old.procedures
  pub stands : (base : Beginning) (past : List Entry) → StandsFor base old past → StandsFor base new past
