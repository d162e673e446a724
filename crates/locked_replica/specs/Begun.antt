-- A call that begins: what it has seen, and the program that it found after that.
use Rattle.std.specs.Prelude.{◌≡◌, ℕ, List, length, Option, Some, option_map, refl}
use Rattle.std.specs.Coded.{Coded, code_by, coded×, coded_list, coded_ℕ}
use Rattle.schema.specs.Schema.{AreTables}
use Rattle.bpf_verify.specs.Flow.{Procedure}
use Rattle.bpf_verify.specs.Procedure.{procedure_code}
use Rattle.log_model.specs.Log.{Setting, StoredProcedure, by_number, procedures_after}
use Rattle.log_model.specs.Entries.{items_of}
use Rattle.log_entry.specs.declared.entry.Entry.{Entry as LogEntry}
use Rattle.order_log.specs.Codes.{entry_code}
use Rattle.catalogue.specs.Catalogue.{accepted_of}
use Rattle.replica.specs.Replica.{AreEntriesOf, entries_of}

pub record BegunState (A : Type 0) : Type 0 where
  pub entries : List (LogEntry A)
  pub procedure : ℕ
  pub accepted : Procedure

abbrev pub begun_code : {A : Type 0} → Coded (BegunState A)
begun_code {A} = code_by (List (LogEntry A) × (ℕ × Procedure)) (coded× (coded_list entry_code) (coded× coded_ℕ procedure_code))
    (λ b. (b.entries, (b.procedure, b.accepted)))
    (λ c. record { entries = c.0; procedure = c.1.0; accepted = c.1.1 })
    (λ _. refl)

-- the procedure of a number after some entries
abbrev pub procedure_now : {A : Type 0} → Setting → List (LogEntry A) → ℕ → Option StoredProcedure
procedure_now w entries number = by_number (procedures_after w (items_of (entries_of entries)) (length entries)) number

-- the entries are a log's, and the program is the one that the procedure's number has after them
pub record IsBegun {A : Type 0} (w : Setting) (b : BegunState A) : Type 0 where
  pub schema : AreTables w.tables
  pub entries : AreEntriesOf w (entries_of b.entries)
  pub program : Some b.accepted ≡ option_map (accepted_of w.tables) (procedure_now w b.entries b.procedure)
