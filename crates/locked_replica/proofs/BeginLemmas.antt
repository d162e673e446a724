-- A call that begins: the procedure that it finds.
use Rattle.std.proofs.Common.{◌≡◌, ℕ, List, length, Option, Some, Err, option_map, sym, ap, subst, ◌∙◌}
use Rattle.schema.specs.Schema.{AreTables}
use Rattle.bpf_verify.specs.Flow.{Procedure}
use Rattle.catalogue.specs.Stored.{ListedProcedure, AreForTables, listed_by_number, stored_procedures}
use Rattle.log_model.specs.declared.request.RequestId.{RequestId}
use Rattle.log_model.specs.declared.refusal.CallRefusal.{CallRefusal}
use Rattle.log_model.specs.Log.{Catalogue, Setting, by_number, procedures_after}
use Rattle.log_model.specs.Admission.{admission}
use Rattle.log_model.specs.Entries.{items_of}
use Rattle.log_entry.specs.declared.entry.Entry.{Entry as LogEntry}
use Rattle.catalogue.specs.Catalogue.{accepted_of}
use Rattle.catalogue.proofs.HeldLemmas.{numbered_for}
use Rattle.replica.specs.Replica.{AreEntriesOf, entries_of}
use Rattle.locked_replica.specs.Begun.{IsBegun, procedure_now}

module _ {A : Type 0} (w : Setting) (entries seen : List (LogEntry A)) (number : ℕ) (procedures : List ListedProcedure) where
  -- what a call has seen, and the procedures after that
  pub record Sees : Type 0 where
    pub same : seen ≡ entries
    pub schema : AreTables w.tables
    pub entries_of_log : AreEntriesOf w (entries_of entries)
    pub after : stored_procedures procedures ≡ procedures_after w (items_of (entries_of entries)) (length entries)
    pub for_tables : AreForTables w.tables procedures

  pub of_log : Sees → AreEntriesOf w (entries_of seen)
  of_log s = subst (λ (xs : List (LogEntry A)). AreEntriesOf w (entries_of xs)) (sym s.same) s.entries_of_log

  pub refused : Sees → (args : List ℕ) (request : Option RequestId) (refusal : CallRefusal) → admission args request (by_number (stored_procedures procedures) number) ≡ Err refusal
      → admission args request (procedure_now w seen number) ≡ Err refusal
  refused s args request refusal is =
      ap (λ (xs : List (LogEntry A)). admission args request (procedure_now w xs number)) s.same
      ∙ ap (λ (ps : Catalogue). admission args request (by_number ps number)) (sym s.after) ∙ is

  pub begun : Sees → (accepted : Procedure) → Some accepted ≡ option_map (λ (l : ListedProcedure). l.accepted) (listed_by_number procedures number) → IsBegun w (record { entries = seen; procedure = number; accepted = accepted })
  begun s accepted found = record {
    schema = s.schema;
    entries = of_log s;
    program =
        found ∙ numbered_for w.tables number procedures s.for_tables
        ∙ ap (λ (ps : Catalogue). option_map (accepted_of w.tables) (by_number ps number)) s.after
        ∙ ap (λ (xs : List (LogEntry A)). option_map (accepted_of w.tables) (procedure_now w xs number)) (sym s.same);
  }

-- one program is found under a number
pub one_found : (a b : Procedure) (found : Option Procedure) → Some a ≡ found → Some b ≡ found → a ≡ b
one_found a b found e f = one (e ∙ sym f)
  where
    one : Some a ≡ Some b → a ≡ b
    one same = cc
