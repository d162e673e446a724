-- What is known of an entry of a database's log: of a call by the entries that its run saw, of an addition by itself.
use Rattle.std.specs.Prelude.{◌≡◌, ◌≤◌, true, List}
use Rattle.schema.specs.declared.limits.TheConstants.{MAX_ARGUMENTS}
use Rattle.schema.specs.Schema.{Tables}
use Rattle.schema.specs.Rows.{AreWrites}
use Rattle.log_model.specs.Log.{Setting}
use Rattle.log_model.specs.Name.{is_name}
use Rattle.log_model.specs.Fit.{IsCall}
use Rattle.log_model.specs.Entries.{ExecutedCall, Entry, items_of, CarriesRun}
use Rattle.catalogue.specs.Stored.{ListedProcedure, WasAccepted}
use Rattle.log_entry.specs.declared.entry.Entry.{Entry as LogEntry}
use Rattle.log_entry.specs.declared.entry.Entry.TheVariants.{Call, Addition}
use Rattle.replica.specs.Replica.{entries_of}

-- a call of a procedure that it found, with the looks, the writes and the reply of its run, and writes of the schema's rows
pub record IsOrderedCall (w : Setting) (before : List Entry) (e : ExecutedCall) : Type 0 where
  pub is_call : IsCall w (items_of before) e.call
  pub run : CarriesRun w (items_of before) e
  pub writes : AreWrites w.tables e.writes

-- its name is one, and its program was accepted for the schema's tables and for arguments of so many bytes, at most 256
pub record IsOrderedAddition (schema : Tables) (p : ListedProcedure) : Type 0 where
  pub name : is_name p.name ≡ true
  pub tables : p.accepted.tables ≡ schema
  pub args : p.accepted.args_len ≤ MAX_ARGUMENTS
  pub accepted : WasAccepted p.accepted

abbrev pub IsOrdered : {A : Type 0} → Setting → List (LogEntry A) → LogEntry A → Type 0
IsOrdered w before (Call e) = IsOrderedCall w (entries_of before) e
IsOrdered w before (Addition p) = IsOrderedAddition w.tables p
