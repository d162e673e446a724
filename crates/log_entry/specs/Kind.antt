-- An entry in code, and the model's.
use Rattle.catalogue.specs.Stored.{stored}
use Rattle.log_entry.specs.declared.entry.Entry.{Entry as LogEntry}
use Rattle.log_entry.specs.declared.entry.Entry.TheVariants.{Call, Addition}
use Rattle.log_model.specs.Entries.{Entry, CallEntry, AdditionEntry}

abbrev pub entry_of : {A : Type 0} → LogEntry A → Entry
entry_of (Call e) = CallEntry e
entry_of (Addition p) = AdditionEntry (stored p)
