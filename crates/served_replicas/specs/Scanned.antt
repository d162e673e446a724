-- The rows of a scan.
use Rattle.std.specs.Prelude.{List, length}
use Rattle.schema.specs.Rows.{Rows}
use Rattle.log_model.specs.Log.{Setting, rows_after}
use Rattle.log_model.specs.Entries.{items_of}
use Rattle.log_entry.specs.declared.entry.Entry.{Entry as LogEntry}
use Rattle.replica.specs.Replica.{entries_of}

-- the rows after what was seen of a log
abbrev pub rows_seen : {A : Type 0} → Setting → List (LogEntry A) → Rows
rows_seen w seen = rows_after w (items_of (entries_of seen)) (length seen)
