use Rattle.std.proofs.Common.{◌≡◌, ◌≤◌, ◌++◌, List, length}
use Rattle.log_entry.specs.declared.entry.Entry.{Entry as LogEntry}
use Rattle.order_log.specs.Facts.{snapshot_of}
use Rattle.order_log.proofs.log.OrderLog.append.Given as goal

abbrev pub invariant-loop : goal.invariant-loop
invariant-loop g l = record {
  entry : l.entry.value ≡ l.fn.entry;
  between : (xs : List (LogEntry g.row.A.Denot)) × (l.seen ≡ l.fn.seen ++ xs);
  passed : l.counter ≤ length l.seen;
  snapshot : snapshot_of l.fn.entry ≤ length l.fn.seen;
}
