use Rattle.std.proofs.Common.{drop}
use Rattle.std.specs.List.{AllWithin}
use Rattle.schema.specs.Rows.{AreWrites}
use Rattle.log_model.specs.Log.{IsLog, IsLogFrom}
use Rattle.log_model.specs.Entries.{items_of}
use Rattle.log_entry.specs.Kind.{entry_of}
use Rattle.replica.specs.Replica.{IsForTables, IsNamed, entries_of, writes_in}
use Rattle.test_replicas.proofs.fit.entries_fit.Given as goal

abbrev pub invariant-loop-before : goal.invariant-loop-before
invariant-loop-before g l = record {
  log : IsLogFrom l.before (items_of (entries_of (drop l.before l.entries))) → IsLog (items_of (entries_of l.entries));
  writes : AllWithin (λ e. AreWrites l.schema (writes_in (entry_of e))) l.entries 0 l.before;
  named : AllWithin (λ e. IsNamed (entry_of e)) l.entries 0 l.before;
  for_tables : AllWithin (λ e. IsForTables l.schema e) l.entries 0 l.before;
}
