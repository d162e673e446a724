use Rattle.std.proofs.Common.{◌≡◌, false, take}
use Rattle.rows_mv.specs.Versions.{HaveTables}
use Rattle.catalogue.specs.Stored.{AreForTables}
use Rattle.catalogue.specs.Catalogue.{beginning_of}
use Rattle.replica.specs.Replica.{StandsFor, entries_of}
use Rattle.replica.proofs.rebuild.replica_of.Given as goal

abbrev pub invariant-loop-entry : goal.invariant-loop-entry
invariant-loop-entry g l = record {
  stands : StandsFor (beginning_of l.catalogue) l.replica (entries_of (take l.entry-index l.entries));
  position : l.replica.position ≡ l.entry-index;
  window : l.replica.window ≡ l.window;
  running : l.replica.stopped ≡ false;
  tables : HaveTables l.catalogue.tables l.replica.versions.tables;
  procedures : AreForTables l.catalogue.tables l.replica.procedures;
}
