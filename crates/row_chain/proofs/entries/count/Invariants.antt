use Rattle.std.proofs.Common.{◌≡◌, ◌≤◌, ◌+◌, length, drop}
use Rattle.row_chain.specs.Slots.{rows_between}
use Rattle.row_chain.proofs.entries.count.Given as goal

abbrev pub invariant-loop-entry : goal.invariant-loop-entry
invariant-loop-entry g l = record {
  few : l.found ≤ l.entry-index;
  left : l.found + length (rows_between l.position l.lo l.hi (drop l.entry-index l.entries)) ≡ length (rows_between l.position l.lo l.hi l.entries);
}
