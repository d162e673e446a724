use Rattle.std.proofs.Common.{◌≡◌, drop}
use Rattle.row_chain.specs.Slots.{rows_between}
use Rattle.row_chain.proofs.entries.first.Given as goal

abbrev pub invariant-loop-entry : goal.invariant-loop-entry
invariant-loop-entry g l = rows_between l.position l.lo l.hi (drop l.entry-index l.entries) ≡ rows_between l.position l.lo l.hi l.entries
