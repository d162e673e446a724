use Rattle.row_chain.specs.Slots.{ArePruned}
use Rattle.row_chain.proofs.entries.prune_each.Given as goal

abbrev pub invariant-loop-i : goal.invariant-loop-i
invariant-loop-i g l = ArePruned l.horizon l.i l.fn.entries.items l.entries.items
