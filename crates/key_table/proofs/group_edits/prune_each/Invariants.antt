use Rattle.key_table.specs.Pages.{ArePagesPruned}
use Rattle.key_table.proofs.group_edits.prune_each.Given as goal

abbrev pub invariant-loop-i : goal.invariant-loop-i
invariant-loop-i g l = ArePagesPruned l.horizon l.i l.fn.pages.items l.pages.items
