use Rattle.std.proofs.Common.{arith}
use Rattle.key_table.specs.Pages.{all_slots}
use Rattle.key_table.proofs.PrunePartLemmas.{rising_within}
use Rattle.key_table.proofs.group.Group.prune_page.Goals as goal

pub invariant_of-self : goal.invariant_of-self
invariant_of-self g c = (
  record {
    rising = rising_within c.args.horizon (all_slots c.self.inside.pages.items) (all_slots c.prune_page.new.pages.items) c.prune_page.ensures.slots c.self.invariant.0.rising;
    filled = c.prune_page.ensures.filled c.self.invariant.0.filled;
    few = omega (arith, c.prune_page.ensures.few, c.self.invariant.0.few);
  },
  c.prune_page.ensures.least,
)
