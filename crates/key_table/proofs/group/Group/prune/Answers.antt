use Rattle.std.proofs.Common.{arith}
use Rattle.key_table.specs.Pages.{all_slots}
use Rattle.key_table.proofs.PrunePagesLemmas.{rising_left}
use Rattle.key_table.proofs.group.Group.prune.Goals as goal

pub invariant_of-self : goal.invariant_of-self
invariant_of-self g c = (
  record {
    rising = rising_left c.args.horizon (all_slots c.self.inside.pages.items) (all_slots c.prune.new.pages.items) c.prune.ensures.slots c.self.invariant.0.rising;
    filled = c.prune.ensures.filled c.self.invariant.0.filled;
    few = omega (arith, c.prune.ensures.few, c.self.invariant.0.few);
  },
  c.prune.ensures.least,
)
