use Rattle.std.proofs.Common.{subst, arith}
use Rattle.key_table.specs.Table.{Table, ArePrunedOrSame, versions_at}
use Rattle.key_table.specs.Pages.{all_slots}
use Rattle.key_table.proofs.PrunePartLemmas.{rising_within, wide_within, versions_within}
use Rattle.key_table.specs.Groups.{group_slots}
use Rattle.key_table.proofs.table.KeyTable.prune_page.Goals as goal

pub invariant_of-self : goal.invariant_of-self
invariant_of-self g c =
    let old = all_slots (group_slots c.self.inside.groups.items) in
    let new = all_slots (group_slots c.prune_page.new.groups.items) in (
      record {
        rising = rising_within c.args.horizon old new c.prune_page.ensures.slots c.self.invariant.0.rising;
        wide = wide_within c.args.horizon c.self.inside.width old new c.prune_page.ensures.slots c.self.invariant.0.wide;
        filled = c.prune_page.ensures.filled;
        few = omega (arith, c.prune_page.ensures.few, c.self.invariant.0.few);
      },
      c.prune_page.ensures.least,
    )

pub returns-clause-versions : goal.returns-clause-versions
returns-clause-versions g c q =
    subst (λ (t : Table). ArePrunedOrSame c.args.horizon (versions_at t.slots q) (versions_at (all_slots (group_slots c.prune_page.new.groups.items)) q)) c.self.view_is
    (versions_within c.args.horizon (all_slots (group_slots c.self.inside.groups.items)) (all_slots (group_slots c.prune_page.new.groups.items)) q c.prune_page.ensures.slots c.self.invariant.0.rising)
