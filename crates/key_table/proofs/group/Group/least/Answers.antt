use Rattle.std.proofs.Common.{◌∙◌, List, ap}
use Rattle.row_chain.specs.Slots.{Slot}
use Rattle.key_table.specs.Pages.{all_slots, least_key}
use Rattle.key_table.proofs.GroupLemmas.{first_least}
use Rattle.key_table.proofs.group.Group.least.Goals as goal

pub returns : goal.returns
returns g c =
    first_least 64 c.self.inside.pages.items c.deref-least.result.now c.self.invariant.0.filled (c.deref-least.ensures.value ∙ c.self.invariant.1)
    ∙ ap (λ (l : List (List Slot)). least_key (all_slots l)) c.self.view_is
