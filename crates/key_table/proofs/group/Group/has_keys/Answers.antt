use Rattle.std.proofs.Common.{◌∙◌, List, not, eqb, length, ap}
use Rattle.row_chain.specs.Slots.{Slot}
use Rattle.key_table.specs.Pages.{all_slots, has_slots}
use Rattle.key_table.proofs.GroupLemmas.{some_slots}
use Rattle.key_table.proofs.group.Group.has_keys.Goals as goal

pub returns : goal.returns
returns g c =
    ap not c.is_empty.ensures
    ∙ ap (λ (l : List (List Slot)). not (eqb (length l) 0)) c.deref-pages.ensures.value
    ∙ some_slots 64 c.self.inside.pages.items c.self.invariant.0.filled
    ∙ ap (λ (l : List (List Slot)). has_slots (all_slots l)) c.self.view_is
