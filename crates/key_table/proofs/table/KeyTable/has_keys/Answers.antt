use Rattle.std.proofs.Common.{◌∙◌, List, not, eqb, length, sym, ap}
use Rattle.key_table.specs.Table.{Slot, Table}
use Rattle.key_table.specs.Pages.{has_slots}
use Rattle.key_table.proofs.GroupLemmas.{some_slots}
use Rattle.key_table.specs.Groups.{group_slots}
use Rattle.key_table.proofs.PartLemmas.{length-group_slots}
use Rattle.key_table.proofs.table.KeyTable.has_keys.Goals as goal

pub returns : goal.returns
returns g c =
    ap not c.is_empty.ensures
    ∙ ap (λ (l : List (List (List Slot))). not (eqb (length l) 0)) c.deref-groups.ensures.value
    ∙ ap (λ n. not (eqb n 0)) (sym (length-group_slots c.self.inside.groups.items))
    ∙ some_slots 16384 (group_slots c.self.inside.groups.items) c.self.invariant.0.filled
    ∙ ap (λ (t : Table). has_slots t.slots) c.self.view_is
