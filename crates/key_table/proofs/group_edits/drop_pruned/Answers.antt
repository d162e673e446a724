use Rattle.std.proofs.Common.{◌≡◌, ◌≤◌, List, [], length, get_or, set, filter, ap, ◌∙◌, arith}
use Rattle.row_chain.specs.Slots.{Slot}
use Rattle.key_table.specs.Pages.{least_key, has_slots}
use Rattle.key_table.proofs.PrunePagesLemmas.{length-filter-le}
use Rattle.key_table.proofs.group_edits.drop_pruned.Goals as goal

pub returns-then-keys-gt0-clause-least : goal.returns-then-keys-gt0-clause-least
returns-then-keys-gt0-clause-least g c =
    c.set_least.ensures []
    ∙ ap (λ (l : List (List Slot)). set c.args.least.now.items c.args.page (least_key (get_or l c.args.page []))) c.deref-then-keys-gt0.ensures.value
    ∙ c.requires.others []

pub note_all-requires : goal.note_all-requires
note_all-requires g c =
    let ps = c.args.pages.now.items in
    let left : length c.deref-2.result.now ≡ length (filter has_slots ps) = ap (λ (l : List (List Slot)). length l) (c.deref-2.ensures.value ∙ c.drop_empty.ensures) in
    let less : length (filter has_slots ps) ≤ length ps = length-filter-le has_slots ps in
    let same = c.requires.len in
    omega arith
