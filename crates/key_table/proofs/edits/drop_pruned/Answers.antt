use Rattle.std.proofs.Common.{◌≡◌, ◌≤◌, List, [], length, get_or, set, filter, ap, ◌∙◌, arith}
use Rattle.key_table.specs.Table.{Slot}
use Rattle.key_table.specs.Pages.{all_slots, least_key}
use Rattle.key_table.proofs.PrunePagesLemmas.{length-filter-le}
use Rattle.key_table.specs.Groups.{has_any}
use Rattle.key_table.proofs.edits.drop_pruned.Goals as goal

pub returns-then-has_keys-clause-least : goal.returns-then-has_keys-clause-least
returns-then-has_keys-clause-least g c =
    c.set_least.ensures []
    ∙ ap (λ (l : List (List (List Slot))). set c.args.least.now.items c.args.at (least_key (all_slots (get_or l c.args.at [])))) c.deref-then-has_keys.ensures.value
    ∙ c.requires.others []

pub note_all-requires : goal.note_all-requires
note_all-requires g c =
    let gs = c.args.groups.now.items in
    let left : length c.deref-2.result.now ≡ length (filter has_any gs) = ap (λ (l : List (List (List Slot))). length l) (c.deref-2.ensures.value ∙ c.drop_empty.ensures) in
    let less : length (filter has_any gs) ≤ length gs = length-filter-le has_any gs in
    let same = c.requires.len in
    omega arith
