use Rattle.std.proofs.Common.{◌∙◌, ◌≤◌, List, length, subst, sym, ap, arith}
use Rattle.row_chain.specs.Slots.{Slot}
use Rattle.key_table.specs.Pages.{all_slots, AreFilled, IsPrunedTo}
use Rattle.key_table.proofs.PrunePagesLemmas.{all_pruned, all-filled_pages, filled_pruned, few_pruned}
use Rattle.key_table.proofs.LeastLemmas.{length-least}
use Rattle.key_table.proofs.group_edits.prune.Goals as goal

pub returns-clause-slots : goal.returns-clause-slots
returns-clause-slots g c =
    subst (IsPrunedTo c.args.horizon (all_slots c.args.pages.now.items))
    (sym (ap all_slots c.drop_empty.ensures ∙ all-filled_pages c.prune_each.new.pages.items))
    (all_pruned c.args.horizon (length c.args.pages.now.items) c.args.pages.now.items c.prune_each.new.pages.items c.prune_each.ensures (omega arith))

pub returns-clause-filled : goal.returns-clause-filled
returns-clause-filled g c filled =
    subst (AreFilled 64) (sym c.drop_empty.ensures) (filled_pruned 64 c.args.horizon (length c.args.pages.now.items) c.args.pages.now.items c.prune_each.new.pages.items c.prune_each.ensures (omega arith) filled)

pub returns-clause-few : goal.returns-clause-few
returns-clause-few g c =
    subst (λ (l : List (List Slot)). length l ≤ length c.args.pages.now.items) (sym c.drop_empty.ensures) (few_pruned c.args.horizon (length c.args.pages.now.items) c.args.pages.now.items c.prune_each.new.pages.items c.prune_each.ensures)

pub note_all-requires : goal.note_all-requires
note_all-requires g c =
    let ps = c.args.pages.now.items in let ls = c.args.least.now.items in
    let few = few_pruned c.args.horizon (length ps) ps c.prune_each.new.pages.items c.prune_each.ensures in
    let n = length-least ls ps c.requires in
    subst (λ (l : List (List Slot)). length l ≤ length ls) (sym (c.deref.ensures.value ∙ c.drop_empty.ensures)) (omega (arith, few, n))
