use Rattle.std.proofs.Common.{◌≡◌, ℕ, List, [], length, get_or, set, sym, ap, ◌∙◌, arith}
use Rattle.std.proofs.lemmas.List.{length-set}
use Rattle.row_chain.specs.Slots.{Slot}
use Rattle.key_table.specs.Pages.{least_key, with_slot}
use Rattle.key_table.proofs.LeastLemmas.{length-least, least_noted}
use Rattle.key_table.proofs.group_edits.insert_at.Goals as goal

len : (ps new d : List (List Slot)) (i : ℕ) (p : List Slot) → new ≡ set ps i p → d ≡ new → length d ≡ length ps
len ps new d i p eq read = ap (λ (l : List (List Slot)). length l) (read ∙ eq) ∙ length-set ps i p

pub set_least-requires-clause-page : goal.set_least-requires-clause-page
set_least-requires-clause-page g c =
    let ps = c.args.pages.now.items in
    let n = len ps c.put_in.new.pages.items c.deref.result.now c.args.page (with_slot c.args.entry (get_or ps c.args.page [])) (c.in_ok-put_in.ensures.done []) c.deref.ensures.value in
    omega (arith, n, c.requires.page)

pub set_least-requires-clause-len : goal.set_least-requires-clause-len
set_least-requires-clause-len g c =
    let ps = c.args.pages.now.items in
    length-least c.args.least.now.items ps c.requires.least
    ∙ sym (len ps c.put_in.new.pages.items c.deref.result.now c.args.page (with_slot c.args.entry (get_or ps c.args.page [])) (c.in_ok-put_in.ensures.done []) c.deref.ensures.value)

pub returns-clause-least : goal.returns-clause-least
returns-clause-least g c =
    let ps = c.args.pages.now.items in let i = c.args.page in let ls = c.args.least.now.items in
    least_noted ps c.put_in.new.pages.items ls c.set_least.new.least.items i (with_slot c.args.entry (get_or ps i [])) [] c.requires.page c.requires.least (c.in_ok-put_in.ensures.done [])
    (c.set_least.ensures [] ∙ ap (λ (l : List (List Slot)). set ls i (least_key (get_or l i []))) c.deref.ensures.value)
