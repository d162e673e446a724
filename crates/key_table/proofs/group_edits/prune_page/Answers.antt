use Rattle.std.proofs.Common.{◌≡◌, ◌<◌, ℕ, List, [], length, get_or, set, sym, ap, subst, ◌∙◌, arith}
use Rattle.std.proofs.lemmas.List.{length-set, map-set}
use Rattle.row_chain.specs.Slots.{Slot}
use Rattle.key_table.specs.Pages.{all_slots, least_key, least_keys, AreFilled, IsPrunedWithin}
use Rattle.key_table.proofs.LeastLemmas.{length-least}
use Rattle.key_table.proofs.PrunePagesLemmas.{length_left}
use Rattle.key_table.proofs.PrunePartLemmas.{whole_within, part_within, without_empty, slots_left, filled_left, few_without}
use Rattle.key_table.proofs.group_edits.prune_page.Goals as goal

within : (ps : List (List Slot)) (ls d : List ℕ) (i : ℕ) → ls ≡ least_keys ps → d ≡ ls → i < length d → i < length ps
within ps ls d i is read lt = let n = length-least ls ps is in let m = ap (λ (l : List ℕ). length l) read in omega (arith, n, m, lt)

same_length : (ps new : List (List Slot)) (i : ℕ) (x : List Slot) → new ≡ set ps i x → length new ≡ length ps
same_length ps new i x is = ap (λ (l : List (List Slot)). length l) is ∙ length-set ps i x

pub drop_pruned-requires-clause-page : goal.drop_pruned-requires-clause-page
drop_pruned-requires-clause-page g c =
    let ps = c.args.pages.now.items in let i = c.place_of-page.result in
    let lt = within ps c.args.least.now.items c.deref.result.now i c.requires.least c.deref.ensures.value c.place_of-page.ensures.within in
    let n = same_length ps c.prune_at.new.pages.items i (get_or c.prune_at.new.pages.items i []) (c.prune_at.ensures []).1 in
    omega (arith, lt, n)

pub drop_pruned-requires-clause-len : goal.drop_pruned-requires-clause-len
drop_pruned-requires-clause-len g c =
    let ps = c.args.pages.now.items in let i = c.place_of-page.result in
    length-least c.args.least.now.items ps c.requires.least ∙ sym (same_length ps c.prune_at.new.pages.items i (get_or c.prune_at.new.pages.items i []) (c.prune_at.ensures []).1)

pub drop_pruned-requires-clause-others : goal.drop_pruned-requires-clause-others
drop_pruned-requires-clause-others g c p =
    let ps = c.args.pages.now.items in let i = c.place_of-page.result in let new = c.prune_at.new.pages.items in
    let x = get_or new i p in
    let is : new ≡ set ps i x = (c.prune_at.ensures p).1 in
    ap (λ (l : List ℕ). set l i (least_key x)) c.requires.least ∙ sym (map-set least_key ps i x) ∙ ap least_keys (sym is)

pub returns-clause-slots : goal.returns-clause-slots
returns-clause-slots g c =
    let ps = c.args.pages.now.items in let i = c.place_of-page.result in let new = c.prune_at.new.pages.items in
    let x = get_or new i [] in
    let p = c.prune_at.ensures [] in
    let lt = within ps c.args.least.now.items c.deref.result.now i c.requires.least c.deref.ensures.value c.place_of-page.ensures.within in
    subst (λ (l : List Slot). IsPrunedWithin c.args.horizon (all_slots ps) l)
    (sym (ap all_slots (c.drop_pruned.ensures.left []) ∙ slots_left x new ∙ ap all_slots p.1))
    (part_within c.args.horizon ps i x [] lt (whole_within c.args.horizon (get_or ps i []) x p.0))

pub returns-clause-filled : goal.returns-clause-filled
returns-clause-filled g c filled =
    let ps = c.args.pages.now.items in let i = c.place_of-page.result in let new = c.prune_at.new.pages.items in
    let x = get_or new i [] in
    let p = c.prune_at.ensures [] in
    let lt = within ps c.args.least.now.items c.deref.result.now i c.requires.least c.deref.ensures.value c.place_of-page.ensures.within in
    subst (AreFilled 64) (sym (c.drop_pruned.ensures.left [] ∙ ap (without_empty x) p.1))
    (filled_left 64 ps i x [] lt (length_left c.args.horizon (get_or ps i []) x p.0) filled)

pub returns-clause-few : goal.returns-clause-few
returns-clause-few g c =
    let ps = c.args.pages.now.items in let i = c.place_of-page.result in let new = c.prune_at.new.pages.items in
    let x = get_or new i [] in
    let n = same_length ps new i x (c.prune_at.ensures []).1 in
    let less = few_without x new in
    let is = ap (λ (l : List (List Slot)). length l) (c.drop_pruned.ensures.left []) in
    omega (arith, n, less, is)
