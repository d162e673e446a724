use Rattle.std.proofs.Common.{◌≡◌, ◌≤◌, ◌<◌, ℕ, Bool, true, false, List, [], ◌∷◌, length, get_or, set, filter, cond, refl, sym, ap, subst, ◌∙◌, arith}
use Rattle.std.proofs.lemmas.List.{get_or_default, length-set, map-set}
use Rattle.key_table.specs.Table.{Slot}
use Rattle.key_table.specs.Pages.{all_slots, has_slots, least_key, least_keys, AreFilled, IsPrunedWithin}
use Rattle.key_table.proofs.LeastLemmas.{length-least}
use Rattle.key_table.proofs.PlaceLemmas.{filled_page}
use Rattle.key_table.proofs.PrunePagesLemmas.{length-filter-le}
use Rattle.key_table.proofs.PrunePartLemmas.{part_within, length_within, without_empty, slots_left, filled_left}
use Rattle.key_table.specs.Groups.{group_slots, has_any}
use Rattle.key_table.proofs.PartLemmas.{within, part_at, part_set, parts_left, length-group_slots}
use Rattle.key_table.proofs.edits.prune_page.Goals as goal

in_range : (gs : List (List (List Slot))) (ls d : List ℕ) (i : ℕ) → ls ≡ least_keys (group_slots gs) → d ≡ ls → i < length d → i < length gs
in_range gs ls d i is read lt =
    let n = length-least ls (group_slots gs) is in
    let k = length-group_slots gs in
    let m = ap (λ (l : List ℕ). length l) read in
    omega (arith, n, k, m, lt)

same_length : (gs new : List (List (List Slot))) (i : ℕ) (x : List (List Slot)) → new ≡ set gs i x → length new ≡ length gs
same_length gs new i x is = ap (λ (l : List (List (List Slot))). length l) is ∙ length-set gs i x

some_pages : (g : List (List Slot)) → 0 < length (all_slots g) → 0 < length g
some_pages [] some = absurd (omega arith)
some_pages (p ∷ g) some = omega arith

-- the groups without one that has no keys, as the slots of each
parts_without : (x : List (List Slot)) (gs : List (List (List Slot))) → group_slots (cond (has_any x) gs (filter has_any gs)) ≡ without_empty (all_slots x) (group_slots gs)
parts_without x gs =
    elim (has_any x) as (λ (t : Bool). group_slots (cond t gs (filter has_any gs)) ≡ cond t (group_slots gs) (filter has_slots (group_slots gs))) [ true ↦ refl | false ↦ parts_left gs ]

few_without : (x : List (List Slot)) (gs : List (List (List Slot))) → length (cond (has_any x) gs (filter has_any gs)) ≤ length gs
few_without x gs =
    let less : length (filter has_any gs) ≤ length gs = length-filter-le has_any gs in
    elim (has_any x) as (λ (t : Bool). length (cond t gs (filter has_any gs)) ≤ length gs) [ true ↦ omega arith | false ↦ less ]

-- the slots of the group that was pruned
pruned_part : (horizon i : ℕ) (gs : List (List (List Slot))) (x : List (List Slot)) → IsPrunedWithin horizon (all_slots (get_or gs i [])) (all_slots x) → IsPrunedWithin horizon (get_or (group_slots gs) i []) (all_slots x)
pruned_part horizon i gs x w = subst (λ (l : List Slot). IsPrunedWithin horizon l (all_slots x)) (sym (part_at gs i)) w

pub prune_page_at-next-requires-clause-at : goal.prune_page_at-next-requires-clause-at
prune_page_at-next-requires-clause-at g c =
    in_range c.args.groups.now.items c.args.least.now.items c.deref.result.now c.place_of-at.result c.requires.least c.deref.ensures.value c.place_of-at.ensures.within

pub prune_page_at-next-requires-clause-some : goal.prune_page_at-next-requires-clause-some
prune_page_at-next-requires-clause-some g c d =
    let gs = c.args.groups.now.items in let i = c.place_of-at.result in
    let lt = in_range gs c.args.least.now.items c.deref.result.now i c.requires.least c.deref.ensures.value c.place_of-at.ensures.within in
    let all : 0 < length (get_or (group_slots gs) i []) = (filled_page 16384 (group_slots gs) i [] c.requires.filled (within gs i lt)).0 in
    let here : 0 < length (all_slots (get_or gs i [])) = subst (λ (l : List Slot). 0 < length l) (part_at gs i) all in
    subst (λ (l : List (List Slot)). 0 < length l) (same gs i d lt) (some_pages (get_or gs i []) here)
  where
    same : (gs : List (List (List Slot))) (i : ℕ) (d : List (List Slot)) → i < length gs → get_or gs i [] ≡ get_or gs i d
    same gs i d lt = get_or_default gs i [] d lt

pub drop_pruned-requires-clause-at : goal.drop_pruned-requires-clause-at
drop_pruned-requires-clause-at g c =
    let gs = c.args.groups.now.items in let i = c.place_of-at.result in let new = c.prune_page_at-next.new.groups.items in
    let lt = in_range gs c.args.least.now.items c.deref.result.now i c.requires.least c.deref.ensures.value c.place_of-at.ensures.within in
    let n = same_length gs new i (get_or new i []) (c.prune_page_at-next.ensures []).1 in
    omega (arith, lt, n)

pub drop_pruned-requires-clause-len : goal.drop_pruned-requires-clause-len
drop_pruned-requires-clause-len g c =
    let gs = c.args.groups.now.items in let i = c.place_of-at.result in let new = c.prune_page_at-next.new.groups.items in
    length-least c.args.least.now.items (group_slots gs) c.requires.least ∙ length-group_slots gs
    ∙ sym (same_length gs new i (get_or new i []) (c.prune_page_at-next.ensures []).1)

pub drop_pruned-requires-clause-others : goal.drop_pruned-requires-clause-others
drop_pruned-requires-clause-others g c d =
    let gs = c.args.groups.now.items in let i = c.place_of-at.result in let new = c.prune_page_at-next.new.groups.items in
    let x = get_or new i d in
    let is : new ≡ set gs i x = (c.prune_page_at-next.ensures d).1 in
    ap (λ (l : List ℕ). set l i (least_key (all_slots x))) c.requires.least
    ∙ sym (map-set least_key (group_slots gs) i (all_slots x))
    ∙ ap least_keys (sym (part_set gs i x) ∙ sym (ap group_slots is))

-- what is left of the groups, as the slots of each
left : (gs new out : List (List (List Slot))) (i : ℕ) (x : List (List Slot)) → new ≡ set gs i x → out ≡ cond (has_any x) new (filter has_any new) → group_slots out ≡ without_empty (all_slots x) (set (group_slots gs) i (all_slots x))
left gs new out i x is e = ap group_slots e ∙ parts_without x new ∙ ap (without_empty (all_slots x)) (ap group_slots is ∙ part_set gs i x)

pub returns-clause-slots : goal.returns-clause-slots
returns-clause-slots g c =
    let gs = c.args.groups.now.items in let i = c.place_of-at.result in let new = c.prune_page_at-next.new.groups.items in
    let x = get_or new i [] in
    let p = c.prune_page_at-next.ensures [] in
    let lt = in_range gs c.args.least.now.items c.deref.result.now i c.requires.least c.deref.ensures.value c.place_of-at.ensures.within in
    subst (λ (l : List Slot). IsPrunedWithin c.args.horizon (all_slots (group_slots gs)) l)
    (sym (ap all_slots (left gs new c.drop_pruned.new.groups.items i x p.1 (c.drop_pruned.ensures.left [])) ∙ slots_left (all_slots x) (set (group_slots gs) i (all_slots x))))
    (part_within c.args.horizon (group_slots gs) i (all_slots x) [] (within gs i lt) (pruned_part c.args.horizon i gs x p.0))

pub returns-clause-filled : goal.returns-clause-filled
returns-clause-filled g c =
    let gs = c.args.groups.now.items in let i = c.place_of-at.result in let new = c.prune_page_at-next.new.groups.items in
    let x = get_or new i [] in
    let p = c.prune_page_at-next.ensures [] in
    let lt = in_range gs c.args.least.now.items c.deref.result.now i c.requires.least c.deref.ensures.value c.place_of-at.ensures.within in
    subst (AreFilled 16384) (sym (left gs new c.drop_pruned.new.groups.items i x p.1 (c.drop_pruned.ensures.left [])))
    (filled_left 16384 (group_slots gs) i (all_slots x) [] (within gs i lt) (length_within c.args.horizon (get_or (group_slots gs) i []) (all_slots x) (pruned_part c.args.horizon i gs x p.0)) c.requires.filled)

pub returns-clause-few : goal.returns-clause-few
returns-clause-few g c =
    let gs = c.args.groups.now.items in let i = c.place_of-at.result in let new = c.prune_page_at-next.new.groups.items in
    let x = get_or new i [] in
    let n = same_length gs new i x (c.prune_page_at-next.ensures []).1 in
    let less = few_without x new in
    let is = ap (λ (l : List (List (List Slot))). length l) (c.drop_pruned.ensures.left []) in
    omega (arith, n, less, is)
