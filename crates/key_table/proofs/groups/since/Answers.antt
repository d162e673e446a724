use Rattle.std.proofs.Common.{◌≡◌, ◌-◌, ◌≤◌, ◌∙◌, ℕ, List, length, drop, subst, sym, ap, arith}
use Rattle.std.proofs.lemmas.List.{take_rest, length-drop, drop-map}
use Rattle.key_table.specs.Table.{Slot, AreRising, rows_between}
use Rattle.key_table.specs.Pages.{all_slots, AreFilled}
use Rattle.key_table.proofs.PlaceLemmas.{rising-drop_pages, filled-drop, rows-drop_place}
use Rattle.key_table.specs.Groups.{group_slots}
use Rattle.key_table.proofs.groups.since.Goals as goal

left : (gs : List (List (List Slot))) (n : ℕ) (rest : List (List (List Slot))) → rest ≡ drop n gs → group_slots rest ≡ drop n (group_slots gs)
left gs n rest is = ap group_slots is ∙ sym (drop-map all_slots n gs)

pub returns-clause-rising : goal.returns-clause-rising
returns-clause-rising g c =
    let gs = c.args.groups.now in let n = c.place_of-from.result in
    subst (λ (l : List (List Slot)). AreRising (all_slots l)) (sym (left gs n _ (take_rest gs n))) (rising-drop_pages n (group_slots gs) c.requires.rising)

pub returns-clause-filled : goal.returns-clause-filled
returns-clause-filled g c =
    let gs = c.args.groups.now in let n = c.place_of-from.result in
    subst (AreFilled 16384) (sym (left gs n _ (take_rest gs n))) (filled-drop 16384 n (group_slots gs) c.requires.filled)

pub returns-clause-few : goal.returns-clause-few
returns-clause-few g c =
    let gs = c.args.groups.now in let n = c.place_of-from.result in
    let len : length (drop n gs) ≡ length gs - n = length-drop n gs in
    subst (λ (l : List (List (List Slot))). length l ≤ length gs) (sym (take_rest gs n)) (omega (arith, len))

pub returns-clause-same : goal.returns-clause-same
returns-clause-same g c s hi =
    let gs = c.args.groups.now in let n = c.place_of-from.result in
    ap (λ (l : List (List Slot)). rows_between s c.args.lo hi (all_slots l)) (left gs n _ (take_rest gs n) ∙ ap (λ (i : ℕ). drop i (group_slots gs)) (c.place_of-from.ensures.place 16384 (group_slots gs) c.requires.least c.requires.filled c.requires.rising))
    ∙ rows-drop_place 16384 s c.args.lo hi (group_slots gs) c.requires.filled c.requires.rising
