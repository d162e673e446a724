use Rattle.std.proofs.Common.{◌≡◌, ◌≤◌, ◌<◌, ◌+◌, ◌∙◌, ℕ, List, length, drop, get_or, subst, sym, ap, arith}
use Rattle.std.proofs.lemmas.List.{length-append}
use Rattle.key_table.specs.Table.{Slot, rows_between}
use Rattle.key_table.specs.Pages.{all_slots, AreFilled}
use Rattle.key_table.proofs.PlaceLemmas.{filled_page, rows_page, rows_end, rows-le}
use Rattle.key_table.specs.Groups.{group_slots}
use Rattle.key_table.proofs.PartLemmas.{within, part, begins_past}
use Rattle.key_table.proofs.groups.count.Goals as goal

few : (s lo hi : ℕ) (gs : List (List (List Slot))) (i n : ℕ) (p : List Slot) → AreFilled 16384 (group_slots gs) → i < length gs → p ≡ get_or (group_slots gs) i p → n ≡ length (rows_between s lo hi p) → n ≤ 16384
few s lo hi gs i n p filled lt read is =
    let most : length p ≤ 16384 = subst (λ (l : List Slot). length l ≤ 16384) (sym read) (filled_page 16384 (group_slots gs) i p filled (within gs i lt)).1 in
    let le : length (rows_between s lo hi p) ≤ length p = rows-le s lo hi p in
    omega arith

pub returns-then-least-hi : goal.returns-then-least-hi
returns-then-least-hi g c =
    let gs = c.args.groups.now in let i = c.loop-group.group-index in let p = all_slots c.group-item.result in
    let read = part gs i c.group-item.result c.group-item.is in
    let by = begins_past c.args.hi c.least.result gs i p c.requires.filled (omega arith) read c.least.ensures c.if-least-hi.true in
    let none = ap (λ (l : List (ℕ × List ℕ)). length l) (rows_end 16384 c.args.position c.args.lo c.args.hi (group_slots gs) i p c.requires.filled c.requires.rising (within gs i (omega arith)) read by) in
    omega (arith, none, c.loop-group.invariant.left)

pub overflow_add-found : goal.overflow_add-found
overflow_add-found g c =
    let gs = c.args.groups.now in let i = c.loop-group.group-index in let p = all_slots c.group-item.result in
    let n = few c.args.position c.args.lo c.args.hi gs i c.count-found.result p c.requires.filled (omega arith) (part gs i c.group-item.result c.group-item.is) c.count-found.ensures in
    omega (arith, n, c.loop-group.invariant.few, c.requires.few)

pub loop-group-preserved : goal.loop-group-preserved
loop-group-preserved g c =
    let gs = c.args.groups.now in let i = c.loop-group.group-index in let p = all_slots c.group-item.result in
    let read = part gs i c.group-item.result c.group-item.is in
    let n = few c.args.position c.args.lo c.args.hi gs i c.count-found.result p c.requires.filled (omega arith) read c.count-found.ensures in
    let rest = rows_between c.args.position c.args.lo c.args.hi (all_slots (drop (i + 1) (group_slots gs))) in
    let here = rows_between c.args.position c.args.lo c.args.hi p in
    let more : length (rows_between c.args.position c.args.lo c.args.hi (all_slots (drop i (group_slots gs)))) ≡ length here + length rest =
    ap (λ (l : List (ℕ × List ℕ)). length l) (rows_page c.args.position c.args.lo c.args.hi (group_slots gs) i p (within gs i (omega arith)) read) ∙ length-append here rest in
    record { few = omega (arith, n, c.loop-group.invariant.few); left = omega (arith, more, c.count-found.ensures, c.loop-group.invariant.left) }
