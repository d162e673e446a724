use Rattle.std.proofs.Common.{◌+◌, ◌∙◌, ℕ, List, drop, sym, ap, arith}
use Rattle.std.specs.Prelude.{slice_get}
use Rattle.key_table.specs.Table.{rows_between}
use Rattle.key_table.specs.Pages.{all_slots}
use Rattle.key_table.proofs.PlaceLemmas.{rows_page, rows_end, first_here, first_later}
use Rattle.key_table.specs.Groups.{group_slots}
use Rattle.key_table.proofs.PartLemmas.{within, part, begins_past}
use Rattle.key_table.proofs.groups.first.Goals as goal

abbrev Row : Type 0
Row = ℕ × List ℕ

pub returns-then-least-hi : goal.returns-then-least-hi
returns-then-least-hi g c =
    let gs = c.args.groups.now in let i = c.loop-group.group-index in let p = all_slots c.group-item.result in
    let read = part gs i c.group-item.result c.group-item.is in
    let by = begins_past c.args.hi c.least.result gs i p c.requires.filled (omega arith) read c.least.ensures c.if-least-hi.true in
    sym (ap (λ (l : List Row). slice_get l 0) (sym c.loop-group.invariant ∙ rows_end 16384 c.args.position c.args.lo c.args.hi (group_slots gs) i p c.requires.filled c.requires.rising (within gs i (omega arith)) read by))

pub returns-in-Some : goal.returns-in-Some
returns-in-Some g c =
    let gs = c.args.groups.now in let i = c.loop-group.group-index in let p = all_slots c.group-item.result in
    first_here (rows_between c.args.position c.args.lo c.args.hi p) (rows_between c.args.position c.args.lo c.args.hi (all_slots (drop (i + 1) (group_slots gs))))
    (rows_between c.args.position c.args.lo c.args.hi (all_slots (drop i (group_slots gs)))) (rows_between c.args.position c.args.lo c.args.hi (all_slots (group_slots gs)))
    (c.in-Some.row.0, c.in-Some.row.1.now) c.in-Some.ensures
    (rows_page c.args.position c.args.lo c.args.hi (group_slots gs) i p (within gs i (omega arith)) (part gs i c.group-item.result c.group-item.is)) c.loop-group.invariant

pub loop-group-preserved : goal.loop-group-preserved
loop-group-preserved g c =
    let gs = c.args.groups.now in let i = c.loop-group.group-index in let p = all_slots c.group-item.result in
    first_later (rows_between c.args.position c.args.lo c.args.hi p) (rows_between c.args.position c.args.lo c.args.hi (all_slots (drop (i + 1) (group_slots gs))))
    (rows_between c.args.position c.args.lo c.args.hi (all_slots (drop i (group_slots gs)))) (rows_between c.args.position c.args.lo c.args.hi (all_slots (group_slots gs)))
    c.in_default.ensures
    (rows_page c.args.position c.args.lo c.args.hi (group_slots gs) i p (within gs i (omega arith)) (part gs i c.group-item.result c.group-item.is)) c.loop-group.invariant
