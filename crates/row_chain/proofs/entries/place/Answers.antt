use Rattle.std.proofs.Common.{◌≤◌, ◌<◌, ◌+◌, ◌-◌, get_or, ap, arith}
use Rattle.row_chain.specs.Slots.{Slot}
use Rattle.row_chain.proofs.TableLemmas.{below-le-length, below_lt, below_ge}
use Rattle.row_chain.proofs.entries.place.Goals as goal

pub loop-low-preserved : goal.loop-low-preserved
loop-low-preserved g c =
    let e = c.index-entries-low.result in
    let m = c.loop-low.low + 8 - 1 in
    let small : (get_or c.args.entries.now m e).key < c.args.key = omega (arith, ap (λ (x : Slot). x.key) c.index-entries-low.is, c.key.ensures, c.if-key.true) in
    let lt = below_lt c.args.key c.args.entries.now m e c.requires (omega (arith, c.loop-low-test.true)) small in
    record { within = omega (arith, c.loop-low-test.true); low = omega (arith, lt) }

pub loop-low-2-preserved : goal.loop-low-2-preserved
loop-low-2-preserved g c =
    let e = c.index-entries-low-in-loop-low-2.result in
    let small : (get_or c.args.entries.now c.loop-low-2.low e).key < c.args.key = omega (arith, ap (λ (x : Slot). x.key) c.index-entries-low-in-loop-low-2.is, c.key-in-loop-low-2.ensures, c.if-key-2.true) in
    let lt = below_lt c.args.key c.args.entries.now c.loop-low-2.low e c.requires c.loop-low-2-test.true small in
    record { within = omega arith; low = omega (arith, lt) }

pub returns-else-key-2-clause-place : goal.returns-else-key-2-clause-place
returns-else-key-2-clause-place g c =
    let e = c.index-entries-low-in-loop-low-2.result in
    let large : c.args.key ≤ (get_or c.args.entries.now c.loop-low-2.low e).key = omega (arith, ap (λ (x : Slot). x.key) c.index-entries-low-in-loop-low-2.is, c.key-in-loop-low-2.ensures, c.if-key-2.false) in
    let ge = below_ge c.args.key c.args.entries.now c.loop-low-2.low e c.requires c.loop-low-2-test.true large in
    omega (arith, ge)

pub returns-after-loop-low-2-clause-place : goal.returns-after-loop-low-2-clause-place
returns-after-loop-low-2-clause-place g c = let most = below-le-length c.args.key c.args.entries.now in omega (arith, most)
