use Rattle.std.proofs.Common.{◌≤◌, ◌<◌, ◌+◌, ◌∙◌, ℕ, true, List, drop, sym, ap, arith}
use Rattle.std.specs.Prelude.{Option, Some, slice_get}
use Rattle.row_chain.specs.Slots.{with_row, rows_between}
use Rattle.row_chain.proofs.TableLemmas.{rows_more, rows_past}
use Rattle.row_chain.proofs.entries.first.Goals as goal

pub returns-then-key-hi : goal.returns-then-key-hi
returns-then-key-hi g c =
    let gt : c.args.hi < c.entry-item.result.key = omega (arith, c.key.ensures, c.if-key-hi.true) in
    sym (ap (λ (l : List (ℕ × List ℕ)). slice_get l 0) (sym c.loop-entry.invariant ∙ rows_past c.args.position c.args.lo c.args.hi c.args.entries.now c.loop-entry.entry-index c.entry-item.result c.requires.rising (omega arith) c.entry-item.is gt))

pub returns-in-Some : goal.returns-in-Some
returns-in-Some g c =
    let e = c.entry-item.result in
    let le : e.key ≤ c.args.hi = omega (arith, c.key.ensures, c.if-key-hi.false) in
    let rest = rows_between c.args.position c.args.lo c.args.hi (drop (c.loop-entry.entry-index + 1) c.args.entries.now) in
    ap (λ (k : ℕ). Some (k, c.in-Some.row.now)) c.key-in-Some.ensures
    ∙ sym (ap (λ (l : List (ℕ × List ℕ)). slice_get l 0) (sym c.loop-entry.invariant
    ∙ rows_more c.args.position c.args.lo c.args.hi c.args.entries.now c.loop-entry.entry-index e c.requires.from (omega arith) c.entry-item.is le
    ∙ ap (λ (o : Option (List ℕ)). with_row true e.key o rest) (sym c.in-Some.ensures)))
