use Rattle.std.proofs.Common.{◌≡◌, ◌≤◌, ◌<◌, ◌+◌, ◌∙◌, ℕ, Bool, cond, List, length, drop, sym, ap, arith}
use Rattle.std.specs.Prelude.{is_some}
use Rattle.row_chain.specs.Version.{row_up_to}
use Rattle.row_chain.specs.Slots.{rows_between}
use Rattle.row_chain.proofs.TableLemmas.{rows_more, rows_past, length-with_row}
use Rattle.row_chain.proofs.entries.count.Goals as goal
use Rattle.row_chain.proofs.entries.count.Goals.{then-shows, else-shows}

pub returns-then-key-hi : goal.returns-then-key-hi
returns-then-key-hi g c =
    let gt : c.args.hi < c.entry-item.result.key = omega (arith, c.key.ensures, c.if-key-hi.true) in
    let none = ap (λ (l : List (ℕ × List ℕ)). length l) (rows_past c.args.position c.args.lo c.args.hi c.args.entries.now c.loop-entry.entry-index c.entry-item.result c.requires.rising (omega arith) c.entry-item.is gt) in
    omega (arith, none, c.loop-entry.invariant.left)

pub loop-entry-preserved : goal.loop-entry-preserved
loop-entry-preserved g c =
    let e = c.entry-item.result in
    let le : e.key ≤ c.args.hi = omega (arith, c.key.ensures, c.if-key-hi.false) in
    let rest = rows_between c.args.position c.args.lo c.args.hi (drop (c.loop-entry.entry-index + 1) c.args.entries.now) in
    let more : length (rows_between c.args.position c.args.lo c.args.hi (drop c.loop-entry.entry-index c.args.entries.now)) ≡ cond (is_some (row_up_to c.args.position e.chain.versions)) (length rest + 1) (length rest) =
    ap (λ (l : List (ℕ × List ℕ)). length l) (rows_more c.args.position c.args.lo c.args.hi c.args.entries.now c.loop-entry.entry-index e c.requires.from (omega arith) c.entry-item.is le)
    ∙ length-with_row e.key (row_up_to c.args.position e.chain.versions) rest in
    elim c.if-shows.branch [
      | then-shows w ↦
          let one : cond (is_some (row_up_to c.args.position e.chain.versions)) (length rest + 1) (length rest) ≡ length rest + 1 = ap (λ (b : Bool). cond b (length rest + 1) (length rest)) (sym c.shows.ensures ∙ w.if-shows.true) in
          record { few = omega arith; left = omega (arith, more, one, c.loop-entry.invariant.left) }
      | else-shows w ↦
          let one : cond (is_some (row_up_to c.args.position e.chain.versions)) (length rest + 1) (length rest) ≡ length rest = ap (λ (b : Bool). cond b (length rest + 1) (length rest)) (sym c.shows.ensures ∙ w.if-shows.false) in
          record { few = omega arith; left = omega (arith, more, one, c.loop-entry.invariant.left) }
    ]
