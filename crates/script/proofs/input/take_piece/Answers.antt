use Rattle.std.proofs.Common.{◌+◌, ◌≤◌, take, drop, length, length-take-le, subst, arith}
use Rattle.std.specs.Io.BufRead.{FillKeeps}
use Rattle.script.proofs.LineLemmas.{parted, parted_at, after_consume}
use Rattle.script.proofs.input.take_piece.Goals as goal

pub returns-then-count-len-clause-piece : goal.returns-then-count-len-clause-piece
returns-then-count-len-clause-piece g c = λ bytes known.
    let shown = c.in-Ok.shown.now in
    let count = c.before_lf-count.result.0 in
    let clauses = c.before_lf-count.ensures in
    let front = subst (λ o. Rattle.std.specs.Prelude.IfSome o (λ xs. Rattle.std.specs.Io.StartsWith xs c.in-Ok.shown.now)) known c.in-Ok.ensures.front in
    let long = length-take-le count shown clauses.bound in
    (take c.before_lf-count.result.0 c.in-Ok.shown.now, drop c.before_lf-count.result.0 bytes, parted bytes c.in-Ok.shown.now c.before_lf-count.result.0 front clauses.bound, clauses.front, omega (arith, long))

pub returns-then-is_ended-clause-piece : goal.returns-then-is_ended-clause-piece
returns-then-is_ended-clause-piece g c = λ bytes known.
    let clauses = c.before_lf-count.ensures in
    let front = subst (λ o. Rattle.std.specs.Prelude.IfSome o (λ xs. Rattle.std.specs.Io.StartsWith xs c.in-Ok.shown.now)) known c.in-Ok.ensures.front in
    let is_ended = c.if-is_ended.true in
    let rested = c.fill_buf.follows.lender-at-none in
    let kept = subst (FillKeeps (g.R.Read.remaining c.args.input.now) (g.R.Read.remaining rested) (g.R.BufRead.consumable_len rested)) c.in-Ok.is c.fill_buf.follows.holds-at-none in
    let within : c.before_lf-count.result.0 + 1 ≤ length c.in-Ok.shown.now = omega (arith, clauses.lf is_ended) in (
      take c.before_lf-count.result.0 c.in-Ok.shown.now,
      drop (c.before_lf-count.result.0 + 1) bytes,
      parted_at bytes c.in-Ok.shown.now c.before_lf-count.result.0 10 front (clauses.lf is_ended) (clauses.is is_ended),
      after_consume (g.R.Read.remaining c.args.input.now) _ _ _ bytes (c.before_lf-count.result.0 + 1) (length c.in-Ok.shown.now) known within kept.0 kept.1 c.consume.ensures.bytes,
      clauses.front,
      c.in_ok-extend_from_slice.ensures.items,
    )
