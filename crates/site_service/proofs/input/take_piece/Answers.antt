use Rattle.std.proofs.Common.{◌+◌, ◌≤◌, [], take, drop, length, refl, subst, arith}
use Rattle.std.proofs.lemmas.List.{take_rest}
use Rattle.std.specs.Io.BufRead.{FillKeeps}
use Rattle.script.proofs.LineLemmas.{parted, parted_at, after_consume}
use Rattle.site_service.proofs.ReadingLemmas.{followed, none_before, nothing_kept, shown_kept, still_known}
use Rattle.site_service.proofs.input.take_piece.Goals as goal

pub returns-then-matches-clause-piece : goal.returns-then-matches-clause-piece
returns-then-matches-clause-piece g c = λ bytes known.
    let rested = c.fill_buf.follows.lender-at-none in
    let kept = subst (FillKeeps (g.R.Read.remaining c.args.input.now) (g.R.Read.remaining rested) (g.R.BufRead.consumable_len rested)) c.in-Err.is c.fill_buf.follows.holds-at-none in
    ([], bytes, refl, still_known _ _ bytes known kept.0, none_before, nothing_kept c.args.line.now.items (omega (arith, c.requires)))

pub returns-then-is_ended-clause-piece : goal.returns-then-is_ended-clause-piece
returns-then-is_ended-clause-piece g c = λ bytes known.
    let clauses = c.before_lf-count.ensures in
    let shown = c.in-Ok.shown.now in
    let count = c.before_lf-count.result.0 in
    let front = subst (λ o. Rattle.std.specs.Prelude.IfSome o (λ xs. Rattle.std.specs.Io.StartsWith xs shown)) known c.in-Ok.ensures.front in
    let is_ended = c.if-is_ended.true in
    let rested = c.fill_buf.follows.lender-at-none in
    let kept = subst (FillKeeps (g.R.Read.remaining c.args.input.now) (g.R.Read.remaining rested) (g.R.BufRead.consumable_len rested)) c.in-Ok.is c.fill_buf.follows.holds-at-none in
    let within : count + 1 ≤ length shown = omega (arith, clauses.lf is_ended) in (
      take count shown,
      drop (count + 1) bytes,
      parted_at bytes shown count 10 front (clauses.lf is_ended) (clauses.is is_ended),
      after_consume (g.R.Read.remaining c.args.input.now) _ _ _ bytes (count + 1) (length shown) known within kept.0 kept.1 c.consume.ensures.bytes,
      clauses.front,
      shown_kept c.args.line.now.items c.extend_from_slice.new.self.items shown count c.min-kept.result (omega (arith, c.requires)) (omega (arith, c.min-kept.ensures, c.len.ensures)) c.in_ok-extend_from_slice.ensures.items,
      λ is. followed bytes shown _ (count + 1) c.before_lf-is_followed.result.0 front within (take_rest shown (count + 1)) (c.before_lf-is_followed.ensures.lf is) (c.before_lf-is_followed.ensures.is is) c.before_lf-is_followed.ensures.front,
    )

pub returns-else-is_ended-clause-piece : goal.returns-else-is_ended-clause-piece
returns-else-is_ended-clause-piece g c = λ bytes known.
    let clauses = c.before_lf-count.ensures in
    let shown = c.in-Ok.shown.now in
    let count = c.before_lf-count.result.0 in
    let front = subst (λ o. Rattle.std.specs.Prelude.IfSome o (λ xs. Rattle.std.specs.Io.StartsWith xs shown)) known c.in-Ok.ensures.front in
    let rested = c.fill_buf.follows.lender-at-none in
    let kept = subst (FillKeeps (g.R.Read.remaining c.args.input.now) (g.R.Read.remaining rested) (g.R.BufRead.consumable_len rested)) c.in-Ok.is c.fill_buf.follows.holds-at-none in (
      take count shown,
      drop count bytes,
      parted bytes shown count front clauses.bound,
      after_consume (g.R.Read.remaining c.args.input.now) _ _ _ bytes count (length shown) known clauses.bound kept.0 kept.1 c.consume-else-is_ended.ensures.bytes,
      clauses.front,
      shown_kept c.args.line.now.items c.extend_from_slice.new.self.items shown count c.min-kept.result (omega (arith, c.requires)) (omega (arith, c.min-kept.ensures, c.len.ensures)) c.in_ok-extend_from_slice.ensures.items,
    )
