use Rattle.std.proofs.Common.{subst, rules}
use Rattle.site_service.specs.InputLines.{IsPiece}
use Rattle.site_service.proofs.ReadingLemmas.{goes_on, ends, ends_long, ends_nowhere}
use Rattle.site_service.proofs.input.next_line.Goals as goal

pub returns-in-Ended : goal.returns-in-Ended
returns-in-Ended g c = λ bytes known.
    let so_far = c.loop.invariant.1 bytes known in
    ends_long bytes _ _ _ _ so_far _ (subst (IsPiece so_far.rest (g.R.Read.remaining c.take_piece.new.input) c.loop.line.items c.take_piece.new.line.items) c.in-Ended.is (c.in_ok-take_piece.ensures.piece so_far.rest so_far.known)) (search rules)

pub returns-in-Ended-2 : goal.returns-in-Ended-2
returns-in-Ended-2 g c = λ bytes known.
    let so_far = c.loop.invariant.1 bytes known in
    ends bytes _ _ _ _ so_far _ (subst (IsPiece so_far.rest (g.R.Read.remaining c.take_piece.new.input) c.loop.line.items c.take_piece.new.line.items) c.in-Ended.is (c.in_ok-take_piece.ensures.piece so_far.rest so_far.known)) (search rules)

pub returns-in-AtEnd : goal.returns-in-AtEnd
returns-in-AtEnd g c = λ bytes known.
    let so_far = c.loop.invariant.1 bytes known in
    ends_nowhere bytes c.loop.line.items c.take_piece.new.line.items _ (g.R.Read.remaining c.take_piece.new.input) so_far (subst (IsPiece so_far.rest (g.R.Read.remaining c.take_piece.new.input) c.loop.line.items c.take_piece.new.line.items) c.in-AtEnd.is (c.in_ok-take_piece.ensures.piece so_far.rest so_far.known))

pub loop-preserved : goal.loop-preserved
loop-preserved g c = (
  c.take_piece.ensures.len,
  λ bytes known.
      let so_far = c.loop.invariant.1 bytes known in
      goes_on bytes _ _ _ _ so_far (subst (IsPiece so_far.rest (g.R.Read.remaining c.take_piece.new.input) c.loop.line.items c.take_piece.new.line.items) c.in-More.is (c.in_ok-take_piece.ensures.piece so_far.rest so_far.known)),
)
