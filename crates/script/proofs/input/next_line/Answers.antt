use Rattle.std.proofs.Common.{subst, rules}
use Rattle.script.specs.Reading.{IsPiece}
use Rattle.script.proofs.LineLemmas.{goes_on, ends, ends_without, is_too_long}
use Rattle.script.proofs.input.next_line.Goals as goal

pub loop-preserved : goal.loop-preserved
loop-preserved g c = (
  c.take_piece.ensures.len,
  λ bytes known.
      let so_far = c.loop.invariant.1 bytes known in
      goes_on bytes _ _ _ _ so_far (subst (IsPiece so_far.0 (g.R.Read.remaining c.take_piece.new.input) c.loop.line.items c.take_piece.new.line.items) c.in-More.is (c.in_ok-take_piece.ensures.piece so_far.0 so_far.1)),
)

pub returns-in-Ended : goal.returns-in-Ended
returns-in-Ended g c = λ bytes known.
    let so_far = c.loop.invariant.1 bytes known in
    ends bytes _ _ _ _ so_far (subst (IsPiece so_far.0 (g.R.Read.remaining c.take_piece.new.input) c.loop.line.items c.take_piece.new.line.items) c.in-Ended.is (c.in_ok-take_piece.ensures.piece so_far.0 so_far.1)) (search rules)

pub returns-else-is_empty : goal.returns-else-is_empty
returns-else-is_empty g c = λ bytes known.
    let so_far = c.loop.invariant.1 bytes known in
    ends_without bytes _ _ _ _ so_far (subst (IsPiece so_far.0 (g.R.Read.remaining c.take_piece.new.input) c.loop.line.items c.take_piece.new.line.items) c.in-AtEnd.is (c.in_ok-take_piece.ensures.piece so_far.0 so_far.1)) (search rules) (search rules)

pub returns-in-TooLong : goal.returns-in-TooLong
returns-in-TooLong g c = λ bytes known.
    let so_far = c.loop.invariant.1 bytes known in
    is_too_long bytes c.loop.line.items c.take_piece.new.line.items _ (g.R.Read.remaining c.take_piece.new.input) so_far (subst (IsPiece so_far.0 (g.R.Read.remaining c.take_piece.new.input) c.loop.line.items c.take_piece.new.line.items) c.in-TooLong.is (c.in_ok-take_piece.ensures.piece so_far.0 so_far.1))
