use Rattle.byte_output.proofs.WritesLemmas.{takes_more}
use Rattle.byte_output.proofs.put.Goals as goal

pub loop-preserved : goal.loop-preserved
loop-preserved g c =
    takes_more (g.W.Write.contents c.args.output.now) (g.W.Write.contents c.loop.output) (g.W.Write.contents c.write_some.new.output) c.args.bytes.now c.loop.rest.now c.split_at.result.1.now c.in_ok-taken.taken
    c.loop.invariant c.in_ok-taken.ensures.appended c.split_at.ensures.back
