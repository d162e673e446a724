use Rattle.std.proofs.Common.{◌∙◌, arith}
use Rattle.sig_lanes.proofs.LaneLemmas.{lane_is, same_lane}
use Rattle.sig_lanes.proofs.block.put_signature.Goals as goal

pub returns-clause-set : goal.returns-clause-set
returns-clause-set c =
    let end = c.loop-index-test.false in
    let kept = c.loop-index.invariant in
    let source = c.words-source in
    lane_is c.loop-index.block source.result c.args.lane kept.sixteen source.ensures.sixteen (λ i lt. kept.set i (omega arith))
    ∙ source.ensures.words

pub returns-clause-others : goal.returns-clause-others
returns-clause-others c other apart =
    let kept = c.loop-index.invariant in
    same_lane c.loop-index.block c.args.block.now other kept.sixteen c.told-block (λ i. kept.others i other apart)
