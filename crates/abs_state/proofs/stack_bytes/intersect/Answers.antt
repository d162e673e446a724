use Rattle.std.proofs.Common.{sym, ◌∙◌, arith, length, ◌<◌}
use Rattle.std.proofs.lemmas.List.{get_or_default}
use Rattle.std.specs.Prelude.{bit_and}
use Rattle.abs_state.proofs.ListLemmas.{zip_step, zip_done}
use Rattle.abs_state.proofs.stack_bytes.intersect.Goals as goal

pub loop-index-preserved : goal.loop-index-preserved
loop-index-preserved c =
    let below : c.loop-index.index < length c.loop-index.words = omega arith in
    let others : c.loop-index.index < length c.args.others.now = omega arith in
    zip_step bit_and c.loop-index.words c.args.others.now c.loop-index.index _ _ below (omega arith) (get_or_default _ _ _ _ below) (get_or_default _ _ _ _ others) ∙ c.loop-index.invariant

pub returns : goal.returns
returns c = sym (zip_done bit_and c.loop-index.words _ c.loop-index.index (omega arith)) ∙ c.loop-index.invariant
