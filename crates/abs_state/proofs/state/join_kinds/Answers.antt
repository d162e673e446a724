use Rattle.std.proofs.Common.{sym, ◌∙◌, arith}
use Rattle.abs_state.specs.State.{kind_join}
use Rattle.abs_state.proofs.ListLemmas.{zip_step, zip_done}
use Rattle.abs_state.proofs.state.join_kinds.Goals as goal

pub loop-index-preserved : goal.loop-index-preserved
loop-index-preserved c = rw c.join.ensures (zip_step kind_join c.loop-index.all c.args.others.now c.loop-index.index _ _ (omega arith) (omega arith) c.index-all-index.is c.index-others-index.is ∙ c.loop-index.invariant)

pub returns : goal.returns
returns c = sym (zip_done kind_join c.loop-index.all _ c.loop-index.index (omega arith)) ∙ c.loop-index.invariant
