use Rattle.std.proofs.Common.{rules}
use Rattle.bpf_semantics.specs.Step.{after_jump}
use Rattle.vm_state.specs.Words.{HoldsNext}
use Rattle.vm_state.proofs.Holding.{long_jump_is}
use Rattle.vm_state.proofs.state.WordState.long_jump.Goals as goal

pub returns : goal.returns
returns c = λ tables s h.
    let next : HoldsNext (after_jump c.args.distance s) c.advance.new.self = search rules in
    long_jump_is tables s c.advance.new.self c.args.distance next
