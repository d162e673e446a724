use Rattle.std.proofs.Common.{rules}
use Rattle.vm_state.specs.Access.{at_slot}
use Rattle.vm_state.proofs.Holding.{negate_holds}
use Rattle.vm_state.proofs.state.WordState.negate.Goals as goal

pub returns : goal.returns
returns c = record {
  plain = tt;
  further = search rules;
  held = λ tables s h.
      rw (c.with_result.ensures.state, c.arithmetic-value.ensures, c.word.ensures) (negate_holds tables s (at_slot c.args.at c.args.self.now) c.args.width c.args.flat.now.dst h);
}
