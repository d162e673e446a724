use Rattle.std.proofs.Common.{rules}
use Rattle.vm_state.specs.Access.{at_slot}
use Rattle.vm_state.proofs.Holding.{end_holds}
use Rattle.vm_state.proofs.state.WordState.end.Goals as goal

pub returns : goal.returns
returns c = record {
  plain = tt;
  further = search rules;
  held = λ tables s h.
      rw (c.with_result.ensures.state, c.end-value.ensures, c.word.ensures) (end_holds tables s (at_slot c.args.at c.args.self.now) c.args.order c.args.width c.args.flat.now.dst h);
}
