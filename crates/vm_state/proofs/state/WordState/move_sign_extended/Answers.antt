use Rattle.std.proofs.Common.{rules}
use Rattle.vm_state.specs.Access.{at_slot}
use Rattle.vm_state.proofs.Holding.{move_holds}
use Rattle.vm_state.proofs.state.WordState.move_sign_extended.Goals as goal

pub returns : goal.returns
returns c = record {
  plain = tt;
  further = search rules;
  held = λ tables s h.
      rw (c.with_result.ensures.state, c.arithmetic-value.ensures, c.word.ensures, c.width.ensures, c.low_bits.ensures) (move_holds tables s (at_slot c.args.at c.args.self.now) c.args.kind c.args.flat.now.dst c.args.flat.now.src h);
}
