use Rattle.std.proofs.Common.{rules, ◌<◌, ◌^◌}
use Rattle.vm_state.specs.Words.{word}
use Rattle.vm_state.specs.Access.{at_slot}
use Rattle.vm_state.proofs.Widened.{alu_immediate_holds}
use Rattle.vm_state.proofs.state.WordState.alu_immediate.Goals as goal

pub returns : goal.returns
returns c = record {
  plain = tt;
  further = search rules;
  held = λ tables s h.
      let fx : word c.args.self.now c.args.flat.now.dst < 2 ^ 64 = search rules in
      let fy : c.args.flat.now.immediate < 2 ^ 64 = search rules in
      rw (c.with_result.ensures.state, c.arithmetic-value.ensures, c.word.ensures) (alu_immediate_holds tables s (at_slot c.args.at c.args.self.now) c.args.width c.args.operation c.args.flat.now.dst c.args.flat.now.immediate fx fy h);
}
