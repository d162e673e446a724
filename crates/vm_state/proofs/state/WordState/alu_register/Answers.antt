use Rattle.std.proofs.Common.{rules, ◌<◌, ◌^◌}
use Rattle.bpf_code.specs.declared.instruction.Source.TheVariants as source
use Rattle.vm_state.specs.Words.{word}
use Rattle.vm_state.specs.Access.{at_slot}
use Rattle.vm_state.proofs.Holding.{arithmetic_holds}
use Rattle.vm_state.proofs.state.WordState.alu_register.Goals as goal

pub returns : goal.returns
returns c = record {
  plain = tt;
  further = search rules;
  held = λ tables s h.
      let fx : word c.args.self.now c.args.flat.now.dst < 2 ^ 64 = search rules in
      let fy : word c.args.self.now c.args.flat.now.src < 2 ^ 64 = search rules in
      rw (c.with_result.ensures.state, c.arithmetic-value.ensures, c.word.ensures, c.word-2.ensures) (arithmetic_holds tables s (at_slot c.args.at c.args.self.now) c.args.width c.args.operation c.args.flat.now.dst (source.Register c.args.flat.now.src) fx fy h);
}
