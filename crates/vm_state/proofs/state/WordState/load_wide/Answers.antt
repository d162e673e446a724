use Rattle.std.proofs.Common.{rules}
use Rattle.vm_state.specs.Access.{at_slot}
use Rattle.vm_state.proofs.Holding.{load_wide_holds}
use Rattle.vm_state.proofs.state.WordState.load_wide.Goals as goal

pub returns : goal.returns
returns c = record {
  plain = tt;
  further = search rules;
  held = λ tables s h.
      rw (c.set.ensures) (load_wide_holds tables s (at_slot c.args.at c.args.self.now) c.args.flat.now.dst c.args.flat.now.immediate h);
}
