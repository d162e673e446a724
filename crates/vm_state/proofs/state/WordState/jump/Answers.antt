use Rattle.std.proofs.Common.{rules, FitsSigned}
use Rattle.std.specs.Int.{w16}
use Rattle.std.proofs.lemmas.Int.{to_z-of_z}
use Rattle.vm_state.specs.Access.{at_slot}
use Rattle.vm_state.proofs.Holding.{jump_is}
use Rattle.vm_state.proofs.state.WordState.jump.Goals as goal

pub returns : goal.returns
returns c = record {
  plain = tt;
  further = search rules;
  held = λ tables s h.
      let fits : FitsSigned w16 c.args.flat.now.offset = search rules in
      jump_is tables s (at_slot c.target.result c.args.self.now) c.args.flat.now.offset (simp to_z-of_z at c.target.ensures.follows s h);
}
