use Rattle.std.proofs.Common.{rules, FitsSigned}
use Rattle.std.specs.Int.{w16}
use Rattle.std.proofs.lemmas.Int.{to_z-of_z}
use Rattle.vm_state.specs.Access.{at_slot}
use Rattle.vm_state.proofs.Storing.{can_store_register, store_register_holds}
use Rattle.vm_state.proofs.state.WordState.store_register.Goals as goal

pub put_number-requires : goal.put_number-requires
put_number-requires c =
    let fits : FitsSigned w16 c.args.flat.now.offset = search rules in
    rw (simp to_z-of_z at c.address-address.ensures)
    (can_store_register c.args.size c.args.flat.now.dst c.args.flat.now.src c.args.flat.now.offset (at_slot c.args.at c.args.self.now) fits c.requires.can)

pub returns : goal.returns
returns c = record {
  plain = tt;
  further = search rules;
  held = λ tables s h.
      let fits : FitsSigned w16 c.args.flat.now.offset = search rules in
      rw (c.requires.next, c.put_number.ensures, simp to_z-of_z at c.address-address.ensures, c.word-number.ensures)
      (store_register_holds tables s (at_slot c.args.at c.args.self.now) c.args.size c.args.flat.now.dst c.args.flat.now.src c.args.flat.now.offset fits h);
}
