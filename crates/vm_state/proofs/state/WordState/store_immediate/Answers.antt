use Rattle.std.proofs.Common.{rules, ◌≡◌, ◌<◌, ◌^◌, FitsSigned}
use Rattle.std.specs.Int.{w16, w64, cast_signed, cast_unsigned}
use Rattle.std.proofs.lemmas.Int.{to_z-of_z, of_z-to_z}
use Rattle.vm_state.specs.Access.{at_slot}
use Rattle.vm_state.proofs.Storing.{can_store_immediate, store_immediate_holds}
use Rattle.vm_state.proofs.state.WordState.store_immediate.Goals as goal

pub put_number-requires : goal.put_number-requires
put_number-requires c =
    let fits : FitsSigned w16 c.args.flat.now.offset = search rules in
    rw (simp to_z-of_z at c.address.ensures)
    (can_store_immediate c.args.size c.args.flat.now.dst c.args.flat.now.offset (cast_signed w64 c.args.flat.now.immediate) (at_slot c.args.at c.args.self.now) fits c.requires.can)

pub returns : goal.returns
returns c = record {
  plain = tt;
  further = search rules;
  held = λ tables s h.
      let fits : FitsSigned w16 c.args.flat.now.offset = search rules in
      let fy : c.args.flat.now.immediate < 2 ^ 64 = search rules in
      let back : cast_unsigned w64 (cast_signed w64 c.args.flat.now.immediate) ≡ c.args.flat.now.immediate = of_z-to_z w64 c.args.flat.now.immediate fy in
      rw (c.requires.next, c.put_number.ensures, simp to_z-of_z at c.address.ensures)
      (rw back at (store_immediate_holds tables s (at_slot c.args.at c.args.self.now) c.args.size c.args.flat.now.dst c.args.flat.now.offset (cast_signed w64 c.args.flat.now.immediate) fits h));
}
