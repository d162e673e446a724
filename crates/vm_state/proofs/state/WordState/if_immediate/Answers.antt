use Rattle.std.proofs.Common.{rules, ◌≡◌, ◌<◌, ◌^◌, true, false, FitsSigned}
use Rattle.std.specs.Int.{w16, w64, cast_signed, cast_unsigned}
use Rattle.std.proofs.lemmas.Int.{to_z-of_z, of_z-to_z}
use Rattle.bpf_words.specs.Condition.{holds}
use Rattle.bpf_code.specs.declared.instruction.Source.TheVariants as source
use Rattle.bpf_code.specs.Sizes.{width_bits}
use Rattle.bpf_semantics.specs.Step.{after_jump}
use Rattle.vm_state.specs.Words.{HoldsNext, word}
use Rattle.vm_state.specs.Access.{at_slot}
use Rattle.vm_state.proofs.Holding.{taken_holds, not_taken_holds}
use Rattle.vm_state.proofs.state.WordState.if_immediate.Goals as goal

pub returns-then-holds : goal.returns-then-holds
returns-then-holds c = record {
  plain = tt;
  further = search rules;
  held = λ tables s h.
      let fits : FitsSigned w16 c.args.flat.now.offset = search rules in
      let fy : c.args.flat.now.immediate < 2 ^ 64 = search rules in
      let back : cast_unsigned w64 (cast_signed w64 c.args.flat.now.immediate) ≡ c.args.flat.now.immediate = of_z-to_z w64 c.args.flat.now.immediate fy in
      let e : holds (width_bits c.args.width) c.args.condition (word c.args.self.now c.args.flat.now.dst) c.args.flat.now.immediate ≡ true = search rules in
      let next : HoldsNext (after_jump c.args.flat.now.offset s) (at_slot c.target.result c.args.self.now) = simp to_z-of_z at c.target.ensures.follows s h in
      taken_holds tables s (at_slot c.args.at c.args.self.now) (at_slot c.target.result c.args.self.now) c.args.width c.args.condition c.args.flat.now.dst (source.Immediate (cast_signed w64 c.args.flat.now.immediate)) c.args.flat.now.offset h (rw back e) next;
}

pub returns-else-holds : goal.returns-else-holds
returns-else-holds c = record {
  plain = tt;
  further = search rules;
  held = λ tables s h.
      let fy : c.args.flat.now.immediate < 2 ^ 64 = search rules in
      let back : cast_unsigned w64 (cast_signed w64 c.args.flat.now.immediate) ≡ c.args.flat.now.immediate = of_z-to_z w64 c.args.flat.now.immediate fy in
      let e : holds (width_bits c.args.width) c.args.condition (word c.args.self.now c.args.flat.now.dst) c.args.flat.now.immediate ≡ false = search rules in
      rw c.requires.next (not_taken_holds tables s (at_slot c.args.at c.args.self.now) c.args.width c.args.condition c.args.flat.now.dst (source.Immediate (cast_signed w64 c.args.flat.now.immediate)) c.args.flat.now.offset h (rw back e));
}
