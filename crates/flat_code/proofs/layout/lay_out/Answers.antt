use Rattle.std.proofs.Common.{◌≡◌, ◌+◌, ℕ, [], ◌∷◌, ◌++◌, length, ◌∙◌, ap, arith, rules}
use Rattle.std.proofs.lemmas.List.{length_push}
use Rattle.flat_code.proofs.Laying.{laid_further, slot_within}
use Rattle.flat_code.proofs.layout.lay_out.Goals as goal

pub loop-slot-preserved : goal.loop-slot-preserved
loop-slot-preserved g c =
    let pushed : c.push.new.self.items ≡ c.loop-slot.flat.items ++ c.of.result ∷ [] = search rules in
    record {
      long = ap length pushed ∙ length_push c.loop-slot.flat.items c.of.result ∙ ap (λ (n : ℕ). n + 1) c.loop-slot.invariant.long;
      each = λ slot i below at. rw pushed
          (laid_further c.args.code.now c.loop-slot.flat.items c.of.result c.loop-slot.slot c.loop-slot.invariant.long c.loop-slot.invariant.each
          (λ j is. c.of.ensures ∙ rw (c.at.ensures.instruction ∙ is) at c.unwrap_or-instruction.ensures) slot i below at);
    }

pub returns : goal.returns
returns g c =
    let all : c.loop-slot.slot ≡ length c.args.code.now = omega (arith, c.slots-slot-end.ensures.count) in
    record {
      long = c.loop-slot.invariant.long ∙ all;
      each = λ slot i at. let inside = slot_within c.args.code.now slot i at in c.loop-slot.invariant.each slot i (omega (arith, inside, all)) at;
    }
