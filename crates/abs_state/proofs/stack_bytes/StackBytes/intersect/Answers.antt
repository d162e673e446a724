use Rattle.std.proofs.Common.{◌∙◌, ◌≡◌, ap, sym, arith, length}
use Rattle.std.specs.Prelude.{bit_and}
use Rattle.abs_state.proofs.BitLemmas.{and_below, bits_in_both, length-zip_with}
use Rattle.abs_state.specs.Bits.{bits_of}
use Rattle.abs_state.specs.State.{in_both, zip_with}
use Rattle.abs_state.proofs.stack_bytes.StackBytes.intersect.Goals as goal

pub invariant_of-self : goal.invariant_of-self
invariant_of-self c =
    let long : length (zip_with bit_and c.self.inside.words c.other.inside.words) ≡ 8 = length-zip_with bit_and c.self.inside.words c.other.inside.words (c.self.invariant.0 ∙ sym c.other.invariant.0) ∙ c.self.invariant.0 in
    (ap length c.intersect.ensures ∙ long, λ k. rw (sym c.intersect.ensures) at (and_below 18446744073709551616 c.self.inside.words c.other.inside.words (omega arith) c.self.invariant.1 k))

pub returns : goal.returns
returns c = ap bits_of c.intersect.ensures ∙ bits_in_both c.self.inside.words c.other.inside.words c.self.invariant.0 c.other.invariant.0 ∙ ap (λ l. zip_with in_both l (bits_of c.other.inside.words)) c.self.view_is ∙ ap (zip_with in_both c.args.self.now) c.other.view_is
