use Rattle.std.proofs.Common.{◌+◌, ◌∙◌, ap, sym, ◌||◌, Bool, ℕ, nat_eq}
use Rattle.std.specs.List.{list_any, range_with_len}
use Rattle.sig_lanes.specs.Signature.{bit_of}
use Rattle.sig_lanes.specs.Bits.{has_bit}
use Rattle.sig_lanes.proofs.BitLemmas.{or_false, or_assoc, any_last}
use Rattle.sig_lanes.proofs.sig.Sig.add_look.Goals as goal

pub loop-step-init : goal.loop-step-init
loop-step-init c b = sym (or_false _)

pub loop-step-preserved : goal.loop-step-preserved
loop-step-preserved c b =
    let p = λ (key : ℕ). nat_eq (bit_of (c.args.look.table, key)) b in
    c.add_bit.ensures b
    ∙ ap (λ (n : ℕ). has_bit c.loop-step.self b || nat_eq n b) c.bit_of.ensures.value
    ∙ ap (λ (x : Bool). x || p (c.args.look.lo + c.loop-step.step)) (c.loop-step.invariant b)
    ∙ or_assoc (has_bit c.args.self.now b) (list_any p (range_with_len c.args.look.lo c.loop-step.step)) (p (c.args.look.lo + c.loop-step.step))
    ∙ ap (λ (x : Bool). has_bit c.args.self.now b || x) (sym (any_last p c.args.look.lo c.loop-step.step))
