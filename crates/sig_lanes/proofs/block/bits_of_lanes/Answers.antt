use Rattle.std.proofs.Common.{inl, inr, ℕ, ap, get_or}
use Rattle.sig_lanes.proofs.BitLemmas.{last_or_before}
use Rattle.sig_lanes.proofs.LaneLemmas.{or_bit, at_word}
use Rattle.sig_lanes.proofs.block.bits_of_lanes.Goals as goal

pub loop-lane-preserved : goal.loop-lane-preserved
loop-lane-preserved c j k lt e =
    let lanes = c.args.lanes.now in
    (or_bit c.loop-lane.bits (get_or lanes c.loop-lane.lane 0) k).1 (elim (last_or_before j c.loop-lane.lane lt) [
      | inl before ↦ inl (c.loop-lane.invariant j k before e)
      | inr here ↦ inr (at_word _ _ k (ap (λ (i : ℕ). get_or lanes i 0) here) e)
    ])
