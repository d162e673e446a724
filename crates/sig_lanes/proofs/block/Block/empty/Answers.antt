use Rattle.std.proofs.Common.{[], List, ℕ, get_or, ap, ◌∙◌}
use Rattle.std.specs.Prelude.{replicate}
use Rattle.std.proofs.lemmas.Simd.{get_or-replicate}
use Rattle.sig_lanes.specs.Bits.{has_bit, signature_at}
use Rattle.sig_lanes.proofs.BitLemmas.{zeros, no_bit}
use Rattle.sig_lanes.proofs.LaneLemmas.{lane_at, zero_has_none}
use Rattle.sig_lanes.proofs.block.Block.empty.Goals as goal

pub invariant_of-result : goal.invariant_of-result
invariant_of-result c j few i k lt e =
    let lanes = replicate 8 0 in
    let vector = ap (λ (v : List ℕ). get_or v j 0) (get_or-replicate 16 i lanes [] lt) in
    absurd (zero_has_none _ k (lane_at (replicate 16 lanes) j i lt ∙ vector ∙ zeros 8 j) e)

pub returns : goal.returns
unfolding signature_at
returns c j bit = ap (λ (word : ℕ). has_bit (replicate 16 word) bit) (zeros 8 j) ∙ no_bit bit
