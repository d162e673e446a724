use Rattle.std.proofs.Common.{inl, inr, ℕ, ◌<◌, [], length, get_or, slice_index_or, sym, ap, ◌∙◌, arith}
use Rattle.std.specs.Prelude.{slice_set}
use Rattle.std.proofs.lemmas.List.{get_or-set_same, get_or-set_other, length-set}
use Rattle.sig_lanes.proofs.BitLemmas.{last_or_before}
use Rattle.sig_lanes.proofs.LaneLemmas.{at_word, lane_at}
use Rattle.sig_lanes.proofs.block.bits_of_block.Goals as goal

pub loop-index-preserved : goal.loop-index-preserved
loop-index-preserved c =
    let bits = c.loop-index.bits in
    let n = c.loop-index.index in
    let new = c.bits_of_lanes.result in
    let so_far = c.loop-index.invariant in
    let within : n < length bits = omega (arith, so_far.sixteen, c.loop-index-test.true) in
    record {
      sixteen = length-set bits n new ∙ so_far.sixteen;
      within = λ i j k lt few e. elim (last_or_before i n lt) [
        | inl before ↦ at_word _ _ k (sym (get_or-set_other bits n i new 0 (λ same. absurd (omega (arith, before, same))))) (so_far.within i j k before few e)
        | inr here ↦ (
            let set = ap (λ (at : ℕ). slice_index_or (slice_set bits n new) at 0) here ∙ get_or-set_same bits n new 0 within in
            let lane = ap (λ (at : ℕ). get_or (get_or c.args.block.now at []) j 0) here in
            at_word _ _ k (sym set) (c.bits_of_lanes.ensures j k few (at_word _ _ k lane e)))
      ];
    }

pub returns : goal.returns
returns c j few i k lt e =
    c.loop-index.invariant.within i j k (omega (arith, lt, c.loop-index-test.false)) few
    (at_word _ _ k (lane_at c.args.block.now j i (omega (arith, lt, c.told-block))) e)
