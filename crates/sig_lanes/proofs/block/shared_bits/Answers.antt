use Rattle.std.proofs.Common.{◌∙◌, ℕ, sym, ap, arith, get_or}
use Rattle.std.specs.Prelude.{bit_and, bit_or}
use Rattle.sig_lanes.specs.Bits.{signature_at}
use Rattle.sig_lanes.proofs.LaneLemmas.{lane_at, share_more}
use Rattle.sig_lanes.proofs.block.shared_bits.Goals as goal

pub loop-word-preserved : goal.loop-word-preserved
loop-word-preserved c j k lt =
    let n = c.loop-word.word in
    let block = c.args.block.now in
    let source = c.words-source.result in
    let word = sym (lane_at block j n (omega arith)) in
    share_more (signature_at block j) source n k _ (get_or c.loop-word.shared j 0)
    (c.share_word-shared.ensures j lt ∙ ap (λ (w : ℕ). bit_or (get_or c.loop-word.shared j 0) (bit_and w (get_or source n 0))) word)
    (c.loop-word.invariant j k lt)
