use Rattle.std.proofs.Common.{◌≡◌, ◌∙◌, ℕ, sym, ap, arith, get_or}
use Rattle.std.specs.Prelude.{bit_and, bit_or}
use Rattle.std.specs.Int.Bits.{and_zero_r, or_zero_r}
use Rattle.sig_lanes.proofs.block.share_word.Goals as goal

pub returns-then-word-eq0 : goal.returns-then-word-eq0
returns-then-word-eq0 c j lt =
    let none : c.args.word ≡ 0 = let e = c.if-word-eq0.true in omega arith in
    let so_far = get_or c.args.so_far j 0 in
    let lane = get_or c.args.lanes.now j 0 in
    sym (ap (λ (w : ℕ). bit_or so_far (bit_and lane w)) none ∙ ap (bit_or so_far) (and_zero_r lane) ∙ or_zero_r so_far)
