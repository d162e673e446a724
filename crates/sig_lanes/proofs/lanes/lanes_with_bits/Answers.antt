use Rattle.std.proofs.Common.{sym, subst, ap, ◌∙◌, arith, ℕ, ◌<◌, ◌^◌, w64}
use Rattle.std.specs.Int.{bit_at}
use Rattle.std.proofs.lemmas.Simd.{below_from_Fits, Each1-get_or}
use Rattle.sig_lanes.proofs.LaneLemmas.{mask_is, mask_fits, mask_bit}
use Rattle.sig_lanes.proofs.lanes.lanes_with_bits.Goals as goal

pub overflow_cast-result : goal.overflow_cast-result
overflow_cast-result c =
    let xs = c.args.lanes in
    let long = c.fits-lanes.0 in
    record { fits = subst (λ (n : ℕ). n < 256) (sym (mask_is xs long)) (mask_fits xs long) }

pub returns : goal.returns
returns c j lt =
    let xs = c.args.lanes in
    let long = c.fits-lanes.0 in
    let fits = Each1-get_or (λ (x : ℕ). x < 2 ^ 64) xs j 0 (omega arith) (below_from_Fits w64 xs c.fits-lanes.1) in
    let r = mask_bit xs j (omega arith) fits in
    let is = ap (λ (n : ℕ). bit_at n j) (mask_is xs long) in
    (λ e. r.0 (sym is ∙ e), λ p. is ∙ r.1 p)
