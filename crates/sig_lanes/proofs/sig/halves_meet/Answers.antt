use Rattle.std.proofs.Common.{◌<◌, ◌++◌, ℕ, ap, sym, ◌∙◌}
use Rattle.std.specs.Int.{bit_at}
use Rattle.sig_lanes.proofs.LaneLemmas.{meet_from_place, place_from_meet, nonzero_has_bit, bit_is_nonzero, lane_of_halves, place_in_halves}
use Rattle.sig_lanes.proofs.sig.halves_meet.Goals as goal

pub returns : goal.returns
returns c =
    let low = c.args.low in
    let high = c.args.high in
    let other_low = c.args.other_low in
    let other_high = c.args.other_high in
    let met = c.lanes_with_bits.ensures in
    let is = λ (j : ℕ) (lt : j < 8).
    lane_of_halves low high other_low other_high j c.fits-low.0 c.fits-high.0 c.fits-other_low.0 c.fits-other_high.0 lt in
    let place = λ (k : ℕ). place_in_halves low high other_low other_high k c.fits-low.0 c.fits-other_low.0 in (
      λ e.
          let j = nonzero_has_bit c.lanes_with_bits.result c.lanes_with_bits.type_inv e in
          let k = (met j.0 j.1).0 j.2 in
          let here = ap (λ (w : ℕ). bit_at w k.0) (sym (is j.0 j.1)) ∙ k.2 in
          meet_from_place (low ++ high) (other_low ++ other_high) k.0 k.1 ((place k.0).0 (j.0, j.1, here)),
      λ m.
          let k = place_from_meet (low ++ high) (other_low ++ other_high) m in
          let j = (place k.0).1 k.2 in
          let here = ap (λ (w : ℕ). bit_at w k.0) (is j.0 j.1) ∙ j.2 in
          bit_is_nonzero c.lanes_with_bits.result j.0 ((met j.0 j.1).1 (k.0, k.1, here)),
    )
