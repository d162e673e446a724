use Rattle.std.proofs.Common.{◌≡◌, ◌↔◌, List, ℕ, true, refl, sym, subst}
use Rattle.std.specs.Int.{bit_at}
use Rattle.sig_lanes.specs.Bits.{Meet, signature_at}
use Rattle.sig_lanes.proofs.LaneLemmas.{meet_from_place, meet_within, place_from_meet, zero_has_none}
use Rattle.sig_lanes.proofs.block.Block.meets.Goals as goal

pub returns-then-not-words_meet : goal.returns-then-not-words_meet
returns-then-not-words_meet c j lt = (
  λ e. absurd (zero_has_none 0 j refl e),
  λ m.
      let here = subst (λ (block : List (List ℕ)). Meet (signature_at block j) c.args.signature.now) (sym c.self.view_is) m in
      let here = subst (Meet (signature_at c.self.inside.words j)) (sym c.words.ensures.words) here in
      let met : c.words_meet.result ≡ true = c.words_meet.ensures.1 (meet_within _ _ _ (c.self.invariant j lt) here) in
      let not_met = c.if-not-words_meet.true in
      absurd cc,
)

pub returns : goal.returns
returns c j lt =
    let a = signature_at c.self.inside.words j in
    let b = c.args.signature.now in
    let lane = c.lanes_with_bits.ensures j lt in
    subst (λ (block : List (List ℕ)). (bit_at c.lanes_with_bits.result j ≡ 1) ↔ Meet (signature_at block j) b) c.self.view_is (
      λ e. (let k = lane.0 e in meet_from_place a b k.0 k.1 ((c.shared_bits.ensures j k.0 lt).0 k.2)),
      λ m. (let k = place_from_meet a b m in lane.1 (k.0, k.1, (c.shared_bits.ensures j k.0 lt).1 k.2)),
    )
