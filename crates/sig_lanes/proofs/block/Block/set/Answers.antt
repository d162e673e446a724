use Rattle.std.proofs.Common.{inl, inr, List, ℕ, get_or, sym, ap, ◌∙◌}
use Rattle.sig_lanes.specs.Bits.{signature_at}
use Rattle.sig_lanes.proofs.BitLemmas.{decide, unlike}
use Rattle.sig_lanes.proofs.LaneLemmas.{or_bit, at_word}
use Rattle.sig_lanes.proofs.block.Block.set.Goals as goal

pub invariant_of-self-else-lane-eq7 : goal.invariant_of-self-else-lane-eq7
invariant_of-self-else-lane-eq7 c j few i k lt e =
    let put = c.put_signature in
    let word = λ (signature : List ℕ). get_or signature i 0 in
    at_word _ _ k (sym (c.add_words.ensures i lt)) ((or_bit (get_or c.self.inside.superset i 0) (word c.words.result) k).1 (elim (decide j c.args.lane) [
      | inl here ↦ inr (at_word _ _ k (ap word (ap (signature_at put.new.block) here ∙ put.ensures.set ∙ sym c.words.ensures.words)) e)
      | inr apart ↦ inl (c.self.invariant j few i k lt (at_word _ _ k (ap word (put.ensures.others j (unlike j c.args.lane apart))) e))
    ]))
