use Rattle.std.proofs.Common.{◌≡◌, ◌<◌, ◌↔◌, ℕ, slice_index_or}
use Rattle.std.specs.Int.{bit_at}
use Rattle.sig_lanes.specs.Bits.{signature_at, SharePlace}
use Rattle.sig_lanes.proofs.block.shared_bits.Given as goal

abbrev pub invariant-loop-word : goal.invariant-loop-word
invariant-loop-word l = (j k : ℕ) → j < 8
    → ((bit_at (slice_index_or l.shared j 0) k ≡ 1) ↔ SharePlace (signature_at l.block j) l.source l.word k)
