use Rattle.std.proofs.Common.{◌≡◌, ◌<◌, ℕ, slice_index_or}
use Rattle.std.specs.Int.{bit_at}
use Rattle.sig_lanes.proofs.block.bits_of_lanes.Given as goal

abbrev pub invariant-loop-lane : goal.invariant-loop-lane
invariant-loop-lane l = (j k : ℕ) → j < l.lane → bit_at (slice_index_or l.lanes j 0) k ≡ 1 → bit_at l.bits k ≡ 1
