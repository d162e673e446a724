use Rattle.std.proofs.Common.{◌≡◌, ◌<◌, ℕ, [], length, slice_index_or}
use Rattle.std.specs.Int.{bit_at}
use Rattle.sig_lanes.proofs.block.bits_of_block.Given as goal

abbrev pub invariant-loop-index : goal.invariant-loop-index
invariant-loop-index l = record {
  sixteen : length l.bits ≡ 16;
  within : (i j k : ℕ) → i < l.index → j < 8 → bit_at (slice_index_or (slice_index_or l.block i []) j 0) k ≡ 1 → bit_at (slice_index_or l.bits i 0) k ≡ 1;
}
