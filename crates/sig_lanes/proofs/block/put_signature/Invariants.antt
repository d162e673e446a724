use Rattle.std.proofs.Common.{◌≡◌, ◌≢◌, ◌<◌, ℕ, [], length, slice_index_or}
use Rattle.sig_lanes.proofs.block.put_signature.Given as goal

abbrev pub invariant-loop-index : goal.invariant-loop-index
invariant-loop-index l = record {
  sixteen : length l.block ≡ 16;
  set : (i : ℕ) → i < l.index → slice_index_or (slice_index_or l.block i []) l.lane 0 ≡ slice_index_or l.source i 0;
  others : (i other : ℕ) → other ≢ l.lane
      → slice_index_or (slice_index_or l.block i []) other 0 ≡ slice_index_or (slice_index_or l.initial.block i []) other 0;
}
