use Rattle.std.proofs.Common.{◌≡◌, ◌<◌, ◌≤◌, ℕ, slice_index_or}
use Rattle.std.specs.Prelude.{bit_or}
use Rattle.sig_lanes.proofs.block.add_words.Given as goal

abbrev pub invariant-loop-index : goal.invariant-loop-index
invariant-loop-index l = record {
  added : (i : ℕ) → i < l.index → slice_index_or l.words i 0 ≡ bit_or (slice_index_or l.initial.words i 0) (slice_index_or l.more i 0);
  others : (i : ℕ) → l.index ≤ i → slice_index_or l.words i 0 ≡ slice_index_or l.initial.words i 0;
}
