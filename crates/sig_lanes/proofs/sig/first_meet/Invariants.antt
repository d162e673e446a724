use Rattle.std.proofs.Common.{ℕ, ◌<◌, [], slice_index_or}
use Rattle.sig_lanes.specs.Bits.{Meet}
use Rattle.sig_lanes.proofs.sig.first_meet.Given as goal

abbrev pub invariant-loop-index : goal.invariant-loop-index
invariant-loop-index l = (j : ℕ) → j < l.index → Meet l.sig (slice_index_or l.all j []) → ⊥
