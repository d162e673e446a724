use Rattle.std.proofs.Common.{◌≡◌, ℕ, ◌<◌, ◌||◌, drop}
use Rattle.std.specs.List.{list_any}
use Rattle.sig_lanes.specs.Signature.{look_sets_bit}
use Rattle.sig_lanes.specs.Bits.{has_bit}
use Rattle.sig_lanes.proofs.sig.Sig.of_reads.Given as goal

abbrev pub invariant-loop-index : goal.invariant-loop-index
invariant-loop-index g l = (b : ℕ) → b < 1024 → (has_bit l.sig b || list_any (look_sets_bit b) (drop l.index l.looks)) ≡ list_any (look_sets_bit b) l.fn.reads
