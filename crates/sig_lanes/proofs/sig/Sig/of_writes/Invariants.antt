use Rattle.std.proofs.Common.{◌≡◌, ℕ, ◌||◌, map, nat_eq}
use Rattle.std.specs.Slice.Iter.{iter_rest}
use Rattle.std.specs.List.{list_any}
use Rattle.std.specs.FinMap.{keys}
use Rattle.sig_lanes.specs.Signature.{bit_of}
use Rattle.sig_lanes.specs.Bits.{has_bit}
use Rattle.sig_lanes.proofs.sig.Sig.of_writes.Given as goal

abbrev pub invariant-loop-key : goal.invariant-loop-key
invariant-loop-key g l = (b : ℕ) → (has_bit l.sig b || list_any (λ k. nat_eq (bit_of k) b) (map (λ e. e.0) (iter_rest l.key-iterator))) ≡ list_any (λ k. nat_eq (bit_of k) b) (keys l.fn.writes)
