use Rattle.std.proofs.Common.{◌≡◌, ℕ, ◌||◌, nat_eq}
use Rattle.std.specs.List.{list_any, range_with_len}
use Rattle.sig_lanes.specs.Signature.{bit_of}
use Rattle.sig_lanes.specs.Bits.{has_bit}
use Rattle.sig_lanes.proofs.sig.Sig.add_look.Given as goal

abbrev pub invariant-loop-step : goal.invariant-loop-step
invariant-loop-step l = (b : ℕ) → has_bit l.self b ≡ (has_bit l.initial.self b || list_any (λ key. nat_eq (bit_of (l.look.table, key)) b) (range_with_len l.look.lo l.step))
