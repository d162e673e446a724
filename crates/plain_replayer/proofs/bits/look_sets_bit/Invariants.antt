use Rattle.std.proofs.Common.{◌≡◌, nat_eq}
use Rattle.sig_lanes.specs.Signature.{bit_of}
use Rattle.plain_replayer.proofs.BitLemmas.{any_key}
use Rattle.plain_replayer.proofs.bits.look_sets_bit.Given as goal

-- so far no key has the bit
abbrev pub invariant-loop-key : goal.invariant-loop-key
invariant-loop-key l = any_key (λ key. nat_eq (bit_of (l.look.table, key)) l.bit) l.look.lo l.look.hi ≡ any_key (λ key. nat_eq (bit_of (l.look.table, key)) l.bit) l.key l.look.hi
