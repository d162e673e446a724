use Rattle.std.proofs.Common.{◌≡◌, drop}
use Rattle.bpf_bytes.specs.Decoding.{jump_faults}
use Rattle.bpf_bytes.proofs.jumps.check_jumps.Given as goal

abbrev pub invariant-loop-slot : goal.invariant-loop-slot
invariant-loop-slot l = jump_faults l.slots l.slot (drop l.slot l.slots) ≡ jump_faults l.slots 0 l.slots
