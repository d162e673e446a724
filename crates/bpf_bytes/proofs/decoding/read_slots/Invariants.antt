use Rattle.std.proofs.Common.{◌≤◌, vec_capacity}
use Rattle.bpf_code.specs.Program.{AllInRange}
use Rattle.bpf_bytes.proofs.DecodeLemmas.{IsReadTo}
use Rattle.bpf_bytes.proofs.decoding.read_slots.Given as goal

abbrev pub invariant-loop-slot : goal.invariant-loop-slot
invariant-loop-slot g l = IsReadTo l.bytes l.slots.items l.half l.slot × (l.count ≤ vec_capacity l.slots) × AllInRange l.slots.items
