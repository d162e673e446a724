use Rattle.std.proofs.Common.{◌≡◌, take}
use Rattle.byte_output.specs.Pending.{output_of, Passes}
use Rattle.bpf_list.specs.Listing.{lines}
use Rattle.bpf_list.proofs.put_listing.Given as goal

abbrev pub invariant-loop-slot : goal.invariant-loop-slot
invariant-loop-slot g l = ((output_of l.output).ghost_name ≡ (output_of l.initial.output).ghost_name) × Passes g.W.Write.contents l.initial.output l.output (lines 0 (take l.slot l.code))
