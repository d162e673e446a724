use Rattle.std.proofs.Common.{◌≡◌, ◌≤◌, ◌-◌, length, take}
use Rattle.hex.specs.Hex.{encode_lower}
use Rattle.byte_output.specs.Pending.{output_of, Passes}
use Rattle.log_entry.specs.Kind.{entry_of}
use Rattle.log_entry.specs.Bytes.{entry_bytes}
use Rattle.script_replay.proofs.log.put_bytes.Given as goal

-- so many bytes were given
abbrev pub invariant-loop-excerpt : goal.invariant-loop-excerpt
invariant-loop-excerpt g l = record {
  within : l.from ≤ length (entry_bytes (entry_of l.entry));
  same : (output_of l.output).ghost_name ≡ (output_of l.initial.output).ghost_name;
  given : Passes g.W.Write.contents l.initial.output l.output (encode_lower (take l.from (entry_bytes (entry_of l.entry))));
}

abbrev pub decreases-loop-excerpt : goal.decreases-loop-excerpt
decreases-loop-excerpt g l = length (entry_bytes (entry_of l.entry)) - l.from
