use Rattle.std.proofs.Common.{◌≡◌, take}
use Rattle.hex.specs.Hex.{encode_lower}
use Rattle.byte_output.specs.Pending.{output_of, Passes}
use Rattle.report.proofs.printing.put_hex.Given as goal

-- the bytes so far were given
abbrev pub invariant-loop-byte : goal.invariant-loop-byte
invariant-loop-byte g l = record {
  given : Passes g.W.Write.contents l.initial.output l.output (encode_lower (take l.byte-index l.bytes));
  same : (output_of l.output).ghost_name ≡ (output_of l.initial.output).ghost_name;
}
