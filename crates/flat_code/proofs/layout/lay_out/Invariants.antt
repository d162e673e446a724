use Rattle.std.proofs.Common.{◌≡◌, ◌<◌, ℕ, length, slice_get, Some}
use Rattle.std.specs.Option.{option_map}
use Rattle.bpf_code.specs.declared.instruction.Instruction.{Instruction}
use Rattle.bpf_code.specs.Program.{instruction_at}
use Rattle.flat_code.specs.Flat.{instruction_of}
use Rattle.flat_code.proofs.layout.lay_out.Given as goal

abbrev pub invariant-loop-slot : goal.invariant-loop-slot
invariant-loop-slot g l = record {
  long : length l.flat.items ≡ l.slot;
  each : (slot : ℕ) (i : Instruction) → slot < l.slot → instruction_at l.code slot ≡ Some i → option_map instruction_of (slice_get l.flat.items slot) ≡ Some i;
}
