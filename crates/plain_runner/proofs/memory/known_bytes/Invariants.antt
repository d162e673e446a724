use Rattle.std.proofs.Common.{◌≡◌, ◌++◌, drop, length, option_map}
use Rattle.bpf_semantics.specs.Memory.{known_list, known_bytes}
use Rattle.plain_runner.proofs.memory.known_bytes.Given as goal

-- the bytes so far and those that are left are all
abbrev pub invariant-loop-byte : goal.invariant-loop-byte
invariant-loop-byte g l = record {
  told : option_map (λ bs. l.bytes.items ++ bs) (known_list (drop l.byte-index l.byte-items)) ≡ known_bytes l.stack l.from l.count;
  so_far : length l.bytes.items ≡ l.byte-index;
}
