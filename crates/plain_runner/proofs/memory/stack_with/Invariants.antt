use Rattle.std.proofs.Common.{◌≡◌, ◌++◌, take, map, Some}
use Rattle.plain_runner.proofs.memory.stack_with.Given as goal

-- the bytes so far stand behind those before them
abbrev pub invariant-loop-byte : goal.invariant-loop-byte
invariant-loop-byte g l = l.new.items ≡ take l.from l.stack ++ map (λ b. Some b) (take l.byte-index l.bytes)
