use Rattle.std.proofs.Common.{◌≡◌, ◌+◌, ◌++◌, replicate, true, take, drop}
use Rattle.abs_state.proofs.stack_bytes.StackBytes.add.Given as goal

abbrev pub invariant-loop-done : goal.invariant-loop-done
invariant-loop-done l = l.self ≡ take l.from l.fn.self ++ replicate l.done true ++ drop (l.from + l.done) l.fn.self
