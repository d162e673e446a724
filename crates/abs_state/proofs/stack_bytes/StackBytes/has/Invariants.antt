use Rattle.std.proofs.Common.{◌≡◌, true, take, drop}
use Rattle.std.specs.List.{list_all}
use Rattle.abs_state.proofs.stack_bytes.StackBytes.has.Given as goal

abbrev pub invariant-loop-done : goal.invariant-loop-done
invariant-loop-done l = list_all (λ byte. byte) (take l.done (drop l.from l.self)) ≡ true
