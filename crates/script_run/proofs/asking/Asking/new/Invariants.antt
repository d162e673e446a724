use Rattle.std.proofs.Common.{◌≡◌}
use Rattle.script_run.specs.Planned.{planned_calls}
use Rattle.script_run.proofs.asking.Asking.new.Given as goal

abbrev pub invariant-loop-call : goal.invariant-loop-call
invariant-loop-call g l = planned_calls l.calls.items ≡ l.yielded

abbrev pub invariant-loop : goal.invariant-loop
invariant-loop g l = planned_calls l.calls.items ≡ l.fn.script.items
