use Rattle.std.proofs.Common.{◌≡◌}
use Rattle.script_run.proofs.asking.Asking.ask_part.Given as goal

abbrev pub invariant-loop-next : goal.invariant-loop-next
invariant-loop-next g l = l.shares ≡ l.fn.shares
