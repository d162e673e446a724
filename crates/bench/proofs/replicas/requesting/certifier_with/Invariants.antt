use Rattle.std.proofs.Common.{◌≡◌}
use Rattle.bench.proofs.replicas.requesting.certifier_with.Given as goal

abbrev pub invariant-loop-before : goal.invariant-loop-before
invariant-loop-before l = l.certifier.memory.count ≡ l.before
