use Rattle.std.proofs.Common.{◌≡◌}
use Rattle.bench.proofs.replicas.certifying.full_certifier.Given as goal

abbrev pub invariant-loop-before : goal.invariant-loop-before
invariant-loop-before l = l.certifier.memory.count ≡ l.before
