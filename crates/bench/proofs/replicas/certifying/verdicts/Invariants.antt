use Rattle.std.proofs.Common.{◌≡◌}
use Rattle.bench.proofs.replicas.certifying.verdicts.Given as goal

abbrev pub invariant-loop : goal.invariant-loop
invariant-loop l = l.certifier.memory.count ≡ 4096
