use Rattle.std.proofs.Common.{◌≡◌}
use Rattle.bench.proofs.replicas.requesting.requests.Given as goal

abbrev pub invariant-loop-time : goal.invariant-loop-time
invariant-loop-time l = (l.certifier.memory.count ≡ l.kept) × (l.call.call.snapshot ≡ 0)
