use Rattle.std.proofs.Common.{◌≡◌}
use Rattle.node.proofs.node.add_all_replicas.Given as goal

abbrev pub invariant-loop-place : goal.invariant-loop-place
invariant-loop-place g l = l.shared.replicas ≡ l.place
