use Rattle.std.proofs.Common.{◌≡◌, ◌+◌}
use Rattle.std.specs.Prelude.{vec_len}
use Rattle.node.proofs.crew.Crew.end.Given as goal

abbrev pub decreases-loop-child : goal.decreases-loop-child
decreases-loop-child g l = vec_len l.executors

abbrev pub invariant-loop-child : goal.invariant-loop-child
invariant-loop-child g l = l.tally.threads + vec_len l.executors ≡ l.fn.tally.threads + l.fn.self.executors
