use Rattle.std.proofs.Common.{◌≡◌, ◌+◌}
use Rattle.tallies.specs.Counted.{no_counts}
use Rattle.node.proofs.crew.Crew.start_replica.Given as goal

abbrev pub invariant-loop-thread : goal.invariant-loop-thread
invariant-loop-thread g l = (l.tally.threads + l.self.executors ≡ l.fn.tally.threads + l.fn.self.executors) × (l.fn.tally.threads ≡ l.tally.threads + l.thread) × (l.tally.counts ≡ no_counts)
