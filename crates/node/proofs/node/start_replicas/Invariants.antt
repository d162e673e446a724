use Rattle.std.proofs.Common.{◌≡◌, ◌+◌, ◌*◌, ◌≤◌}
use Rattle.std.specs.Prelude.{vec_len}
use Rattle.tallies.specs.Counted.{no_counts}
use Rattle.node.proofs.node.start_replicas.Given as goal

abbrev pub invariant-loop-place : goal.invariant-loop-place
invariant-loop-place g l = (l.tally.threads + l.crew.executors ≡ 129) × (129 ≤ l.tally.threads + l.place * 16) × (l.tally.counts ≡ no_counts) × (vec_len l.senders ≡ l.place)
