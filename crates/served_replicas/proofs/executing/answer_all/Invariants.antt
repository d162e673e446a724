use Rattle.std.proofs.Common.{◌≡◌, ◌+◌}
use Rattle.tallies.specs.Counted.{AreBelow}
use Rattle.served_replicas.proofs.executing.answer_all.Given as goal

abbrev pub invariant-loop-answer : goal.invariant-loop-answer
invariant-loop-answer g l = (l.tally.threads ≡ l.fn.tally.threads) × AreBelow (l._answer + 1) l.tally.counts
