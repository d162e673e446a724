use Rattle.std.proofs.Common.{length}
use Rattle.script_run.specs.Printed.{replica_line}
use Rattle.script_run.proofs.TextLemmas.{GivenSoFar}
use Rattle.script_run.proofs.text.add_replicas.Given as goal

abbrev pub invariant-loop-end : goal.invariant-loop-end
invariant-loop-end l = GivenSoFar replica_line l.fn.text.items l.text.items l.before l.rest l.fn.replicas

abbrev pub decreases-loop-end : goal.decreases-loop-end
decreases-loop-end l = length l.rest
