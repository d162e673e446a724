use Rattle.std.proofs.Common.{arith}
use Rattle.script_run.specs.Printed.{replica_line}
use Rattle.script_run.proofs.TextLemmas.{none_left, one_more}
use Rattle.script_run.proofs.text.add_replicas.Goals as goal

pub loop-end-preserved : goal.loop-end-preserved
loop-end-preserved c =
    (one_more replica_line c.loop-end.before _ c.loop-end.rest.now c.in-Some.others.now _ _ _ c.in-Some.ensures.cases.0 c.in_ok-add.ensures c.loop-end.invariant.0, omega (arith, c.loop-end.invariant.1, c.in-Some.ensures.cases.1))

pub returns : goal.returns
returns c = none_left replica_line c.loop-end.before c.loop-end.rest.now _ _ c.in_default.ensures.cases c.loop-end.invariant.0
