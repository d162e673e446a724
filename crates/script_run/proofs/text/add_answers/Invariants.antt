use Rattle.std.proofs.Common.{length}
use Rattle.report.specs.declared.printed.Line.TheVariants.{Answered}
use Rattle.script_run.proofs.TextLemmas.{GivenSoFar}
use Rattle.script_run.proofs.text.add_answers.Given as goal

abbrev pub invariant-loop-answer : goal.invariant-loop-answer
invariant-loop-answer l = GivenSoFar Answered l.fn.text.items l.text.items l.before l.rest l.fn.answers

abbrev pub decreases-loop-answer : goal.decreases-loop-answer
decreases-loop-answer l = length l.rest
