use Rattle.std.proofs.Common.{arith}
use Rattle.report.specs.declared.printed.Line.TheVariants.{Answered}
use Rattle.script_run.proofs.TextLemmas.{none_left, one_more}
use Rattle.script_run.proofs.text.add_answers.Goals as goal

pub loop-answer-preserved : goal.loop-answer-preserved
loop-answer-preserved c =
    (one_more Answered c.loop-answer.before _ c.loop-answer.rest.now c.in-Some.others.now _ _ _ c.in-Some.ensures.cases.0 c.in_ok-add.ensures c.loop-answer.invariant.0, omega (arith, c.loop-answer.invariant.1, c.in-Some.ensures.cases.1))

pub returns : goal.returns
returns c = none_left Answered c.loop-answer.before c.loop-answer.rest.now _ _ c.in_default.ensures.cases c.loop-answer.invariant.0
