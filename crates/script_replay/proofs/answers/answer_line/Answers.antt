use Rattle.std.proofs.Common.{[], None, sym, ap, ◌∙◌}
use Rattle.program_checks.specs.ProgramCheck.{Passed}
use Rattle.dsm_world.specs.System.{step_of}
use Rattle.report.specs.Answers.{answer_line}
use Rattle.script_replay.proofs.answers.answer_line.Goals as goal

pub returns-in-Begin : goal.returns-in-Begin
returns-in-Begin c w = c.begin_line.ensures 0 [] None c.args.entry ∙ ap (λ s. answer_line (step_of w s) c.args.outcome c.args.entry) (sym c.in-Begin.is)

pub returns-in-Turn : goal.returns-in-Turn
returns-in-Turn c w = c.call_line.ensures.turn c.args.entry ∙ ap (λ s. answer_line (step_of w s) c.args.outcome c.args.entry) (sym c.in-Turn.is)

pub returns-in-Order : goal.returns-in-Order
returns-in-Order c w = c.call_line-in-Order.ensures.order c.args.entry ∙ ap (λ s. answer_line (step_of w s) c.args.outcome c.args.entry) (sym c.in-Order.is)

pub returns-in-BeginNumbered : goal.returns-in-BeginNumbered
returns-in-BeginNumbered c w = c.begin_line-in-BeginNumbered.ensures 0 [] None c.args.entry ∙ ap (λ s. answer_line (step_of w s) c.args.outcome c.args.entry) (sym c.in-BeginNumbered.is)

pub returns-in-Add : goal.returns-in-Add
returns-in-Add c w = c.add_line.ensures [] 0 0 (Passed []) c.args.entry ∙ ap (λ s. answer_line (step_of w s) c.args.outcome c.args.entry) (sym c.in-Add.is)
