use Rattle.std.proofs.Common.{◌≡◌, ap, subst, ◌∙◌}
use Rattle.std.proofs.lemmas.Result.{err_from_is_err_and}
use Rattle.byte_output.specs.Pending.{Passes}
use Rattle.dsm_world.specs.System.{setting_of, world_of, step_of}
use Rattle.report.specs.Answers.{answer_line, text_of}
use Rattle.script_replay.specs.Printed.{delivered_entry, step_text}
use Rattle.script_replay.specs.Acting.{PassesBeginning}
use Rattle.script_replay.proofs.answers.step.Goals as goal

pub returns-in_err-put_answer-clause-failed : goal.returns-in_err-put_answer-clause-failed
returns-in_err-put_answer-clause-failed g c =
    let log = (world_of c.step-outcome.new.self).log in
    let said : text_of c.answer_line.result ≡ step_text (setting_of c.args.world.now) log (step_of (setting_of c.args.world.now) c.args.step) c.step-outcome.result =
    ap text_of (c.answer_line.ensures (setting_of c.args.world.now))
    ∙ ap (λ n. text_of (answer_line (step_of (setting_of c.args.world.now) c.args.step) c.step-outcome.result n)) (c.delivered_entry-entry.ensures ∙ ap (λ w. delivered_entry w log c.step-outcome.result) c.step-outcome.ensures.setting) in
    let q = err_from_is_err_and c.from_residual.result c.from_residual.ensures.1 in
    rw q.1 (c.step-outcome.result, c.step-outcome.ensures.step, subst (PassesBeginning g.W.Write.contents c.args.output.now c.put_answer.new.output) said c.in_err-put_answer.ensures.given)

pub returns-clause-stepped : goal.returns-clause-stepped
returns-clause-stepped g c =
    let log = (world_of c.step-outcome.new.self).log in
    let said : text_of c.answer_line.result ≡ step_text (setting_of c.args.world.now) log (step_of (setting_of c.args.world.now) c.args.step) c.step-outcome.result =
    ap text_of (c.answer_line.ensures (setting_of c.args.world.now))
    ∙ ap (λ n. text_of (answer_line (step_of (setting_of c.args.world.now) c.args.step) c.step-outcome.result n)) (c.delivered_entry-entry.ensures ∙ ap (λ w. delivered_entry w log c.step-outcome.result) c.step-outcome.ensures.setting) in
    (c.step-outcome.ensures.step, subst (Passes g.W.Write.contents c.args.output.now c.put_answer.new.output) said c.in_ok-put_answer.ensures.given)
