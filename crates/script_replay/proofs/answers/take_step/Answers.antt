use Rattle.std.proofs.Common.{refl}
use Rattle.std.proofs.lemmas.Result.{err_from_is_err_and}
use Rattle.dsm_world.specs.System.{setting_of, step_of, world_of}
use Rattle.script_replay.specs.Printed.{step_text}
use Rattle.script_replay.proofs.answers.take_step.Goals as goal

pub returns-in_err-step-clause-done : goal.returns-in_err-step-clause-done
returns-in_err-step-clause-done g c =
    let f = c.in_err-step.ensures.failed in
    let w = setting_of c.args.world.now in
    let after = world_of c.step.new.world in
    let q = err_from_is_err_and c.from_residual.result c.from_residual.ensures.1 in
    rw q.1 (step_text w after.log (step_of w c.args.taken) f.0, after, (f.0, f.1, refl), f.2)

pub returns-clause-done : goal.returns-clause-done
returns-clause-done g c =
    let s = c.in_ok-step.ensures.stepped in
    let w = setting_of c.args.world.now in
    let after = world_of c.step.new.world in
    (step_text w after.log (step_of w c.args.taken) c.in_ok-step.field-0, (c.in_ok-step.field-0, s.0, refl), s.1)
