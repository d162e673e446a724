use Rattle.std.proofs.Common.{None, ap, subst}
use Rattle.dsm_model.specs.World.{Turn as TurnStep}
use Rattle.dsm_world.specs.System.{setting_of, world_of}
use Rattle.report.specs.Answers.{text_of}
use Rattle.report.specs.declared.printed.DeliveredEntry.TheVariants as delivered
use Rattle.script.specs.declared.statements.Action.TheVariants as action
use Rattle.script_replay.specs.Printed.{step_text}
use Rattle.script_replay.specs.Acting.{Gives}
use Rattle.script_replay.proofs.GivenLemmas.{gives_done}
use Rattle.script_replay.proofs.ActedLemmas.{turns}
use Rattle.script_replay.proofs.answers.turn.Goals as goal

pub returns-clause-done : goal.returns-clause-done
returns-clause-done g c =
    let w = setting_of c.args.world.now in
    let next = world_of c.last_turn-outcome.new.world in
    gives_done g.W.Write.contents w (world_of c.args.world.now) (action.Turn c.args.call c.args.most) c.args.output.now c.put_answer.new.output c.put_answer.result next _
    (turns w (world_of c.args.world.now) c.args.call c.args.most (step_text w next.log (TurnStep c.args.call) c.last_turn-outcome.result) next c.last_turn-outcome.ensures.turned)
    (subst (Gives g.W.Write.contents c.args.output.now c.put_answer.new.output c.put_answer.result) (ap text_of (c.call_line.ensures.turn (delivered.Call None))) c.put_answer.ensures.given)
