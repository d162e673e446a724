use Rattle.std.proofs.Common.{None, ap, subst}
use Rattle.dsm_world.specs.System.{setting_of, world_of}
use Rattle.report.specs.Answers.{text_of}
use Rattle.report.specs.declared.printed.DeliveredEntry.TheVariants as delivered
use Rattle.script.specs.declared.statements.Action.TheVariants as action
use Rattle.script_replay.specs.Acting.{Gives}
use Rattle.script_replay.proofs.GivenLemmas.{gives_done}
use Rattle.script_replay.proofs.ActedLemmas.{executes}
use Rattle.script_replay.proofs.answers.exec.Goals as goal

pub returns-clause-done : goal.returns-clause-done
returns-clause-done g c =
    let w = setting_of c.args.world.now in
    let start = world_of c.args.world.now in
    let next = world_of c.exec-outcome.new.self in
    let (before, few, is) = c.exec-outcome.ensures.turns in
    gives_done g.W.Write.contents w start (action.Exec c.args.call) c.args.output.now c.put_answer.new.output c.put_answer.result next _
    (executes w start c.args.call before c.exec-outcome.result next few c.exec-outcome.ensures.ends is)
    (subst (Gives g.W.Write.contents c.args.output.now c.put_answer.new.output c.put_answer.result) (ap text_of (c.call_line.ensures.turn (delivered.Call None))) c.put_answer.ensures.given)
