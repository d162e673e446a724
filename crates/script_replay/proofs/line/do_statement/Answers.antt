use Rattle.std.proofs.Common.{Some, Ok, ap, ◌∙◌}
use Rattle.std.proofs.lemmas.Result.{err_from_is_err_and}
use Rattle.script.specs.declared.statements.Statement.TheVariants as statement
use Rattle.script_replay.specs.Actions.{setting_of, world_of}
use Rattle.script_replay.specs.Stage.{Acts, effect_of}
use Rattle.script_replay.specs.Doing.{stage_of}
use Rattle.script_replay.proofs.DoneLemmas.{by_effect, sets_or_stops, stops_by, faults_stop, faults_stop_by}
use Rattle.script_replay.proofs.line.do_statement.Goals as goal

pub returns-in-Setting-clause-done : goal.returns-in-Setting-clause-done
returns-in-Setting-clause-done g c =
    let said = Ok (Some (statement.Setting c.in-Setting.setting)) in
    by_effect g.W.Write.contents c.args.number (effect_of (stage_of c.args.stage) (Ok (Some c.args.statement))) (effect_of (stage_of c.args.stage) said) c.args.output.now c.args.output.now c.set.result
    (ap (λ s. effect_of (stage_of c.args.stage) (Ok (Some s))) c.in-Setting.is)
    (sets_or_stops g.W.Write.contents c.args.number (stage_of c.args.stage) said c.args.output.now c.set.result c.set.ensures.ok c.set.ensures.fault)

pub returns-in_err-world-in-Action-clause-done : goal.returns-in_err-world-in-Action-clause-done
returns-in_err-world-in-Action-clause-done g c =
    let p = err_from_is_err_and c.from_residual.result c.from_residual.ensures.1 in
    let said = Ok (Some (statement.Action c.in-Action.action)) in
    by_effect g.W.Write.contents c.args.number (effect_of (stage_of c.args.stage) (Ok (Some c.args.statement))) (effect_of (stage_of c.args.stage) said) c.args.output.now c.args.output.now c.from_residual.result
    (ap (λ s. effect_of (stage_of c.args.stage) (Ok (Some s))) c.in-Action.is)
    (stops_by g.W.Write.contents c.args.number (stage_of c.args.stage) said c.args.output.now c.from_residual.result p.0 c.in_err-world-in-Action.field-0.0 p.1 p.2 (c.in_err-world-in-Action.ensures.fault c.in-Action.action))

pub returns-in_ok-world-in-Action-clause-done : goal.returns-in_ok-world-in-Action-clause-done
returns-in_ok-world-in-Action-clause-done g c =
    by_effect g.W.Write.contents c.args.number (effect_of (stage_of c.args.stage) (Ok (Some c.args.statement))) (Acts (setting_of c.in_ok-world-in-Action.world) (world_of c.in_ok-world-in-Action.world) c.in-Action.action)
    c.args.output.now c.act_on.new.output c.act_on.result
    (ap (λ s. effect_of (stage_of c.args.stage) (Ok (Some s))) c.in-Action.is ∙ c.in_ok-world-in-Action.ensures.ok c.in-Action.action) c.act_on.ensures.done

pub returns-in_err-world-in-Action-clause-stopped : goal.returns-in_err-world-in-Action-clause-stopped
returns-in_err-world-in-Action-clause-stopped g c =
    let p = err_from_is_err_and c.from_residual.result c.from_residual.ensures.1 in
    faults_stop_by g.W.Write.contents c.args.number (effect_of (stage_of c.args.stage) (Ok (Some (statement.Action c.in-Action.action)))) c.args.output.now c.from_residual.result p.0 c.in_err-world-in-Action.field-0.0 p.1 p.2
    (c.in_err-world-in-Action.ensures.fault c.in-Action.action)

pub returns-in-Setting-clause-stopped : goal.returns-in-Setting-clause-stopped
returns-in-Setting-clause-stopped g c =
    faults_stop g.W.Write.contents c.args.number (effect_of (stage_of c.args.stage) (Ok (Some (statement.Setting c.in-Setting.setting)))) c.args.output.now c.set.result c.set.ensures.fault
