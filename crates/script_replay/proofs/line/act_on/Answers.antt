use Rattle.script_replay.specs.Actions.{setting_of, world_of}
use Rattle.script_replay.proofs.DoneLemmas.{acted, broke}
use Rattle.script_replay.proofs.line.act_on.Goals as goal

pub returns-in-Ok-clause-done : goal.returns-in-Ok-clause-done
returns-in-Ok-clause-done g c =
    acted g.W.Write.contents c.args.number (setting_of c.args.world) (setting_of c.act.new.world) (world_of c.args.world) (world_of c.act.new.world) c.args.action.now c.args.output.now c.act.new.output c.act.ensures.setting c.in-Ok.ensures.done

pub returns-in-Err-clause-done : goal.returns-in-Err-clause-done
returns-in-Err-clause-done g c = λ more.
    broke g.W.Write.contents c.args.number (setting_of c.args.world) (world_of c.args.world) (world_of c.act.new.world) c.args.action.now c.args.output.now c.act.new.output c.in-Err.ensures.done more
