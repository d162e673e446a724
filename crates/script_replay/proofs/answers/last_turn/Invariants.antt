use Rattle.std.proofs.Common.{◌≡◌, suc, ◌-◌}
use Rattle.dsm_model.specs.World.{Turn as TurnStep}
use Rattle.dsm_world.specs.System.{setting_of, world_of}
use Rattle.script_replay.specs.Actions.{is_more}
use Rattle.script_replay.proofs.RepeatLemmas.{Ran}
use Rattle.script_replay.proofs.answers.last_turn.Given as goal

abbrev pub invariant-loop : goal.invariant-loop
invariant-loop g l = Ran (setting_of l.initial.world) (TurnStep l.call) is_more l.most (suc (l.most - l.counter)) (world_of l.initial.world) (world_of l.world) × (setting_of l.world ≡ setting_of l.initial.world)
