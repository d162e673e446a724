use Rattle.std.proofs.Common.{◌≡◌, ◌-◌}
use Rattle.byte_output.specs.Pending.{output_of}
use Rattle.dsm_model.specs.World.{Deliver}
use Rattle.dsm_world.specs.System.{setting_of, world_of}
use Rattle.script_replay.specs.Actions.{is_delivery}
use Rattle.script_replay.proofs.RepeatLemmas.{Came}
use Rattle.script_replay.proofs.answers.deliver.Given as goal

abbrev pub invariant-loop : goal.invariant-loop
invariant-loop g l =
    Came g.W.Write.contents (setting_of l.initial.world) (Deliver l.replica) is_delivery l.most (l.most - l.counter) (world_of l.initial.world) (world_of l.world) l.initial.output l.output
    × (setting_of l.world ≡ setting_of l.initial.world) × ((output_of l.output).ghost_name ≡ (output_of l.initial.output).ghost_name)
