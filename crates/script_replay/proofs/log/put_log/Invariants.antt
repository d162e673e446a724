use Rattle.std.proofs.Common.{◌≡◌}
use Rattle.byte_output.specs.Pending.{output_of}
use Rattle.dsm_world.specs.System.{setting_of, world_of}
use Rattle.script_replay.proofs.PrintedLemmas.{HaveLines}
use Rattle.script_replay.proofs.log.put_log.Given as goal

abbrev pub invariant-loop-before : goal.invariant-loop-before
invariant-loop-before g l =
    HaveLines g.W.Write.contents (setting_of l.world) (world_of l.world) l.before l.initial.output l.output × ((output_of l.output).ghost_name ≡ (output_of l.initial.output).ghost_name)
