use Rattle.std.proofs.Common.{List, subst}
use Rattle.dsm_world.specs.System.{setting_of, world_of}
use Rattle.replica.specs.Replica.{Replica}
use Rattle.script_replay.proofs.TurnLemmas.{AllStored, short_programs, execution_ends}
use Rattle.script_replay.proofs.laws.executions_end.Goals as goal

pub returns : goal.returns
returns g c = λ call text after does.
    let s = c.args.world.now in
    let w = setting_of s in
    let known = c.keeps_what_was_delivered.ensures in
    execution_ends w (record {
      keeps = c.steps_keep_a_world.ensures.step w;
      sound = λ world n o is e. c.open_calls_are_sound.ensures w world n o known.begins is e;
      more = c.turns_follow_the_run.ensures.more w;
      kept = c.procedures_are_never_lost.ensures w;
    }) (world_of s) call text after known.world
    (short_programs s (subst (λ (rs : List Replica). AllStored rs) c.replicas.ensures c.procedures_are_stored.ensures) known.replicas c.runs_are_short.ensures.instructions) does
