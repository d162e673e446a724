use Rattle.std.proofs.Common.{◌≡◌}
use Rattle.bpf_vm.specs.Run.{HasRun, own_effects}
use Rattle.plain_site.proofs.run.take_turns.Given as goal

-- as many instructions were run as turns were taken
abbrev pub invariant-loop-turn : goal.invariant-loop-turn
invariant-loop-turn g l = record {
  rows : l.view.store.rows.now ≡ l.map;
  run : HasRun l.procedure l.args l.map l.turn l.machine (own_effects l.view.own);
}
