use Rattle.std.proofs.Common.{◌≡◌, true}
use Rattle.world_calls.specs.OpenCall.{stays_open}
use Rattle.node_calls.proofs.run.run_to_the_end.Given as goal

abbrev pub invariant-loop : goal.invariant-loop
invariant-loop g l = record {
  next : (goal.iterator-loop g).can_next l.iterator' × (goal.iterator-loop g).is_finite l.iterator';
  stays : stays_open l.call.last ≡ true;
  entries : l.call.entries ≡ l.fn.call.entries;
  same : l.call.progress.call ≡ l.fn.call.progress.call;
}
