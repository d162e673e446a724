use Rattle.std.proofs.Common.{◌≡◌}
use Rattle.node_calls.proofs.run.next_locked.Given as goal

abbrev pub invariant-loop : goal.invariant-loop
invariant-loop g l = record {
  next : (goal.iterator-loop g).can_next l.iterator' × (goal.iterator-loop g).is_finite l.iterator';
  same : l.call ≡ l.fn.call;
}
