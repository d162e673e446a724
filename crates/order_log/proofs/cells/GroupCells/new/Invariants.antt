use Rattle.std.proofs.Common.{◌≡◌, ◌≤◌, vec_len, vec_capacity}
use Rattle.order_log.proofs.cells.GroupCells.new.Given as goal

abbrev pub invariant-loop : goal.invariant-loop
invariant-loop g l = (vec_len l.groups ≡ l.counter) × (1024 ≤ vec_capacity l.groups)
