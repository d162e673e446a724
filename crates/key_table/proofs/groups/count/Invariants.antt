use Rattle.std.proofs.Common.{◌≡◌, ◌≤◌, ◌+◌, ◌*◌, length, drop}
use Rattle.key_table.specs.Table.{rows_between}
use Rattle.key_table.specs.Pages.{all_slots}
use Rattle.key_table.specs.Groups.{group_slots}
use Rattle.key_table.proofs.groups.count.Given as goal

abbrev pub invariant-loop-group : goal.invariant-loop-group
invariant-loop-group g l = record {
  few : l.found ≤ 16384 * l.group-index;
  left : l.found + length (rows_between l.position l.lo l.hi (all_slots (drop l.group-index (group_slots l.groups)))) ≡ length (rows_between l.position l.lo l.hi (all_slots (group_slots l.groups)));
}
