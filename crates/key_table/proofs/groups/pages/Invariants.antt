use Rattle.std.proofs.Common.{◌≤◌, ◌+◌, ◌*◌, length, drop}
use Rattle.key_table.specs.Pages.{all_slots}
use Rattle.key_table.specs.Groups.{group_slots}
use Rattle.key_table.proofs.groups.pages.Given as goal

abbrev pub invariant-loop-group : goal.invariant-loop-group
invariant-loop-group g l = record {
  most : l.found ≤ 256 * l.group-index;
  few : l.found + length (all_slots (drop l.group-index (group_slots l.groups))) ≤ length (all_slots (group_slots l.groups));
  enough : length (all_slots (group_slots l.groups)) ≤ 64 * l.found + length (all_slots (drop l.group-index (group_slots l.groups)));
}
