use Rattle.std.proofs.Common.{◌≡◌, drop}
use Rattle.key_table.specs.Table.{rows_between}
use Rattle.key_table.specs.Pages.{all_slots}
use Rattle.key_table.specs.Groups.{group_slots}
use Rattle.key_table.proofs.groups.first.Given as goal

abbrev pub invariant-loop-group : goal.invariant-loop-group
invariant-loop-group g l = rows_between l.position l.lo l.hi (all_slots (drop l.group-index (group_slots l.groups))) ≡ rows_between l.position l.lo l.hi (all_slots (group_slots l.groups))
