use Rattle.std.proofs.Common.{◌≡◌, length, take}
use Rattle.key_table.specs.Pages.{least_keys}
use Rattle.key_table.specs.Groups.{group_slots}
use Rattle.key_table.proofs.edits.note_all.Given as goal

abbrev pub invariant-loop-at : goal.invariant-loop-at
invariant-loop-at g l = record {
  len : length l.least.items ≡ length l.groups;
  noted : take l.at l.least.items ≡ take l.at (least_keys (group_slots l.groups));
}
