use Rattle.std.proofs.Common.{◌≡◌, length, take}
use Rattle.key_table.specs.Pages.{least_keys}
use Rattle.key_table.proofs.group_edits.note_all.Given as goal

abbrev pub invariant-loop-page : goal.invariant-loop-page
invariant-loop-page g l = record {
  len : length l.least.items ≡ length l.pages;
  noted : take l.page l.least.items ≡ take l.page (least_keys l.pages);
}
