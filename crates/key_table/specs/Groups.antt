-- A table's keys in groups of pages, and the one list that they are.
use Rattle.std.specs.Prelude.{ℕ, ◌≤◌, List, map, Bool, length}
use Rattle.key_table.specs.declared.edits.TheConstants.{TABLE_GROUPS}
use Rattle.key_table.specs.declared.group_edits.TheConstants.{GROUP_KEYS}
use Rattle.key_table.specs.Pages.{all_slots, has_slots, AreFilled}
use Rattle.key_table.specs.Table.{Slot, AreRising, AreSlotsOf}

-- the slots of each group
abbrev pub group_slots : List (List (List Slot)) → List (List Slot)
group_slots groups = map all_slots groups

-- the groups of a table: few enough that all slots can be counted
pub record AreGroups (width : ℕ) (groups : List (List (List Slot))) : Type 0 where
  pub rising : AreRising (all_slots (group_slots groups))
  pub wide : AreSlotsOf width (all_slots (group_slots groups))
  pub filled : AreFilled GROUP_KEYS (group_slots groups)
  pub few : length groups ≤ TABLE_GROUPS

-- whether a group has slots
abbrev pub has_any : List (List Slot) → Bool
has_any group = has_slots (all_slots group)
