use Rattle.std.proofs.Common.{◌≡◌, ◌++◌}
use Rattle.std.specs.FinMap.{entries}
use Rattle.plain_runner.proofs.key_map.KeyMap.into_list.Given as goal

-- those so far and those that are left are all
abbrev pub invariant-loop-table : goal.invariant-loop-table
invariant-loop-table g l = l.list.items ++ l.table-iterator ≡ entries l.fn.self
