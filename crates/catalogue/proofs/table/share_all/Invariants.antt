use Rattle.std.proofs.Common.{◌≡◌, ◌++◌}
use Rattle.catalogue.specs.Stored.{listed}
use Rattle.catalogue.proofs.table.share_all.Given as goal

-- what is shared, and what is left, are all
abbrev pub invariant-loop-number : goal.invariant-loop-number
invariant-loop-number g l = listed l.shared.entries ++ listed l.number-iterator ≡ listed l.table.entries
