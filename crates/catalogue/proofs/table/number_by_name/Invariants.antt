use Rattle.std.proofs.Common.{◌≡◌}
use Rattle.log_model.specs.Log.{by_name}
use Rattle.catalogue.specs.Stored.{listed, stored_procedures}
use Rattle.catalogue.proofs.table.number_by_name.Given as goal

-- those that are left answer what all do
abbrev pub invariant-loop-number : goal.invariant-loop-number
invariant-loop-number g l = by_name (stored_procedures (listed l.number-iterator)) l.name ≡ by_name (stored_procedures (listed l.table.entries)) l.name
