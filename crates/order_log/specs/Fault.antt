-- Why an entry was not appended, as it is printed.
use Rattle.std.specs.Prelude.{ℕ, List, ◌++◌, codes}
use Rattle.std.specs.Fmt.{decimal}
use Rattle.order_log.specs.declared.fault.AppendFault.{AppendFault}
use Rattle.order_log.specs.declared.fault.AppendFault.TheVariants.{Full, NoMemory, SnapshotUnseen}

abbrev pub number_of_fault : AppendFault → ℕ
number_of_fault Full = 1
number_of_fault NoMemory = 2
number_of_fault SnapshotUnseen = 3

-- as `O1`
abbrev pub fault_text : AppendFault → List ℕ
fault_text fault = codes "O" ++ decimal (number_of_fault fault)
