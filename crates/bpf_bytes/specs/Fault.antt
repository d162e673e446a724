-- The faults' numbers, and how a fault is printed: `B3 slot 0`.
use Rattle.std.specs.Prelude.{ℕ, List, ◌++◌, codes}
use Rattle.std.specs.Fmt.{decimal}
use Rattle.bpf_bytes.specs.declared.fault.DecodeCause.{DecodeCause}
use Rattle.bpf_bytes.specs.declared.fault.DecodeCause.TheVariants.{Length, TooManySlots, UnknownOpcode, RegisterNumber, UnusedField, UndefinedValue, CutShort, JumpBackwards, JumpPastEnd, JumpIntoWideLoad, NoExit, NoMemory}
use Rattle.bpf_bytes.specs.declared.fault.DecodeFault.{DecodeFault}

abbrev pub number_of_cause : DecodeCause → ℕ
number_of_cause Length = 1
number_of_cause TooManySlots = 2
number_of_cause UnknownOpcode = 3
number_of_cause RegisterNumber = 4
number_of_cause UnusedField = 5
number_of_cause UndefinedValue = 6
number_of_cause CutShort = 7
number_of_cause JumpBackwards = 8
number_of_cause JumpPastEnd = 9
number_of_cause JumpIntoWideLoad = 10
number_of_cause NoExit = 11
number_of_cause NoMemory = 12

abbrev pub fault_text : DecodeFault → List ℕ
fault_text fault = codes "B" ++ decimal (number_of_cause fault.cause) ++ codes " slot " ++ decimal fault.slot
