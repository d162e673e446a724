-- The faults of lines.
use Rattle.std.specs.Prelude.{ℕ}
use Rattle.script.specs.declared.fault.LineFault.{LineFault}
use Rattle.script.specs.declared.fault.LineFault.TheVariants.{Bytes, Word, FieldCount, Field, NoMemory}

abbrev pub number_of_line_fault : LineFault → ℕ
number_of_line_fault Bytes = 1
number_of_line_fault Word = 2
number_of_line_fault FieldCount = 3
number_of_line_fault Field = 4
number_of_line_fault NoMemory = 9
