-- The exit status where the words are no plan.
use Rattle.std.specs.Prelude.{ℕ}
use Rattle.clap.specs.Values.{kind_of}
use Rattle.clap.specs.declared.error.kind.ErrorKind.{ErrorKind}
use Rattle.clap.specs.declared.error.kind.ErrorKind.TheVariants.{DisplayHelp, DisplayVersion, OutOfMemory}
use Rattle.command_line.specs.declared.request.PlanFault.{PlanFault}
use Rattle.command_line.specs.declared.request.PlanFault.TheVariants as fault

-- what clap shows when it is asked to is no fault
abbrev pub kind_status : ErrorKind → ℕ
kind_status DisplayHelp = 0
kind_status DisplayVersion = 0
kind_status OutOfMemory = 3
kind_status _ = 2

abbrev pub fault_status : PlanFault → ℕ
fault_status (fault.CommandLine error) = kind_status (kind_of error)
fault_status fault.NoMemory = 3
fault_status _ = 2
