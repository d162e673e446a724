-- Why a program is not accepted, or a procedure not added.
use Rattle.std.specs.Prelude.{◌≡◌, ℕ, List, false}
use Rattle.bpf_code.specs.Program.{Program}
use Rattle.log_model.specs.Name.{is_name}
use Rattle.bpf_verify.specs.Flow.{Procedure, IsRefused}
use Rattle.program_checks.specs.declared.fault.ProgramFault.TheVariants.{Bytes, Instruction}
use Rattle.program_checks.specs.ProgramCheck.{ProgramCheck, Passed, Failed}
use Rattle.program_checks.specs.declared.fault.ProgramFault.{ProgramFault}
use Rattle.program_checks.specs.declared.fault.AdditionFault.{AdditionFault}
use Rattle.program_checks.specs.declared.fault.AdditionFault.TheVariants as addition
use Rattle.schema.specs.declared.or_no_memory.OrNoMemory.{OrNoMemory}
use Rattle.schema.specs.declared.or_no_memory.OrNoMemory.TheVariants.{NoMemory, Fault}

-- there is no memory, or the check comes to this very fault
abbrev pub IsFaultOf : ProgramCheck → OrNoMemory ProgramFault → Type 0
IsFaultOf checked NoMemory = Unit {0}
IsFaultOf checked (Fault fault) = checked ≡ Failed fault

-- there is no memory, or this is the lowest slot of the program that has a cause, and its lowest
abbrev pub IsRefusedFor : Procedure → OrNoMemory ProgramFault → Type 0
IsRefusedFor p NoMemory = Unit {0}
IsRefusedFor p (Fault (Instruction slot cause)) = IsRefused p slot cause
IsRefusedFor p (Fault (Bytes fault)) = ⊥

-- there is no memory, or the check comes to this fault, or the program passes and its name is none
abbrev pub IsAdditionFault : List ℕ → ProgramCheck → OrNoMemory AdditionFault → Type 0
IsAdditionFault name checked NoMemory = Unit {0}
IsAdditionFault name checked (Fault (addition.Program fault)) = checked ≡ Failed fault
IsAdditionFault name checked (Fault addition.Name) = ((program : Program) × (checked ≡ Passed program)) × (is_name name ≡ false)
