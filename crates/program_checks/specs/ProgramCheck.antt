-- What the check of a program that is to be added came to.
use Rattle.bpf_code.specs.Program.{Program}
use Rattle.program_checks.specs.declared.fault.ProgramFault.{ProgramFault}

pub data ProgramCheck : Type 0 where
  Passed : Program → ProgramCheck
  Failed : ProgramFault → ProgramCheck
