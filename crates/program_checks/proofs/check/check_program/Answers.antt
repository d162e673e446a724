use Rattle.std.proofs.Common.{◌≡◌}
use Rattle.bpf_verify.specs.Flow.{Procedure, IsAccepted}
use Rattle.program_checks.specs.ProgramCheck.{Passed}
use Rattle.program_checks.specs.declared.fault.ProgramFault.{ProgramFault}
use Rattle.schema.specs.declared.or_no_memory.OrNoMemory.{OrNoMemory}
use Rattle.program_checks.specs.Check.{check_of}
use Rattle.program_checks.specs.Fault.{IsFaultOf, IsRefusedFor}
use Rattle.program_checks.proofs.CheckLemmas.{verified, ok_then, err_then, passed_for, fault_of}
use Rattle.program_checks.proofs.check.check_program.Goals as goal

pub returns-in-Ok-clause-passed : goal.returns-in-Ok-clause-passed
returns-in-Ok-clause-passed g c =
    ok_then (λ (p : Procedure). p ≡ verified c.args.schema.now c.args.args_len c.in-Ok.code) IsAccepted
    (λ (p : Procedure). check_of c.args.schema.now c.args.args_len c.args.bytes.now ≡ Passed p.program) c.verified.result
    (λ p given accepted. passed_for c.args.schema.now c.args.args_len c.args.bytes.now c.in-Ok.code p c.in-Ok.ensures.exact given accepted)
    c.verified.ensures.given c.verified.ensures.accepted

pub returns-in-Ok-clause-refused : goal.returns-in-Ok-clause-refused
returns-in-Ok-clause-refused g c =
    err_then (IsRefusedFor (verified c.args.schema.now c.args.args_len c.in-Ok.code)) (IsFaultOf (check_of c.args.schema.now c.args.args_len c.args.bytes.now)) c.verified.result
    (λ (fault : OrNoMemory ProgramFault) h. fault_of c.args.schema.now c.args.args_len c.args.bytes.now c.in-Ok.code fault c.in-Ok.ensures.exact h)
    c.verified.ensures.refused
