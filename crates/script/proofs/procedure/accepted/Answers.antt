use Rattle.std.proofs.Common.{inr, subst}
use Rattle.bpf_verify.specs.Refusal.{RefusedBy}
use Rattle.script.specs.Settings.{program_for}
use Rattle.script.proofs.AcceptanceLemmas.{verified_refused}
use Rattle.script.proofs.procedure.accepted.Goals as goal

pub returns-in-Err-At-clause-fault : goal.returns-in-Err-At-clause-fault
returns-in-Err-At-clause-fault g c =
    let p = program_for c.args.schema.now c.args.args_len c.args.code in
    inr (verified_refused p c.in-Err-At.slot c.in-Err-At.cause (subst (RefusedBy p) c.in-Err-At.field-0-is c.in-Err-At.ensures.refused))
