use Rattle.std.proofs.Common.{◌∙◌, arith, length, ◌<◌}
use Rattle.bpf_verify.proofs.FlowLemmas.{first_pending, next_pending, cause_here, all_accepted}
use Rattle.bpf_verify.proofs.flow.scan.Goals as goal

pub loop-slot-init : goal.loop-slot-init
loop-slot-init g c = first_pending (record { program = c.args.code.now; tables = c.args.schema.now; args_len = c.args.args_len }) c.args.pending.now c.arrive.new.pending c.entry.result c.requires.empty c.arrive.auto.pending c.entry.ensures c.arrive.ensures

pub visit-requires-clause-short : goal.visit-requires-clause-short
visit-requires-clause-short g c = omega arith

pub returns-in-Some-clause-refused : goal.returns-in-Some-clause-refused
returns-in-Some-clause-refused g c =
    let inside : c.loop-slot.slot < length c.args.code.now = omega (arith, c.loop-slot.invariant.long) in
    (cause_here (record { program = c.args.code.now; tables = c.args.schema.now; args_len = c.args.args_len }) _ _ c.visit.result c.loop-slot.invariant inside c.visit.ensures.cause ∙ c.in-Some.is, c.loop-slot.invariant.behind)

pub loop-slot-preserved : goal.loop-slot-preserved
loop-slot-preserved g c =
    let inside : c.loop-slot.slot < length c.args.code.now = omega (arith, c.loop-slot.invariant.long) in
    next_pending (record { program = c.args.code.now; tables = c.args.schema.now; args_len = c.args.args_len }) c.loop-slot.slot c.loop-slot.pending c.visit.new.pending c.loop-slot.invariant inside c.visit.auto.pending
    (cause_here (record { program = c.args.code.now; tables = c.args.schema.now; args_len = c.args.args_len }) _ _ c.visit.result c.loop-slot.invariant inside c.visit.ensures.cause ∙ c.in_default.is)
    (c.visit.ensures.sent c.in_default.is)

pub returns-clause-accepted : goal.returns-clause-accepted
returns-clause-accepted g c = all_accepted (record { program = c.args.code.now; tables = c.args.schema.now; args_len = c.args.args_len }) c.loop-slot.slot (omega (arith, c.loop-slot.invariant.long)) c.loop-slot.invariant.behind
