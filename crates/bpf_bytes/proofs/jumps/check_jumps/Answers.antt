use Rattle.std.proofs.Common.{arith}
use Rattle.std.proofs.lemmas.Result.{err_from_is_err_and}
use Rattle.bpf_bytes.proofs.JumpLemmas.{no_fault_here, fault_here, no_fault_left}
use Rattle.bpf_bytes.proofs.jumps.check_jumps.Goals as goal

pub loop-slot-preserved : goal.loop-slot-preserved
loop-slot-preserved c = no_fault_here c.args.slots.now c.loop-slot.slot (omega arith) c.in_ok-check_jump.ensures.none c.loop-slot.invariant

pub returns-in_err-check_jump-clause-fault : goal.returns-in_err-check_jump-clause-fault
returns-in_err-check_jump-clause-fault c =
    let ended = fault_here c.args.slots.now c.loop-slot.slot c.in_err-check_jump.field-0.0 (omega arith) c.in_err-check_jump.ensures.fault c.loop-slot.invariant in
    let p = err_from_is_err_and c.from_residual.result c.from_residual.ensures.1 in
    rw (p.1, p.2) ended

pub returns-clause-none : goal.returns-clause-none
returns-clause-none c = no_fault_left c.args.slots.now c.loop-slot.slot (omega arith) c.loop-slot.invariant
