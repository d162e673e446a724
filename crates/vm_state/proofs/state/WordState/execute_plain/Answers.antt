use Rattle.std.proofs.Common.{sym, subst}
use Rattle.bpf_code.specs.declared.instruction.Instruction.{Instruction}
use Rattle.bpf_semantics.specs.Step.{execute}
use Rattle.vm_state.specs.Words.{HoldsNext, CanRun}
use Rattle.vm_state.specs.Access.{at_slot}
use Rattle.vm_state.specs.Plain.{IsPlain}
use Rattle.vm_state.proofs.RunningOn.{held_here, can_run_here}
use Rattle.vm_state.proofs.state.WordState.execute_plain.Goals as goal

pub unreachable-requires : goal.unreachable-requires
unreachable-requires c = c.in_default.ensures.stops (subst IsPlain (sym c.of-flat.ensures) c.requires.plain)

pub execute_flat-requires-clause-can : goal.execute_flat-requires-clause-can
execute_flat-requires-clause-can c =
    subst (λ (i : Instruction). CanRun i (at_slot c.slot-at.result c.args.self.now)) (sym c.of-flat.ensures)
    (can_run_here c.args.instruction c.args.self.now c.slot-at.result c.slot-at.ensures c.requires.can)

pub returns : goal.returns
returns c = λ tables s h.
    let held = held_here s c.args.self.now c.slot-at.result c.slot-at.ensures h in
    rw c.set_slot.ensures
    (subst (λ (i : Instruction). HoldsNext (execute tables i s) (at_slot c.in-Some.to c.execute_flat.new.self)) c.of-flat.ensures
    (c.in-Some.ensures.goes_on.held tables s held))
