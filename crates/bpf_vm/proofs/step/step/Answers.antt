use Rattle.std.proofs.Common.{◌≡◌, ◌≤◌, ◌∙◌, sym, length, Some, arith}
use Rattle.bpf_code.specs.Program.{instruction_at}
use Rattle.bpf_vm.proofs.Stepping.{must_be, can_execute, slot_inside, step_follows}
use Rattle.bpf_vm.proofs.step.step.Goals as goal

pub unreachable-requires : goal.unreachable-requires
unreachable-requires g c =
    must_be c.args.procedure.now (g.S.Store.answers_from c.args.view.now.store) c.args.words.now c.args.view.now.own c.requires
    (sym (rw (c.code.ensures, c.slot-slot.ensures) at c.at.ensures.instruction) ∙ c.in_default.is)

pub execute-requires-clause-slot : goal.execute-requires-clause-slot
execute-requires-clause-slot g c =
    let at : instruction_at c.args.procedure.now.program c.args.words.now.slot ≡ Some c.in-Some.instruction =
    sym (rw (c.code.ensures, c.slot-slot.ensures) at c.at.ensures.instruction) ∙ c.in-Some.is in
    let inside = slot_inside c.args.procedure.now.program c.args.words.now.slot c.in-Some.instruction at in
    let short : length c.args.procedure.now.program ≤ 4096 = rw c.code.ensures at c.at.ensures.program.not_long in
    omega (arith, inside, short)

pub execute-requires-clause-can : goal.execute-requires-clause-can
execute-requires-clause-can g c =
    let at : instruction_at c.args.procedure.now.program c.args.words.now.slot ≡ Some c.in-Some.instruction =
    sym (rw (c.code.ensures, c.slot-slot.ensures) at c.at.ensures.instruction) ∙ c.in-Some.is in
    rw c.schema.ensures
    (can_execute c.args.procedure.now (g.S.Store.answers_from c.args.view.now.store) c.args.words.now c.args.view.now.own c.in-Some.instruction c.requires at)

pub returns-clause-follows : goal.returns-clause-follows
returns-clause-follows g c = λ s h v.
    let at : instruction_at c.args.procedure.now.program c.args.words.now.slot ≡ Some c.in-Some.instruction =
    sym (rw (c.code.ensures, c.slot-slot.ensures) at c.at.ensures.instruction) ∙ c.in-Some.is in
    step_follows c.args.procedure.now (g.S.Store.answers_from c.args.view.now.store) (g.S.Store.is_gone c.args.view.now.store) s c.args.words.now c.execute.new.words c.execute.new.view.own c.in-Some.instruction c.execute.result h at
    (rw c.schema.ensures at c.execute.ensures.follows s h v)
