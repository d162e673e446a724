use Rattle.std.proofs.Common.{◌∙◌, sym, FitsSigned}
use Rattle.std.specs.Int.{w32}
use Rattle.std.proofs.lemmas.Int.{to_z-of_z}
use Rattle.bpf_vm.proofs.Stepping.{has_helper, can_call, done_follows, stale_follows, memory_follows}
use Rattle.bpf_vm.proofs.step.call.Goals as goal

pub unreachable-requires : goal.unreachable-requires
unreachable-requires g c =
    let fits : FitsSigned w32 c.args.number = c.ranges.number in
    has_helper c.args.schema.now (g.S.Store.answers_from c.args.view.now.store) c.args.number c.args.words.now c.args.view.now.own c.requires.can
    (sym (simp to_z-of_z at c.from_number.ensures.exact) ∙ c.in_default.is)

pub call-requires-clause-can : goal.call-requires-clause-can
call-requires-clause-can g c =
    let fits : FitsSigned w32 c.args.number = c.ranges.number in
    can_call c.args.schema.now (g.S.Store.answers_from c.args.view.now.store) c.args.number c.in-Some.helper c.args.words.now c.args.view.now.own
    (sym (simp to_z-of_z at c.from_number.ensures.exact) ∙ c.in-Some.is) c.requires.can

pub returns-in-Done-clause-follows : goal.returns-in-Done-clause-follows
returns-in-Done-clause-follows g c = λ s h v.
    let fits : FitsSigned w32 c.args.number = c.ranges.number in
    done_follows c.args.schema.now (g.S.Store.answers_from c.args.view.now.store) (g.S.Store.is_gone c.args.view.now.store) c.args.number c.in-Some.helper s c.call.new.words c.call.new.view.own
    (sym (simp to_z-of_z at c.from_number.ensures.exact) ∙ c.in-Some.is) (rw c.in-Done.is at c.call.ensures.follows s h v)

pub returns-in-Stale-clause-follows : goal.returns-in-Stale-clause-follows
returns-in-Stale-clause-follows g c = λ s h v.
    let fits : FitsSigned w32 c.args.number = c.ranges.number in
    stale_follows c.args.schema.now (g.S.Store.answers_from c.args.view.now.store) (g.S.Store.is_gone c.args.view.now.store) c.args.number c.in-Some.helper s c.call.new.words c.call.new.view.own
    (sym (simp to_z-of_z at c.from_number.ensures.exact) ∙ c.in-Some.is) (rw c.in-Stale.is at c.call.ensures.follows s h v)

pub returns-in-NoMemory-clause-follows : goal.returns-in-NoMemory-clause-follows
returns-in-NoMemory-clause-follows g c = λ s h v.
    let fits : FitsSigned w32 c.args.number = c.ranges.number in
    memory_follows c.args.schema.now (g.S.Store.answers_from c.args.view.now.store) (g.S.Store.is_gone c.args.view.now.store) c.args.number c.in-Some.helper s c.call.new.words c.call.new.view.own
    (sym (simp to_z-of_z at c.from_number.ensures.exact) ∙ c.in-Some.is) (rw c.in-NoMemory.is at c.call.ensures.follows s h v)
