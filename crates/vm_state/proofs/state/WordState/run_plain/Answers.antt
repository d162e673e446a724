use Rattle.std.proofs.Common.{◌≡◌, ℕ, ◌+◌, sym, ap, subst, ◌∙◌, arith}
use Rattle.vm_state.specs.Words.{Words}
use Rattle.vm_state.specs.Access.{at_slot}
use Rattle.vm_state.specs.Plain.{Reaches}
use Rattle.vm_state.proofs.RunningOn.{held_here, can_here, first_reached, inside}
use Rattle.vm_state.proofs.state.WordState.run_plain.Goals as goal

pub loop-second-init : goal.loop-second-init
loop-second-init g c = record {
  laid = c.requires.layout;
  short = c.known.ensures.not_long;
  can = can_here c.args.code.now c.args.self.now c.slot-at.result c.slot-at.ensures c.requires.can;
  reaches = λ tables s h never. first_reached c.args.code.now tables s (at_slot c.slot-at.result c.args.self.now) (held_here s c.args.self.now c.slot-at.result c.slot-at.ensures h);
  few = omega arith;
}

pub returns-in_default-clause-reaches : goal.returns-in_default-clause-reaches
returns-in_default-clause-reaches g c = λ tables s h never.
    let same : c.set_slot.new.self ≡ at_slot c.loop-second.at c.loop-second.self = c.set_slot.ensures ∙ ap (λ (m : Words). at_slot c.loop-second.at m) c.in_default.ensures.same in
    subst (λ (m : Words). Reaches c.args.code.now tables s c.loop-second.count m) (sym same) (c.loop-second.invariant.reaches tables s h never)

pub returns-in_default-execute_at-clause-reaches : goal.returns-in_default-execute_at-clause-reaches
returns-in_default-execute_at-clause-reaches g c = λ tables s h never.
    let second = c.in-Some.second in
    let same : c.set_slot-in_default-execute_at.new.self ≡ at_slot second c.execute_at.new.self = c.set_slot-in_default-execute_at.ensures ∙ ap (λ (m : Words). at_slot second m) c.in_default-execute_at.ensures.same in
    subst (λ (m : Words). Reaches c.args.code.now tables s (c.loop-second.count + 1) m) (sym same)
    (c.in-Some.ensures.runs_on.reaches tables s c.loop-second.count never (c.loop-second.invariant.reaches tables s h never))

pub overflow_add-result : goal.overflow_add-result
overflow_add-result g c =
    let i = inside c.args.code.now c.args.layout.now c.loop-second.at c.loop-second.self c.loop-second.invariant.laid c.loop-second.invariant.can in
    let long = c.loop-second.invariant.laid.long in
    let few = c.loop-second.invariant.few in
    omega (arith, i, long, few, c.loop-second.invariant.short)

pub overflow_add-count : goal.overflow_add-count
overflow_add-count g c =
    let i = inside c.args.code.now c.args.layout.now c.loop-second.at c.loop-second.self c.loop-second.invariant.laid c.loop-second.invariant.can in
    let long = c.loop-second.invariant.laid.long in
    let few = c.loop-second.invariant.few in
    omega (arith, i, long, few, c.loop-second.invariant.short)

pub loop-second-smaller : goal.loop-second-smaller
loop-second-smaller g c =
    let i = inside c.args.code.now c.args.layout.now c.loop-second.at c.loop-second.self c.loop-second.invariant.laid c.loop-second.invariant.can in
    omega (arith, i, c.in-Some.ensures.runs_on.further, c.in-Some-execute_at.ensures.runs_on.further)

pub loop-second-preserved : goal.loop-second-preserved
loop-second-preserved g c =
    let first = c.in-Some.ensures.runs_on in
    let last = c.in-Some-execute_at.ensures.runs_on in
    let few = c.loop-second.invariant.few in
    let two : c.loop-second.count + 1 + 1 ≡ c.loop-second.count + 2 = omega arith in
    record {
      laid = c.loop-second.invariant.laid;
      short = c.loop-second.invariant.short;
      can = last.can;
      reaches = λ tables s h never.
          subst (λ (k : ℕ). Reaches c.args.code.now tables s k (at_slot c.in-Some-execute_at.to c.execute_at-in-loop-second.new.self)) two
          (last.reaches tables s (c.loop-second.count + 1) never (first.reaches tables s c.loop-second.count never (c.loop-second.invariant.reaches tables s h never)));
      few = omega (arith, few, first.further, last.further);
    }
