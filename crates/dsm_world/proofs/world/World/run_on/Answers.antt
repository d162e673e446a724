use Rattle.std.proofs.Common.{◌≡◌, cond, false, map, option_map, slice_set, Some, None, refl, sym, ap, subst, ◌∙◌, arith}
use Rattle.log_model.specs.Entries.{items_of}
use Rattle.dsm_model.specs.World.{Turn as TurnStep, IsStep}
use Rattle.replica.specs.Replica.{Replica}
use Rattle.rows_mv.specs.Versions.{AnswersFrom}
use Rattle.world_calls.specs.OpenCall.{open_call_of}
use Rattle.world_calls.specs.declared.open_call.OpenCall.{OpenCall as OpenCallState}
use Rattle.dsm_world.specs.System.{setting_of, world_of}
use Rattle.dsm_world.specs.Fields.{system_of, call_slots}
use Rattle.dsm_world.proofs.Numbered.{get_lt, set_twice}
use Rattle.dsm_world.proofs.StepLemmas.{turn_no_call}
use Rattle.dsm_world.proofs.CallLemmas.{with_slots, no_call, open_facts, can_turn_held, held_replica, turns_taken, place_there, found_here}
use Rattle.dsm_world.proofs.FieldLemmas.{execution_kept, unchanged_consistent, over_consistent, put_consistent}
use Rattle.dsm_world.proofs.world.World.run_on.Goals as goal

pub returns-in_default-clause-turns : goal.returns-in_default-clause-turns
returns-in_default-clause-turns g c =
    rw (← c.self.view_is) (
    let s = system_of c.self.inside in
    let is =
    subst (λ xs. IsStep (setting_of s) (world_of s) (TurnStep c.args.call) _ (world_of (with_slots s (map (λ slot. option_map (λ b. b.value) slot) xs)))) (sym (c.in_default.ensures.unchanged refl))
    (turn_no_call (setting_of s) (world_of s) c.args.call (no_call s (call_slots c.self.inside) c.args.call refl (c.in_default.ensures.none refl))) in
    (0, omega arith, λ one. refl, is)
    )

pub unreachable-requires : goal.unreachable-requires
unreachable-requires g c =
    let s = system_of c.self.inside in
    let f = open_facts s (call_slots c.self.inside) c.args.call c.in-Some.at c.in-Some.open_call.value c.self.invariant.together c.in-Some.ensures.place c.in-Some.ensures.stood in
    let same = held_replica s c.args.call c.in-Some.open_call.value f c.index-replica.result.now c.deref.result.now c.deref.ensures c.index-replica.ensures in
    let bad = c.in_default-by_number.ensures
    ∙ found_here s (call_slots c.self.inside) c.args.call c.in-Some.open_call.value f c.index-replica.result.now c.procedures.result.now c.deref-2.result.now.procedure c.replicas_follow_the_log.ensures.procedures c.self.invariant.together same c.procedures.ensures (ap (λ (x : OpenCallState _). x.procedure) c.deref-2.ensures) in
    cc

pub overflow_sub-deref : goal.overflow_sub-deref
overflow_sub-deref g c =
    let s = system_of c.self.inside in
    let f = open_facts s (call_slots c.self.inside) c.args.call c.in-Some.at c.in-Some.open_call.value c.self.invariant.together c.in-Some.ensures.place c.in-Some.ensures.stood in
    let place = ap (λ (o : OpenCallState _). o.replica) c.deref.ensures ∙ f.place in
    omega arith

pub index-replica-requires : goal.index-replica-requires
index-replica-requires g c =
    let s = system_of c.self.inside in
    let f = open_facts s (call_slots c.self.inside) c.args.call c.in-Some.at c.in-Some.open_call.value c.self.invariant.together c.in-Some.ensures.place c.in-Some.ensures.stood in
    let place = ap (λ (o : OpenCallState _). o.replica) c.deref.ensures ∙ f.place in
    let lt = get_lt s.replicas f.j f.r f.stands in
    omega arith

pub at-store-requires : goal.at-store-requires
at-store-requires g c =
    let s = system_of c.self.inside in
    let f = open_facts s (call_slots c.self.inside) c.args.call c.in-Some.at c.in-Some.open_call.value c.self.invariant.together c.in-Some.ensures.place c.in-Some.ensures.stood in
    let position = ap (λ (r : Replica). r.position) (held_replica s c.args.call c.in-Some.open_call.value f c.index-replica.result.now c.deref.result.now c.deref.ensures c.index-replica.ensures) in
    let snapshot = ap (λ (o : OpenCallState _). o.snapshot) c.deref-3.ensures in
    let begun = f.begun in
    omega arith

pub take_turns-answer-requires : goal.take_turns-answer-requires
take_turns-answer-requires g c =
    let s = system_of c.self.inside in
    let x = can_turn_held s (call_slots c.self.inside) c.args.call c.in-Some.at c.in-Some.open_call.value c.in-Some-by_number.accepted.now (λ rows. c.at-store.result.gone ≡ false → AnswersFrom c.at-store.result.versions.now.tables c.at-store.result.position rows)
    c.index-replica.result.now c.procedures.result.now c.deref.result.now c.deref-2.result.now c.deref-3.result.now c.deref_mut.result.now c.entries_suffice.ensures.rows c.replicas_follow_the_log.ensures.procedures c.self.invariant.together c.in-Some.ensures.place c.in-Some.ensures.stood
    c.deref.ensures c.deref-2.ensures c.deref-3.ensures c.deref_mut.ensures.value c.index-replica.ensures c.procedures.ensures c.in-Some-by_number.ensures c.at-store.ensures.answers in
    (setting_of s, items_of s.entries, x.can)

pub returns-then-not-stays_open-clause-turns : goal.returns-then-not-stays_open-clause-turns
returns-then-not-stays_open-clause-turns g c =
    rw (← c.self.view_is) (
    let x = can_turn_held (system_of c.self.inside) (call_slots c.self.inside) c.args.call c.in-Some.at c.in-Some.open_call.value c.in-Some-by_number.accepted.now (λ rows. c.at-store.result.gone ≡ false → AnswersFrom c.at-store.result.versions.now.tables c.at-store.result.position rows)
    c.index-replica.result.now c.procedures.result.now c.deref.result.now c.deref-2.result.now c.deref-3.result.now c.deref_mut.result.now c.entries_suffice.ensures.rows c.replicas_follow_the_log.ensures.procedures c.self.invariant.together c.in-Some.ensures.place c.in-Some.ensures.stood
    c.deref.ensures c.deref-2.ensures c.deref-3.ensures c.deref_mut.ensures.value c.index-replica.ensures c.procedures.ensures c.in-Some-by_number.ensures c.at-store.ensures.answers in
    let (before, few, one, are) = c.take_turns-answer.ensures.turns (setting_of (system_of c.self.inside)) (items_of (system_of c.self.inside).entries) x.can in (
      before,
      few,
      one,
      turns_taken (system_of c.self.inside) (call_slots c.self.inside) _ c.args.call c.in-Some.at c.in-Some.open_call.value c.take_turns-answer.new.open_call x.facts before c.take_turns-answer.result _ None c.at-store.result.gone c.index-replica.result.now c.deref-3.result.now c.deref_mut.result.now
          c.self.invariant.together c.in-Some.ensures.place x.same c.deref-3.ensures c.deref_mut.ensures.value c.at-store.ensures.gone are
          (ap (λ b. cond b (Some (open_call_of c.take_turns-answer.new.open_call)) None) (sym c.if-not-stays_open.true ∙ c.stays_open.ensures))
          c.outcome_of.ensures c.in-Some.ensures.taken,
    )
    )

pub invariant_of-self-then-not-stays_open : goal.invariant_of-self-then-not-stays_open
invariant_of-self-then-not-stays_open g c =
    over_consistent c.self.inside _ c.in-Some.at c.self.invariant (refl, refl, refl) c.in-Some.ensures.taken
    (execution_kept _ c.args.self.now c.args.call _ _ _ c.self.view_is (c.steps_keep_a_world.ensures.step (setting_of c.args.self.now)) (returns-then-not-stays_open-clause-turns g c).3 c.self.invariant.together.world)

pub put_call-requires : goal.put_call-requires
put_call-requires g c =
    let lt = place_there (call_slots c.self.inside) c.in-Some.at c.in-Some.open_call.value (λ slot. option_map (λ b. b.value) slot) c.take_call.new.calls.items c.in-Some.ensures.stood c.in-Some.ensures.taken in
    omega arith

pub returns-clause-turns : goal.returns-clause-turns
returns-clause-turns g c =
    rw (← c.self.view_is) (
    let s = system_of c.self.inside in
    let x = can_turn_held s (call_slots c.self.inside) c.args.call c.in-Some.at c.in-Some.open_call.value c.in-Some-by_number.accepted.now (λ rows. c.at-store.result.gone ≡ false → AnswersFrom c.at-store.result.versions.now.tables c.at-store.result.position rows)
    c.index-replica.result.now c.procedures.result.now c.deref.result.now c.deref-2.result.now c.deref-3.result.now c.deref_mut.result.now c.entries_suffice.ensures.rows c.replicas_follow_the_log.ensures.procedures c.self.invariant.together c.in-Some.ensures.place c.in-Some.ensures.stood
    c.deref.ensures c.deref-2.ensures c.deref-3.ensures c.deref_mut.ensures.value c.index-replica.ensures c.procedures.ensures c.in-Some-by_number.ensures c.at-store.ensures.answers in
    let (before, few, one, are) = c.take_turns-answer.ensures.turns (setting_of s) (items_of s.entries) x.can in (
      before,
      few,
      one,
      turns_taken s (call_slots c.self.inside) _ c.args.call c.in-Some.at c.in-Some.open_call.value c.take_turns-answer.new.open_call x.facts before c.take_turns-answer.result _ (Some c.take_turns-answer.new.open_call) c.at-store.result.gone c.index-replica.result.now c.deref-3.result.now c.deref_mut.result.now
          c.self.invariant.together c.in-Some.ensures.place x.same c.deref-3.ensures c.deref_mut.ensures.value c.at-store.ensures.gone are
          (ap (λ b. cond b (Some (open_call_of c.take_turns-answer.new.open_call)) None) (sym c.if-not-stays_open.false ∙ c.stays_open.ensures))
          c.outcome_of-2.ensures (c.put_call.ensures ∙ ap (λ xs. slice_set xs c.in-Some.at (Some c.take_turns-answer.new.open_call)) c.in-Some.ensures.taken ∙ set_twice (call_slots c.self.inside) c.in-Some.at None (Some c.take_turns-answer.new.open_call)),
    )
    )

pub invariant_of-self-2 : goal.invariant_of-self-2
invariant_of-self-2 g c =
    let s = system_of c.self.inside in
    let x = can_turn_held s (call_slots c.self.inside) c.args.call c.in-Some.at c.in-Some.open_call.value c.in-Some-by_number.accepted.now (λ rows. c.at-store.result.gone ≡ false → AnswersFrom c.at-store.result.versions.now.tables c.at-store.result.position rows)
    c.index-replica.result.now c.procedures.result.now c.deref.result.now c.deref-2.result.now c.deref-3.result.now c.deref_mut.result.now c.entries_suffice.ensures.rows c.replicas_follow_the_log.ensures.procedures c.self.invariant.together c.in-Some.ensures.place c.in-Some.ensures.stood
    c.deref.ensures c.deref-2.ensures c.deref-3.ensures c.deref_mut.ensures.value c.index-replica.ensures c.procedures.ensures c.in-Some-by_number.ensures c.at-store.ensures.answers in
    let follows = (c.take_turns-answer.ensures.goes_on (setting_of s) (items_of s.entries) x.can (sym c.stays_open.ensures ∙ c.if-not-stays_open.false)).follows in
    put_consistent c.self.inside _ c.in-Some.at c.take_turns-answer.new.open_call c.self.invariant (refl, refl, refl)
    (c.put_call.ensures ∙ ap (λ xs. slice_set xs c.in-Some.at (Some c.take_turns-answer.new.open_call)) c.in-Some.ensures.taken ∙ set_twice (call_slots c.self.inside) c.in-Some.at None (Some c.take_turns-answer.new.open_call)) follows
    (execution_kept _ c.args.self.now c.args.call _ _ _ c.self.view_is (c.steps_keep_a_world.ensures.step (setting_of c.args.self.now)) (returns-clause-turns g c).3 c.self.invariant.together.world)

-- there was no call, and all is as it was
pub invariant_of-self : goal.invariant_of-self
invariant_of-self g c =
    unchanged_consistent c.self.inside _ c.self.invariant (refl, refl, refl) (ap (λ xs. map (λ slot. option_map (λ b. b.value) slot) xs) (c.in_default.ensures.unchanged refl))
