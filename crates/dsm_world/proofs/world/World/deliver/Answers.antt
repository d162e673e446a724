use Rattle.std.proofs.Common.{◌+◌, length, refl, sym, ap, subst, ◌∙◌, arith}
use Rattle.dsm_model.specs.declared.outcome.Outcome.TheVariants.{Delivered}
use Rattle.log_entry.specs.Kind.{entry_of}
use Rattle.std.proofs.lemmas.List.{length-map}
use Rattle.dsm_model.specs.World.{Deliver, IsStep}
use Rattle.replica.specs.Replica.{Replica, writes_in}
use Rattle.dsm_world.specs.System.{setting_of, world_of}
use Rattle.dsm_world.specs.Fields.{system_of, call_slots}
use Rattle.dsm_world.proofs.StepLemmas.{deliver_no_replica}
use Rattle.dsm_world.proofs.ReplicaLemmas.{with_one, none_to_deliver, stopped_before, delivered, delivered_replica, stops, stopped_replica, next_of, held_at, no_replica, no_further}
use Rattle.dsm_world.proofs.FieldLemmas.{step_kept, replica_consistent}
use Rattle.dsm_world.proofs.world.World.deliver.Goals as goal

pub returns-in_default-clause-step : goal.returns-in_default-clause-step
returns-in_default-clause-step g c =
    rw (← c.self.view_is) (
    let s = system_of c.self.inside in
    deliver_no_replica (setting_of s) (world_of s) c.args.replica (no_replica s c.args.replica c.len.result (let e = c.len.ensures in omega arith) (c.in_default.ensures.none refl))
    )

pub returns-in_default-get-clause-step : goal.returns-in_default-get-clause-step
returns-in_default-get-clause-step g c =
    rw (← c.self.view_is) (
    let s = system_of c.self.inside in
    let old = c.index-replica.result.now in
    let position = c.position-position.ensures in
    let entries = c.deref.ensures.value in
    let far = no_further c.position-position.result (length c.deref.result.now) c.in_default-get.ensures.lookup.0 in
    none_to_deliver s c.args.replica c.in-Some.at old c.each_call_has_a_verdict.ensures.beyond c.in-Some.ensures.there.0 (held_at c.self.inside c.len.result c.in-Some.at old c.in-Some.ensures.there.1 c.len.ensures c.index-replica.ensures) (let many = length-map c.self.inside.entries.items entry_of in let same = ap (λ xs. length xs) entries in omega arith)
    )

pub returns-then-stopped-clause-step : goal.returns-then-stopped-clause-step
returns-then-stopped-clause-step g c =
    rw (← c.self.view_is) (
    let s = system_of c.self.inside in
    let old = c.index-replica.result.now in
    let x = next_of c.self.inside c.len.result c.in-Some.at c.position-position.result old old c.deref.result.now c.in-Some-get.entry.now c.self.invariant c.in-Some.ensures.there.1 c.len.ensures c.index-replica.ensures c.index-replica.ensures c.deref.ensures.value c.position-position.ensures c.in-Some-get.ensures.lookup.3.0 c.in-Some-get.ensures.lookup.1 in
    stopped_before s (call_slots c.self.inside) c.args.replica c.in-Some.at old (entry_of c.in-Some-get.entry.now) c.each_call_has_a_verdict.ensures.within c.self.invariant.together c.in-Some.ensures.there.0 x.at x.next
    (sym c.stopped.ensures ∙ c.if-stopped.true)
    )

pub deliver-requires-clause-placed : goal.deliver-requires-clause-placed
deliver-requires-clause-placed g c =
    let x = next_of c.self.inside c.len.result c.in-Some.at c.position-position.result c.index-replica.result.now c.index_mut.result.now c.deref.result.now c.in-Some-get.entry.now c.self.invariant c.in-Some.ensures.there.1 c.len.ensures c.index-replica.ensures c.index_mut.ensures.value c.deref.ensures.value c.position-position.ensures c.in-Some-get.ensures.lookup.3.0 c.in-Some-get.ensures.lookup.1 in
    x.placed

pub deliver-requires-clause-named : goal.deliver-requires-clause-named
deliver-requires-clause-named g c =
    let x = next_of c.self.inside c.len.result c.in-Some.at c.position-position.result c.index-replica.result.now c.index_mut.result.now c.deref.result.now c.in-Some-get.entry.now c.self.invariant c.in-Some.ensures.there.1 c.len.ensures c.index-replica.ensures c.index_mut.ensures.value c.deref.ensures.value c.position-position.ensures c.in-Some-get.ensures.lookup.3.0 c.in-Some-get.ensures.lookup.1 in
    x.named

pub deliver-requires-clause-room : goal.deliver-requires-clause-room
deliver-requires-clause-room g c =
    let x = next_of c.self.inside c.len.result c.in-Some.at c.position-position.result c.index-replica.result.now c.index_mut.result.now c.deref.result.now c.in-Some-get.entry.now c.self.invariant c.in-Some.ensures.there.1 c.len.ensures c.index-replica.ensures c.index_mut.ensures.value c.deref.ensures.value c.position-position.ensures c.in-Some-get.ensures.lookup.3.0 c.in-Some-get.ensures.lookup.1 in
    let few = x.few in
    omega arith

pub deliver-requires-clause-fit : goal.deliver-requires-clause-fit
deliver-requires-clause-fit g c =
    let x = next_of c.self.inside c.len.result c.in-Some.at c.position-position.result c.index-replica.result.now c.index_mut.result.now c.deref.result.now c.in-Some-get.entry.now c.self.invariant c.in-Some.ensures.there.1 c.len.ensures c.index-replica.ensures c.index_mut.ensures.value c.deref.ensures.value c.position-position.ensures c.in-Some-get.ensures.lookup.3.0 c.in-Some-get.ensures.lookup.1 in
    c.tables_take_the_schemas_writes.ensures.fit c.self.inside.catalogue.tables c.index_mut.result.now.versions (writes_in (entry_of c.in-Some-get.entry.now)) x.tables x.writes

pub overflow_add-result : goal.overflow_add-result
overflow_add-result g c =
    let x = next_of c.self.inside c.len.result c.in-Some.at c.position-position.result c.index-replica.result.now c.index_mut.result.now c.deref.result.now c.in-Some-get.entry.now c.self.invariant c.in-Some.ensures.there.1 c.len.ensures c.index-replica.ensures c.index_mut.ensures.value c.deref.ensures.value c.position-position.ensures c.in-Some-get.ensures.lookup.3.0 c.in-Some-get.ensures.lookup.1 in
    let few = x.few in
    let reached = x.position in
    omega arith

pub returns-clause-step : goal.returns-clause-step
returns-clause-step g c =
    rw (← c.self.view_is) (
    let s = system_of c.self.inside in
    let old = c.index_mut.result.now in
    let e = c.in-Some-get.entry.now in
    let x = next_of c.self.inside c.len.result c.in-Some.at c.position-position.result c.index-replica.result.now c.index_mut.result.now c.deref.result.now c.in-Some-get.entry.now c.self.invariant c.in-Some.ensures.there.1 c.len.ensures c.index-replica.ensures c.index_mut.ensures.value c.deref.ensures.value c.position-position.ensures c.in-Some-get.ensures.lookup.3.0 c.in-Some-get.ensures.lookup.1 in
    let new = c.deliver.new.self in
    subst (λ n. IsStep (setting_of s) (world_of s) (Deliver c.args.replica) (Delivered (n + 1) c.in-Ok.verdict) (world_of (with_one s c.in-Some.at new))) (sym x.position)
    (delivered s (call_slots c.self.inside) c.args.replica c.in-Some.at old new (entry_of e) c.in-Ok.verdict c.a_log_only_grows.ensures.verdicts c.self.invariant.together c.in-Some.ensures.there.0 x.at x.next
    (ap (λ (r : Replica). r.stopped) (sym x.same) ∙ sym c.stopped.ensures ∙ c.if-stopped.false) c.in-Ok.ensures.delivered)
    )

pub invariant_of-self-2 : goal.invariant_of-self-2
invariant_of-self-2 g c =
    let s = system_of c.self.inside in
    let old = c.index_mut.result.now in
    let x = next_of c.self.inside c.len.result c.in-Some.at c.position-position.result c.index-replica.result.now c.index_mut.result.now c.deref.result.now c.in-Some-get.entry.now c.self.invariant c.in-Some.ensures.there.1 c.len.ensures c.index-replica.ensures c.index_mut.ensures.value c.deref.ensures.value c.position-position.ensures c.in-Some-get.ensures.lookup.3.0 c.in-Some-get.ensures.lookup.1 in
    replica_consistent c.self.inside _ c.in-Some.at c.deliver.new.self c.self.invariant (refl, refl, refl, refl)
    (delivered_replica s (call_slots c.self.inside) c.in-Some.at old c.deliver.new.self (entry_of c.in-Some-get.entry.now) c.in-Ok.verdict c.self.invariant.together x.at x.next c.in-Ok.ensures.delivered (λ past is. c.in-Ok.ensures.one_more (setting_of s) past is x.own))
    (step_kept s c.args.self.now _ _ _ c.self.view_is (c.steps_keep_a_world.ensures.step (setting_of c.args.self.now)) tt (returns-clause-step g c) c.self.invariant.together.world)

pub returns-in_default-deliver-clause-step : goal.returns-in_default-deliver-clause-step
returns-in_default-deliver-clause-step g c =
    rw (← c.self.view_is) (
    let s = system_of c.self.inside in
    let old = c.index_mut.result.now in
    let e = c.in-Some-get.entry.now in
    let x = next_of c.self.inside c.len.result c.in-Some.at c.position-position.result c.index-replica.result.now c.index_mut.result.now c.deref.result.now c.in-Some-get.entry.now c.self.invariant c.in-Some.ensures.there.1 c.len.ensures c.index-replica.ensures c.index_mut.ensures.value c.deref.ensures.value c.position-position.ensures c.in-Some-get.ensures.lookup.3.0 c.in-Some-get.ensures.lookup.1 in
    stops s (call_slots c.self.inside) c.args.replica c.in-Some.at old c.deliver.new.self (entry_of e) c.each_call_has_a_verdict.ensures.within c.self.invariant.together c.in-Some.ensures.there.0 x.at x.next
    (ap (λ (r : Replica). r.stopped) (sym x.same) ∙ sym c.stopped.ensures ∙ c.if-stopped.false) c.in_default-deliver.ensures.stopped
    )

pub invariant_of-self : goal.invariant_of-self
invariant_of-self g c =
    let s = system_of c.self.inside in
    let old = c.index_mut.result.now in
    let x = next_of c.self.inside c.len.result c.in-Some.at c.position-position.result c.index-replica.result.now c.index_mut.result.now c.deref.result.now c.in-Some-get.entry.now c.self.invariant c.in-Some.ensures.there.1 c.len.ensures c.index-replica.ensures c.index_mut.ensures.value c.deref.ensures.value c.position-position.ensures c.in-Some-get.ensures.lookup.3.0 c.in-Some-get.ensures.lookup.1 in
    replica_consistent c.self.inside _ c.in-Some.at c.deliver.new.self c.self.invariant (refl, refl, refl, refl)
    (stopped_replica s (call_slots c.self.inside) c.in-Some.at old c.deliver.new.self c.self.invariant.together x.at c.in_default-deliver.ensures.stopped (c.in_default-deliver.ensures.no_more (setting_of s)))
    (step_kept s c.args.self.now _ _ _ c.self.view_is (c.steps_keep_a_world.ensures.step (setting_of c.args.self.now)) tt (returns-in_default-deliver-clause-step g c) c.self.invariant.together.world)
