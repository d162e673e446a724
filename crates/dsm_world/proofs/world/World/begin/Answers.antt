use Rattle.std.proofs.Common.{◌≡◌, ◌+◌, map, option_map, Ok, Err, refl, sym, ap, subst, ◌∙◌, arith}
use Rattle.dsm_model.specs.declared.outcome.StepRefusal.{StepRefusal}
use Rattle.dsm_model.specs.declared.outcome.StepRefusal.TheVariants.{NoMemory}
use Rattle.dsm_model.specs.declared.outcome.Outcome.TheVariants.{Begun, Refused}
use Rattle.log_model.specs.Log.{by_number, procedures_after}
use Rattle.log_model.specs.Entries.{items_of}
use Rattle.dsm_model.specs.World.{Begin, IsStep}
use Rattle.world_calls.specs.OpenCall.{open_call_of}
use Rattle.dsm_world.specs.System.{setting_of, progress_of, world_of}
use Rattle.dsm_world.specs.Fields.{system_of, call_slots}
use Rattle.replica.proofs.EntryLemmas.{items_count}
use Rattle.dsm_world.proofs.StepLemmas.{begin_no_replica, begin_refused, begin_too_many, begin_without_memory}
use Rattle.dsm_world.proofs.ReplicaLemmas.{no_replica, has_reached}
use Rattle.dsm_world.proofs.CallLemmas.{with_slots, calls_counted, map_count, begins, few_calls}
use Rattle.dsm_world.proofs.BeginLemmas.{find}
use Rattle.dsm_world.proofs.FieldLemmas.{step_kept, unchanged_consistent, entered_consistent}
use Rattle.dsm_world.proofs.world.World.begin.Goals as goal

pub returns-in_default-clause-step : goal.returns-in_default-clause-step
returns-in_default-clause-step g c =
    rw (← c.self.view_is) (
    let s = system_of c.self.inside in
    begin_no_replica (setting_of s) (world_of s) c.args.replica c.args.procedure c.args.args.now c.args.request (no_replica s c.args.replica c.len.result (let e = c.len.ensures in omega arith) (c.in_default.ensures.none refl))
    )

pub returns-in-Err-clause-step : goal.returns-in-Err-clause-step
returns-in-Err-clause-step g c =
    rw (← c.self.view_is) (
    let s = system_of c.self.inside in
    let f = find s (call_slots c.self.inside) c.args.replica c.in-Some.at c.len.result c.index-held.result.now c.procedures.result.now c.args.procedure c.args.args.now c.args.request c.replicas_follow_the_log.ensures.procedures c.self.invariant.together c.in-Some.ensures.there.0 c.in-Some.ensures.there.1 (let e = c.len.ensures in omega arith) c.index-held.ensures c.procedures.ensures in
    subst (λ (refusal : StepRefusal). IsStep (setting_of s) (world_of s) (Begin c.args.replica c.args.procedure c.args.args.now c.args.request) (Refused refusal) (world_of s)) (sym c.from.ensures)
    (begin_refused (setting_of s) (world_of s) c.args.replica c.args.procedure c.args.args.now c.args.request (progress_of c.index-held.result.now) c.in-Err.refusal f.stands (f.answered (Err c.in-Err.refusal) c.in-Err.ensures.refused))
    )

pub returns-then-len-self-ge-MAX_CALLS-clause-step : goal.returns-then-len-self-ge-MAX_CALLS-clause-step
returns-then-len-self-ge-MAX_CALLS-clause-step g c =
    rw (← c.self.view_is) (
    let s = system_of c.self.inside in
    let f = find s (call_slots c.self.inside) c.args.replica c.in-Some.at c.len.result c.index-held.result.now c.procedures.result.now c.args.procedure c.args.args.now c.args.request c.replicas_follow_the_log.ensures.procedures c.self.invariant.together c.in-Some.ensures.there.0 c.in-Some.ensures.there.1 (let e = c.len.ensures in omega arith) c.index-held.ensures c.procedures.ensures in
    let (p, admitted) = c.in-Ok.ensures.admitted in
    let many = c.if-len-self-ge-MAX_CALLS.true in
    let calls = c.len-2.ensures in
    let counted = calls_counted c.self.inside c.self.invariant in
    begin_too_many (setting_of s) (world_of s) c.args.replica c.args.procedure c.args.args.now c.args.request (progress_of c.index-held.result.now) p f.stands (f.answered (Ok p) admitted) (omega arith)
    )

pub returns-in_default-begun-clause-step : goal.returns-in_default-begun-clause-step
returns-in_default-begun-clause-step g c =
    rw (← c.self.view_is) (
    let s = system_of c.self.inside in
    let f = find s (call_slots c.self.inside) c.args.replica c.in-Some.at c.len.result c.index-held.result.now c.procedures.result.now c.args.procedure c.args.args.now c.args.request c.replicas_follow_the_log.ensures.procedures c.self.invariant.together c.in-Some.ensures.there.0 c.in-Some.ensures.there.1 (let e = c.len.ensures in omega arith) c.index-held.ensures c.procedures.ensures in
    let (p, admitted) = c.in-Ok.ensures.admitted in
    begin_without_memory (setting_of s) (world_of s) c.args.replica c.args.procedure c.args.args.now c.args.request (progress_of c.index-held.result.now) p f.stands (f.answered (Ok p) admitted) (few_calls c.self.inside c.len-2.result c.self.invariant c.len-2.ensures c.if-len-self-ge-MAX_CALLS.false)
    )

pub returns-clause-step : goal.returns-clause-step
returns-clause-step g c =
    rw (← c.self.view_is) (
    let s = system_of c.self.inside in
    let f = find s (call_slots c.self.inside) c.args.replica c.in-Some.at c.len.result c.index-held.result.now c.procedures.result.now c.args.procedure c.args.args.now c.args.request c.replicas_follow_the_log.ensures.procedures c.self.invariant.together c.in-Some.ensures.there.0 c.in-Some.ensures.there.1 (let e = c.len.ensures in omega arith) c.index-held.ensures c.procedures.ensures in
    let (p, admitted) = c.in-Ok.ensures.admitted in
    let old = c.index-held.result.now in
    let number = c.len-3.result + 1 in
    let calls_3 = c.len-3.ensures in
    let slots = map_count (λ slot. option_map (λ b. b.value) slot) c.self.inside.calls.items in
    let snapshot = c.begin-snapshot.ensures in
    subst (λ n. IsStep (setting_of s) (world_of s) (Begin c.args.replica c.args.procedure c.args.args.now c.args.request) (Begun number n) (world_of (with_slots s (map (λ slot. option_map (λ b. b.value) slot) c.enter.new.calls.items)))) (sym snapshot)
    (subst (λ xs. IsStep (setting_of s) (world_of s) (Begin c.args.replica c.args.procedure c.args.args.now c.args.request) (Begun number old.position) (world_of (with_slots s xs))) (sym c.in-Ok-enter.ensures.entered)
    (begins s (call_slots c.self.inside) c.args.replica f.at c.args.procedure c.args.args.now c.args.request old p c.in-Ok-begun.open_call.value number c.self.invariant.together f.place f.there (f.answered (Ok p) admitted) (few_calls c.self.inside c.len-2.result c.self.invariant c.len-2.ensures c.if-len-self-ge-MAX_CALLS.false) (omega arith)
    (subst (λ n. open_call_of c.in-Ok-begun.open_call.value ≡ record { replica = c.args.replica; call = record { number = number; procedure = c.args.procedure; args = c.args.args.now; snapshot = n; request = c.args.request }; turns = 0 }) snapshot c.in-Ok-begun.ensures.begun)))
    )

pub invariant_of-self-2 : goal.invariant_of-self-2
invariant_of-self-2 g c =
    let s = system_of c.self.inside in
    let f = find s (call_slots c.self.inside) c.args.replica c.in-Some.at c.len.result c.index-held.result.now c.procedures.result.now c.args.procedure c.args.args.now c.args.request c.replicas_follow_the_log.ensures.procedures c.self.invariant.together c.in-Some.ensures.there.0 c.in-Some.ensures.there.1 (let e = c.len.ensures in omega arith) c.index-held.ensures c.procedures.ensures in
    let old = c.index-held.result.now in
    let (p, there, is) = f.program c.in-Ok.accepted.now c.in-Ok.ensures.program in
    let reached = has_reached s (call_slots c.self.inside) f.at old c.self.invariant.together f.there in
    let snapshot = c.begin-snapshot.ensures in
    let log = items_count s.entries in
    let rows = c.rows_fit_the_schema.ensures (setting_of s) (items_of s.entries) c.begin-snapshot.result c.self.invariant.together.entries.begins c.self.invariant.together.entries.log c.self.invariant.together.entries.items (omega arith) in
    let program = ap (λ n. by_number (procedures_after (setting_of s) (items_of s.entries) n) c.args.procedure) snapshot ∙ there in
    entered_consistent c.self.inside _ c.in-Ok-begun.open_call.value c.self.invariant (refl, refl, refl) c.in-Ok-enter.ensures.entered (c.in-Ok-begun.ensures.follows (setting_of s) (items_of s.entries) p program is rows)
    (step_kept s c.args.self.now _ _ _ c.self.view_is (c.steps_keep_a_world.ensures.step (setting_of c.args.self.now)) c.are_bytes.ensures (returns-clause-step g c) c.self.invariant.together.world)

pub returns-in_default-enter-clause-step : goal.returns-in_default-enter-clause-step
returns-in_default-enter-clause-step g c =
    rw (← c.self.view_is) (
    let s = system_of c.self.inside in
    let f = find s (call_slots c.self.inside) c.args.replica c.in-Some.at c.len.result c.index-held.result.now c.procedures.result.now c.args.procedure c.args.args.now c.args.request c.replicas_follow_the_log.ensures.procedures c.self.invariant.together c.in-Some.ensures.there.0 c.in-Some.ensures.there.1 (let e = c.len.ensures in omega arith) c.index-held.ensures c.procedures.ensures in
    let (p, admitted) = c.in-Ok.ensures.admitted in
    subst (λ xs. IsStep (setting_of s) (world_of s) (Begin c.args.replica c.args.procedure c.args.args.now c.args.request) (Refused NoMemory) (world_of (with_slots s (map (λ slot. option_map (λ b. b.value) slot) xs)))) (sym c.in_default-enter.ensures.unchanged)
    (begin_without_memory (setting_of s) (world_of s) c.args.replica c.args.procedure c.args.args.now c.args.request (progress_of c.index-held.result.now) p f.stands (f.answered (Ok p) admitted) (few_calls c.self.inside c.len-2.result c.self.invariant c.len-2.ensures c.if-len-self-ge-MAX_CALLS.false))
    )

-- nothing was entered, and all is as it was
pub invariant_of-self-in_default-enter : goal.invariant_of-self-in_default-enter
invariant_of-self-in_default-enter g c =
    unchanged_consistent c.self.inside _ c.self.invariant (refl, refl, refl) (ap (λ xs. map (λ slot. option_map (λ b. b.value) slot) xs) c.in_default-enter.ensures.unchanged)
