use Rattle.std.proofs.Common.{map, option_map, slice_set, Some, None, refl, sym, ap, subst, ◌∙◌, arith}
use Rattle.dsm_model.specs.declared.outcome.StepRefusal.TheVariants.{NotAtExit}
use Rattle.dsm_model.specs.declared.outcome.Outcome.TheVariants.{Cancelled, Read, Refused}
use Rattle.log_model.specs.Entries.{items_of}
use Rattle.log_model.specs.Log.{Setting, Log}
use Rattle.dsm_model.specs.World.{Order, IsStep}
use Rattle.dsm_model.specs.Sound.{IsWorld}
use Rattle.replica.specs.Replica.{entries_of}
use Rattle.world_calls.specs.OpenCall.{open_call_of, Follows, IsReplyOf}
use Rattle.world_calls.specs.declared.open_call.OpenCall.{OpenCall as OpenCallState}
use Rattle.dsm_world.specs.System.{setting_of, world_of}
use Rattle.dsm_world.specs.Together.{IsTogether}
use Rattle.dsm_world.specs.Fields.{system_of, call_slots}
use Rattle.dsm_world.proofs.StepLemmas.{order_no_call}
use Rattle.dsm_world.proofs.CallLemmas.{with_slots, no_call, ended_call, place_there, put_back, early, cancelled, read, IsToAppend, with_entries, append_steps, appended_together, one_more_for, same_additions}
use Rattle.dsm_world.proofs.FieldLemmas.{step_kept, unchanged_consistent, over_consistent}
use Rattle.dsm_world.proofs.world.World.order.Goals as goal

pub returns-in_default-clause-step : goal.returns-in_default-clause-step
returns-in_default-clause-step g c =
    rw (← c.self.view_is) (
    let s = system_of c.self.inside in
    subst (λ xs. IsStep (setting_of s) (world_of s) (Order c.args.call) _ (world_of (with_slots s (map (λ slot. option_map (λ b. b.value) slot) xs)))) (sym (c.in_default.ensures.unchanged refl))
    (order_no_call (setting_of s) (world_of s) c.args.call (no_call s (call_slots c.self.inside) c.args.call refl (c.in_default.ensures.none refl)))
    )

pub put_call-requires : goal.put_call-requires
put_call-requires g c =
    let lt = place_there (call_slots c.self.inside) c.in-Some.at c.in-Some.open_call.value (λ slot. option_map (λ b. b.value) slot) c.take_call.new.calls.items c.in-Some.ensures.stood c.in-Some.ensures.taken in
    omega arith

pub returns-in_default-reply-clause-step : goal.returns-in_default-reply-clause-step
returns-in_default-reply-clause-step g c =
    rw (← c.self.view_is) (
    let s = system_of c.self.inside in
    let slots = call_slots c.self.inside in
    let o = c.in-Some.open_call.value in
    let put = c.put_call.ensures ∙ ap (λ xs. slice_set xs c.in-Some.at (Some o)) c.in-Some.ensures.taken ∙ put_back slots c.in-Some.at o c.in-Some.ensures.stood in
    let early_run : (w : Setting) (log : Log) → Follows w log c.deref.result.now → IsReplyOf w log (open_call_of c.deref.result.now) None = λ w log follows. subst (λ reply. IsReplyOf w log (open_call_of c.deref.result.now) reply) c.in_default-reply.is (c.reply.ensures.run w log follows) in
    let x = ended_call s slots c.args.call c.in-Some.at o c.deref.result.now None c.self.invariant.together c.in-Some.ensures.place c.in-Some.ensures.stood c.deref.ensures early_run in
    subst (λ xs. IsStep (setting_of s) (world_of s) (Order c.args.call) (Refused NotAtExit) (world_of (with_slots s xs))) (sym put)
    (early s c.args.call o x.facts x.end)
    )

pub invariant_of-self-in_default-reply : goal.invariant_of-self-in_default-reply
invariant_of-self-in_default-reply g c =
    unchanged_consistent c.self.inside _ c.self.invariant (refl, refl, refl)
    (c.put_call.ensures ∙ ap (λ xs. slice_set xs c.in-Some.at (Some c.in-Some.open_call.value)) c.in-Some.ensures.taken ∙ put_back (call_slots c.self.inside) c.in-Some.at c.in-Some.open_call.value c.in-Some.ensures.stood)

pub end_call-requires : goal.end_call-requires
end_call-requires g c = (c.in-Some-reply._reply, ap (λ (x : OpenCallState _). x.machine.last) (sym c.deref.ensures) ∙ c.in-Some-reply.ensures.exit)

pub returns-in-Cancelled-clause-step : goal.returns-in-Cancelled-clause-step
returns-in-Cancelled-clause-step g c =
    rw (← c.self.view_is) (
    let s = system_of c.self.inside in
    let x = ended_call s (call_slots c.self.inside) c.args.call c.in-Some.at c.in-Some.open_call.value c.deref.result.now (Some c.in-Some-reply._reply) c.self.invariant.together c.in-Some.ensures.place c.in-Some.ensures.stood c.deref.ensures c.in-Some-reply.ensures.run in
    subst (λ xs. IsStep (setting_of s) (world_of s) (Order c.args.call) (Cancelled c.in-Cancelled.snapshot c.in-Cancelled.code) (world_of (with_slots s xs))) (sym c.in-Some.ensures.taken)
    (cancelled s (call_slots c.self.inside) c.args.call c.in-Some.at c.in-Some.open_call.value c.in-Cancelled.snapshot c.in-Cancelled.code c.self.invariant.together c.in-Some.ensures.place x.facts x.end.0 (c.in-Cancelled.ensures (setting_of s) (items_of s.entries) x.facts.follows))
    )

pub invariant_of-self-in-Cancelled : goal.invariant_of-self-in-Cancelled
invariant_of-self-in-Cancelled g c =
    over_consistent c.self.inside _ c.in-Some.at c.self.invariant (refl, refl, refl) c.in-Some.ensures.taken
    (step_kept _ c.args.self.now _ _ _ c.self.view_is (c.steps_keep_a_world.ensures.step (setting_of c.args.self.now)) tt (returns-in-Cancelled-clause-step g c) c.self.invariant.together.world)

pub returns-in-Read-clause-step : goal.returns-in-Read-clause-step
returns-in-Read-clause-step g c =
    rw (← c.self.view_is) (
    let s = system_of c.self.inside in
    let x = ended_call s (call_slots c.self.inside) c.args.call c.in-Some.at c.in-Some.open_call.value c.deref.result.now (Some c.in-Some-reply._reply) c.self.invariant.together c.in-Some.ensures.place c.in-Some.ensures.stood c.deref.ensures c.in-Some-reply.ensures.run in
    let done = c.in-Read.ensures (setting_of s) (items_of s.entries) x.facts.follows in
    subst (λ xs. IsStep (setting_of s) (world_of s) (Order c.args.call) (Read c.in-Read.snapshot c.in-Read.reply) (world_of (with_slots s xs))) (sym c.in-Some.ensures.taken)
    (read s (call_slots c.self.inside) c.args.call c.in-Some.at c.in-Some.open_call.value c.in-Read.snapshot c.in-Read.reply c.self.invariant.together c.in-Some.ensures.place x.facts x.end.0 done.0 done.1 done.2 done.3)
    )

pub invariant_of-self-in-Read : goal.invariant_of-self-in-Read
invariant_of-self-in-Read g c =
    over_consistent c.self.inside _ c.in-Some.at c.self.invariant (refl, refl, refl) c.in-Some.ensures.taken
    (step_kept _ c.args.self.now _ _ _ c.self.view_is (c.steps_keep_a_world.ensures.step (setting_of c.args.self.now)) tt (returns-in-Read-clause-step g c) c.self.invariant.together.world)

pub returns-clause-step : goal.returns-clause-step
returns-clause-step g c =
    rw (← c.self.view_is) (
    let s = system_of c.self.inside in
    let x = ended_call s (call_slots c.self.inside) c.args.call c.in-Some.at c.in-Some.open_call.value c.deref.result.now (Some c.in-Some-reply._reply) c.self.invariant.together c.in-Some.ensures.place c.in-Some.ensures.stood c.deref.ensures c.in-Some-reply.ensures.run in
    let done = c.in-Wrote.ensures (setting_of s) (items_of s.entries) x.facts.follows in
    let a : IsToAppend s c.in-Some.open_call.value c.in-Wrote.call = record { end = x.end.0; kept = done.0; some = done.1; call = done.2; carries = done.3; fits = done.4 } in
    subst (λ xs. IsStep (setting_of s) (world_of s) (Order c.args.call) c.append.result (world_of (with_entries (with_slots s xs) (entries_of c.append.new.entries.items)))) (sym c.in-Some.ensures.taken)
    (append_steps s (call_slots c.self.inside) c.args.call c.in-Some.at c.in-Some.open_call.value c.in-Wrote.call c.append.result (entries_of c.append.new.entries.items) c.self.invariant.together c.in-Some.ensures.place x.facts a c.append.ensures.appended)
    )

pub invariant_of-self-2 : goal.invariant_of-self-2
invariant_of-self-2 g c =
    let s = system_of c.self.inside in
    let x = ended_call s (call_slots c.self.inside) c.args.call c.in-Some.at c.in-Some.open_call.value c.deref.result.now (Some c.in-Some-reply._reply) c.self.invariant.together c.in-Some.ensures.place c.in-Some.ensures.stood c.deref.ensures c.in-Some-reply.ensures.run in
    let done = c.in-Wrote.ensures (setting_of s) (items_of s.entries) x.facts.follows in
    let a : IsToAppend s c.in-Some.open_call.value c.in-Wrote.call = record { end = x.end.0; kept = done.0; some = done.1; call = done.2; carries = done.3; fits = done.4 } in
    let world = step_kept s c.args.self.now _ _ _ c.self.view_is (c.steps_keep_a_world.ensures.step (setting_of c.args.self.now)) tt (returns-clause-step g c) c.self.invariant.together.world in
    record {
      together = subst (λ xs. IsTogether (with_entries (with_slots s xs) (entries_of c.append.new.entries.items)) xs) (sym c.in-Some.ensures.taken)
          (appended_together s (call_slots c.self.inside) c.args.call c.in-Some.at c.in-Some.open_call.value c.in-Wrote.call c.append.result (entries_of c.append.new.entries.items) c.one_more_entry_carries_its_run.ensures c.self.invariant.together c.in-Some.ensures.place x.facts a c.append.ensures.appended
          (subst (λ xs. IsWorld (setting_of s) (world_of (with_entries (with_slots s xs) (entries_of c.append.new.entries.items)))) c.in-Some.ensures.taken world));
      for_tables = one_more_for s.catalogue.tables c.self.inside.entries.items c.append.new.entries.items c.in-Wrote.call c.append.ensures.left c.self.invariant.for_tables;
      additions = c.self.invariant.additions ∙ sym (same_additions c.self.inside.entries.items c.append.new.entries.items c.in-Wrote.call c.append.ensures.left);
    }

-- there was no call, and all is as it was
pub invariant_of-self : goal.invariant_of-self
invariant_of-self g c =
    unchanged_consistent c.self.inside _ c.self.invariant (refl, refl, refl) (ap (λ xs. map (λ slot. option_map (λ b. b.value) slot) xs) (c.in_default.ensures.unchanged refl))
