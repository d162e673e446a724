use Rattle.std.proofs.Common.{◌≡◌, ◌<◌, ◌^◌, ◌∙◌, ℕ, List, length, Some, None, Ok, Err, option_map, IsTrue, sym, ap, subst, arith}
use Rattle.bpf_verify.specs.Flow.{Procedure}
use Rattle.catalogue.specs.Catalogue.{accepted_of}
use Rattle.log_model.specs.Log.{Call, Setting, by_number, first_repeated, history, procedures_after, run_in}
use Rattle.log_model.specs.Entries.{Entry, item_of, items_of}
use Rattle.log_model.proofs.AdmissionLemmas.{admits, is_admitted}
use Rattle.replica.specs.Replica.{Replica}
use Rattle.site_model.specs.declared.answer.CallAnswer.TheVariants.{Repeated}
use Rattle.site_model.specs.Sessions.{session_cause}
use Rattle.site_model.specs.Answer.{asked_call, takes_memory}
use Rattle.site.specs.Run.{CanRun}
use Rattle.site.specs.Replica.{setting_of}
use Rattle.site.proofs.SiteLemmas.{can_run}
use Rattle.site.specs.Answered.{asked_of}
use Rattle.site.proofs.CallLemmas.{answer_of_run-takes_memory, is_none_is_none, is_some_is_some, on_err, out_of_session, no_procedure, refused_call, repeated_call, run_call, none_found_in, found_in, same_call, reply_fits}
use Rattle.std.proofs.lemmas.List.{length-map}
use Rattle.site.proofs.asked.call.Goals as goal

pub returns-in_default-clause-answer : goal.returns-in_default-clause-answer
returns-in_default-clause-answer g c entries stands =
    let s = c.args.site.now in
    no_procedure (setting_of s) s.sessions entries (asked_of c.args.asked) (none_found_in s entries c.procedures-procedures.result.now c.entries_suffice.ensures.procedures stands (c.procedures-procedures.ensures ∙ ap (λ (r : Replica). r.procedures) c.replica.ensures) c.args.asked.name.now (sym c.in_default.is ∙ c.by_name.ensures))

pub returns-in-Err-clause-answer : goal.returns-in-Err-clause-answer
returns-in-Err-clause-answer g c entries stands =
    let s = c.args.site.now in
    let w = (setting_of s).setting in
    let asked = asked_of c.args.asked in
    let f = found_in s entries c.procedures-procedures.result.now c.entries_suffice.ensures.procedures stands (c.procedures-procedures.ensures ∙ ap (λ (r : Replica). r.procedures) c.replica.ensures) c.args.asked.name.now c.in-Some.procedure c.found_by_name_is_found_by_number.ensures c.stored_procedures_are_consistent.ensures (sym c.in-Some.is ∙ c.by_name.ensures) in
    refused_call (setting_of s) s.sessions entries asked f.p f.named c.in-Err.refusal (f.answered asked.args asked.request (Err c.in-Err.refusal) c.in-Err.ensures.refused)

pub returns-then-is_some-clause-answer : goal.returns-then-is_some-clause-answer
returns-then-is_some-clause-answer g c entries stands =
    let s = c.args.site.now in
    let asked = asked_of c.args.asked in
    let f = found_in s entries c.procedures-procedures.result.now c.entries_suffice.ensures.procedures stands (c.procedures-procedures.ensures ∙ ap (λ (r : Replica). r.procedures) c.replica.ensures) c.args.asked.name.now c.in-Some.procedure c.found_by_name_is_found_by_number.ensures c.stored_procedures_are_consistent.ensures (sym c.in-Some.is ∙ c.by_name.ensures) in
    let admitted = admits asked.args asked.request f.p c.in-Ok.ensures.admitted.0 (f.answered asked.args asked.request (Ok c.in-Ok.ensures.admitted.0) c.in-Ok.ensures.admitted.1) in
    let (why, out) = is_some_is_some c.session_cause.result (sym c.is_some.ensures ∙ c.if-is_some.true) in
    out_of_session (setting_of s) s.sessions entries asked f.p f.named why admitted (sym c.session_cause.ensures ∙ out)

pub returns-in-Some-repeated-clause-answer : goal.returns-in-Some-repeated-clause-answer
returns-in-Some-repeated-clause-answer g c entries stands =
    let s = c.args.site.now in
    let w = (setting_of s).setting in
    let asked = asked_of c.args.asked in
    let f = found_in s entries c.procedures-procedures.result.now c.entries_suffice.ensures.procedures stands (c.procedures-procedures.ensures ∙ ap (λ (r : Replica). r.procedures) c.replica.ensures) c.args.asked.name.now c.in-Some.procedure c.found_by_name_is_found_by_number.ensures c.stored_procedures_are_consistent.ensures (sym c.in-Some.is ∙ c.by_name.ensures) in
    let admitted = admits asked.args asked.request f.p c.in-Ok.ensures.admitted.0 (f.answered asked.args asked.request (Ok c.in-Ok.ensures.admitted.0) c.in-Ok.ensures.admitted.1) in
    let first : first_repeated w.beginning.requests (history w (items_of entries)).certified (asked_call (items_of entries) f.p asked) ≡ Some c.in-Some-repeated.position = sym (c.repeated.ensures entries stands) ∙ c.in-Some-repeated.is in
    let inside : session_cause (setting_of s).origin s.sessions asked.request ≡ None = sym c.session_cause.ensures ∙ is_none_is_none c.session_cause.result (sym c.is_some.ensures ∙ c.if-is_some.false) in
    ap (Repeated c.in-Some-repeated.position) (c.reply_to-reply.ensures entries stands.replies)
    ∙ repeated_call (setting_of s) s.sessions entries asked f.p f.named c.in-Some-repeated.position admitted inside first

pub complete-requires-clause-can : goal.complete-requires-clause-can
complete-requires-clause-can g c =
    let (entries, stands) = c.requires.stands in
    let s = c.args.site.now in
    let w = (setting_of s).setting in
    let asked = asked_of c.args.asked in
    let f = found_in s entries c.procedures-procedures.result.now c.entries_suffice.ensures.procedures stands (c.procedures-procedures.ensures ∙ ap (λ (r : Replica). r.procedures) c.replica.ensures) c.args.asked.name.now c.in-Some.procedure c.found_by_name_is_found_by_number.ensures c.stored_procedures_are_consistent.ensures (sym c.in-Some.is ∙ c.by_name.ensures) in
    let here : c.position-snapshot.result ≡ length entries = c.position-snapshot.ensures.count entries stands in
    let program : Some c.in-Ok.accepted.now ≡ option_map (accepted_of s.catalogue.tables) (by_number (procedures_after w (items_of entries) c.position-snapshot.result) c.in-Some.procedure) =
    ap Some (f.program c.in-Ok.accepted.now c.in-Ok.ensures.program) ∙ ap (option_map (accepted_of s.catalogue.tables)) (sym (ap (λ (n : ℕ). by_number (procedures_after w (items_of entries) n) c.in-Some.procedure) here ∙ f.numbered)) in
    subst (λ (r : Replica). (x : Setting) × (es : List Entry) × CanRun x es r c.in-Ok.accepted.now (record { number = 0; procedure = c.in-Some.procedure; args = c.args.asked.args.now; snapshot = c.position-snapshot.result; request = c.args.asked.request }))
    (sym c.replica-2.ensures) (w, entries, can_run s entries c.in-Ok.accepted.now (record { number = 0; procedure = c.in-Some.procedure; args = c.args.asked.args.now; snapshot = c.position-snapshot.result; request = c.args.asked.request }) stands program)

pub returns-clause-answer : goal.returns-clause-answer
returns-clause-answer g c entries stands =
    let s = c.args.site.now in
    let w = (setting_of s).setting in
    let asked = asked_of c.args.asked in
    let f = found_in s entries c.procedures-procedures.result.now c.entries_suffice.ensures.procedures stands (c.procedures-procedures.ensures ∙ ap (λ (r : Replica). r.procedures) c.replica.ensures) c.args.asked.name.now c.in-Some.procedure c.found_by_name_is_found_by_number.ensures c.stored_procedures_are_consistent.ensures (sym c.in-Some.is ∙ c.by_name.ensures) in
    let admitted = admits asked.args asked.request f.p c.in-Ok.ensures.admitted.0 (f.answered asked.args asked.request (Ok c.in-Ok.ensures.admitted.0) c.in-Ok.ensures.admitted.1) in
    let here : c.position-snapshot.result ≡ length entries = c.position-snapshot.ensures.count entries stands in
    let first : first_repeated w.beginning.requests (history w (items_of entries)).certified (asked_call (items_of entries) f.p asked) ≡ None = sym (c.repeated.ensures entries stands) ∙ c.in_default-repeated.is in
    let inside : session_cause (setting_of s).origin s.sessions asked.request ≡ None = sym c.session_cause.ensures ∙ is_none_is_none c.session_cause.result (sym c.is_some.ensures ∙ c.if-is_some.false) in
    let program : Some c.in-Ok.accepted.now ≡ option_map (accepted_of s.catalogue.tables) (by_number (procedures_after w (items_of entries) c.position-snapshot.result) c.in-Some.procedure) =
    ap Some (f.program c.in-Ok.accepted.now c.in-Ok.ensures.program) ∙ ap (option_map (accepted_of s.catalogue.tables)) (sym (ap (λ (n : ℕ). by_number (procedures_after w (items_of entries) n) c.in-Some.procedure) here ∙ f.numbered)) in
    let can = subst (λ (r : Replica). CanRun w entries r c.in-Ok.accepted.now (record { number = 0; procedure = c.in-Some.procedure; args = c.args.asked.args.now; snapshot = c.position-snapshot.result; request = c.args.asked.request })) (sym c.replica-2.ensures) (can_run s entries c.in-Ok.accepted.now (record { number = 0; procedure = c.in-Some.procedure; args = c.args.asked.args.now; snapshot = c.position-snapshot.result; request = c.args.asked.request }) stands program) in
    c.answer_of.ensures.answer w entries (record { number = 0; procedure = c.in-Some.procedure; args = c.args.asked.args.now; snapshot = c.position-snapshot.result; request = c.args.asked.request }) (c.in_ok-completion.ensures w entries can)
    ∙ same_call w (items_of entries) c.in-Some.procedure f.p.number c.args.asked.args.now c.position-snapshot.result (length (items_of entries)) c.args.asked.request (sym f.number_is) (here ∙ sym (length-map entries item_of))
    ∙ run_call (setting_of s) s.sessions entries asked f.p f.named admitted inside first

pub returns-clause-fits : goal.returns-clause-fits
returns-clause-fits g c entries bytes stands told =
    let s = c.args.site.now in
    let w = (setting_of s).setting in
    let asked = asked_of c.args.asked in
    let log = items_of entries in
    let f = found_in s entries c.procedures-procedures.result.now c.entries_suffice.ensures.procedures stands (c.procedures-procedures.ensures ∙ ap (λ (r : Replica). r.procedures) c.replica.ensures) c.args.asked.name.now c.in-Some.procedure c.found_by_name_is_found_by_number.ensures c.stored_procedures_are_consistent.ensures (sym c.in-Some.is ∙ c.by_name.ensures) in
    let admitted = admits asked.args asked.request f.p c.in-Ok.ensures.admitted.0 (f.answered asked.args asked.request (Ok c.in-Ok.ensures.admitted.0) c.in-Ok.ensures.admitted.1) in
    let here : c.position-snapshot.result ≡ length entries = c.position-snapshot.ensures.count entries stands in
    let long : length log ≡ length entries = length-map entries item_of in
    let program : Some c.in-Ok.accepted.now ≡ option_map (accepted_of s.catalogue.tables) (by_number (procedures_after w (items_of entries) c.position-snapshot.result) c.in-Some.procedure) =
    ap Some (f.program c.in-Ok.accepted.now c.in-Ok.ensures.program) ∙ ap (option_map (accepted_of s.catalogue.tables)) (sym (ap (λ (n : ℕ). by_number (procedures_after w (items_of entries) n) c.in-Some.procedure) here ∙ f.numbered)) in
    let can = subst (λ (r : Replica). CanRun w entries r c.in-Ok.accepted.now (record { number = 0; procedure = c.in-Some.procedure; args = c.args.asked.args.now; snapshot = c.position-snapshot.result; request = c.args.asked.request })) (sym c.replica-2.ensures) (can_run s entries c.in-Ok.accepted.now (record { number = 0; procedure = c.in-Some.procedure; args = c.args.asked.args.now; snapshot = c.position-snapshot.result; request = c.args.asked.request }) stands program) in
    let completed = c.in_ok-completion.ensures w entries can in
    let same : record { number = 0; procedure = c.in-Some.procedure; args = c.args.asked.args.now; snapshot = c.position-snapshot.result; request = c.args.asked.request } ≡ asked_call log f.p asked =
    λ i. record { number = 0; procedure = sym f.number_is i; args = c.args.asked.args.now; snapshot = (here ∙ sym long) i; request = c.args.asked.request } in
    let is = is_admitted asked.args asked.request (Some f.p) f.p admitted in
    let count : c.in-Ok.accepted.now.args_len ≡ f.p.args_len = ap (λ (q : Procedure). q.args_len) (f.program c.in-Ok.accepted.now c.in-Ok.ensures.program) in
    let takes = is.fits in
    let args_len = c.args_len.ensures.length in
    let args = c.numbers_fit.ensures.args in
    let snapshot = c.numbers_fit.ensures.snapshot in
    let procedure = c.numbers_fit.ensures.procedure in
    let number = f.number_is in
    record {
      procedure = f.p;
      named = f.named;
      numbered = subst (λ (n : ℕ). by_number (procedures_after w log (length entries)) n ≡ Some f.p) (sym f.number_is) f.numbered;
      fits = record {
        number = omega arith;
        procedure = omega arith;
        args = omega arith;
        snapshot = omega arith;
        session = c.numbers_fit.ensures.session;
        sequence = c.numbers_fit.ensures.sequence;
        whole = is.whole;
        reply = subst (λ (x : Call). (run_in w log x).reply < 2 ^ 64) same
            (reply_fits w log _ c.in_ok-completion.completion bytes completed c.answer_of.ensures.short (sym (c.answer_of.ensures.answer w entries _ completed) ∙ told));
      };
    }

pub returns-in_err-completion-clause-memory : goal.returns-in_err-completion-clause-memory
returns-in_err-completion-clause-memory g c = on_err c.from_residual.result _ (λ entries stands.
    let s = c.args.site.now in
    let w = (setting_of s).setting in
    let asked = asked_of c.args.asked in
    let f = found_in s entries c.procedures-procedures.result.now c.entries_suffice.ensures.procedures stands (c.procedures-procedures.ensures ∙ ap (λ (r : Replica). r.procedures) c.replica.ensures) c.args.asked.name.now c.in-Some.procedure c.found_by_name_is_found_by_number.ensures c.stored_procedures_are_consistent.ensures (sym c.in-Some.is ∙ c.by_name.ensures) in
    let admitted = admits asked.args asked.request f.p c.in-Ok.ensures.admitted.0 (f.answered asked.args asked.request (Ok c.in-Ok.ensures.admitted.0) c.in-Ok.ensures.admitted.1) in
    let first : first_repeated w.beginning.requests (history w (items_of entries)).certified (asked_call (items_of entries) f.p asked) ≡ None = sym (c.repeated.ensures entries stands) ∙ c.in_default-repeated.is in
    let inside : session_cause (setting_of s).origin s.sessions asked.request ≡ None = sym c.session_cause.ensures ∙ is_none_is_none c.session_cause.result (sym c.is_some.ensures ∙ c.if-is_some.false) in
    subst (λ answer. IsTrue (takes_memory answer)) (run_call (setting_of s) s.sessions entries asked f.p f.named admitted inside first)
    (answer_of_run-takes_memory w (items_of entries) (asked_call (items_of entries) f.p asked)))
