use Rattle.std.proofs.Common.{◌≡◌, ◌≢◌, ℕ, suc, List, [], ◌∷◌, ◌++◌, length, Option, Some, None, refl, sym, ap, subst, ◌∙◌, arith, append_assoc}
use Rattle.std.specs.Option.{option_map}
use Rattle.std.proofs.lemmas.List.{length-append}
use Rattle.log_model.specs.Log.{done_at, IsLog, history, rows_after}
use Rattle.log_model.specs.Entries.{Entry, items_of}
use Rattle.log_entry.specs.Head.{head_of}
use Rattle.site_model.specs.declared.outcome.EntryOutcome.{EntryOutcome}
use Rattle.site_model.specs.declared.outcome.EntryOutcome.TheVariants as outcome
use Rattle.site_model.specs.Sessions.{Sessions, done_by, with_done_if}
use Rattle.site_model.specs.Order.{next_outcome, order_entries, order_log, outcome_behind, sessions_after, with_bytes}
use Rattle.site_laws.specs.Nothing.{ChangesNothing}
use Rattle.site_laws.specs.Requests.{with_reply}
use Rattle.site_laws.proofs.LogLemmas.{beginning}
use Rattle.site_laws.proofs.OutcomeLemmas.{idle_from}
use Rattle.site_laws.proofs.NothingLemmas.{never_in_conflict, request_stays}
use Rattle.site_laws.proofs.nothing.what_is_nothing_changes_nothing.Goals as goal

not_committed : (o : EntryOutcome) (reply : ℕ) → ChangesNothing o → o ≢ outcome.Committed reply
not_committed o reply is e = subst ChangesNothing e is

not_added : (o : EntryOutcome) (number : ℕ) → ChangesNothing o → o ≢ outcome.Added number
not_added o number is e = subst ChangesNothing e is

pub returns-clause-rows : goal.returns-clause-rows
returns-clause-rows c s order bytes is =
    let long : length (order ++ bytes ∷ []) ≡ suc (length order) = omega (arith, length-append order (bytes ∷ [])) in
    ap (λ (n : ℕ). rows_after s.setting (order_log s (order ++ bytes ∷ [])) n) long
    ∙ c.rows_after_each_byte_string.ensures.others s order bytes (λ reply. not_committed (next_outcome s order bytes) reply is)

pub returns-clause-procedures : goal.returns-clause-procedures
returns-clause-procedures c s order bytes is =
    c.procedures_after_each_byte_string.ensures.others s order bytes (λ number. not_added (next_outcome s order bytes) number is)

pub returns-clause-requests : goal.returns-clause-requests
returns-clause-requests c s order bytes request is =
    let es = order_entries s order in
    let known = sessions_after s order in
    let next = c.orders_grow.ensures.next s order bytes in
    let log = subst (λ (xs : List Entry). IsLog (items_of xs)) next (c.orders_have_logs.ensures s (order ++ bytes ∷ [])) in
    ap (λ (xs : List Entry). option_map (with_reply s xs request) (done_at s.setting.beginning.requests (history s.setting (items_of xs)).certified request)) next
    ∙ request_stays s known es bytes (idle_from s known es bytes c.each_call_has_a_verdict.ensures.within is) log request

pub returns-clause-lasts : goal.returns-clause-lasts
returns-clause-lasts c s order bytes cause is =
    ap (λ (known : Sessions). known.lasts) (c.sessions_go_on.ensures.next s order bytes)
    ∙ ap (λ (o : EntryOutcome). with_done_if (sessions_after s order).lasts (done_by o (head_of bytes))) is

pub returns-clause-opened : goal.returns-clause-opened
returns-clause-opened c s order bytes session is =
    ap (λ (known : Sessions). known.lasts) (c.sessions_go_on.ensures.next s order bytes)
    ∙ ap (λ (o : EntryOutcome). with_done_if (sessions_after s order).lasts (done_by o (head_of bytes))) is

pub returns-clause-conflicts : goal.returns-clause-conflicts
returns-clause-conflicts c s order between bytes later is conflict =
    let es = order_entries s order in
    let known = sessions_after s order in
    let whole = order ++ bytes ∷ between in
    let all = order_entries s whole in
    let (more, e) = beginning s (order ++ bytes ∷ []) between in
    let goes : all ≡ with_bytes s known es bytes ++ more =
    ap (order_entries s) (sym (append_assoc order (bytes ∷ []) between)) ∙ e ∙ ap (λ (xs : List Entry). xs ++ more) (c.orders_grow.ensures.next s order bytes) in
    let log = subst (λ (xs : List Entry). IsLog (items_of xs)) (c.orders_grow.ensures.next s whole later) (c.orders_have_logs.ensures s (whole ++ later ∷ [])) in
    never_in_conflict s known (sessions_after s whole) es more all bytes later c.each_call_has_a_verdict.ensures.within c.verdicts_in_words_of_the_log.ensures.conflict goes log
    (idle_from s known es bytes c.each_call_has_a_verdict.ensures.within is)
    (subst (λ (n : ℕ). outcome_behind s (sessions_after s whole) all later ≡ outcome.Conflict (suc n)) (sym (c.orders_grow.ensures.count s order)) conflict)
