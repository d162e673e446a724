use Rattle.std.proofs.Common.{◌≡◌, ℕ, List, ◌++◌, ◌∷◌, [], subst, sym, ap, ◌∙◌, append_assoc}
use Rattle.log_model.specs.Log.{IsLog}
use Rattle.log_model.specs.Entries.{Entry, items_of}
use Rattle.site_model.specs.declared.outcome.EntryOutcome.TheVariants.{Committed}
use Rattle.site_model.specs.Fit.{AreFitEntries}
use Rattle.site_model.specs.Standing.{SiteSetting}
use Rattle.site_model.specs.Order.{Order, order_entries, order_log, outcome_behind, sessions_after, with_bytes}
use Rattle.site_laws.proofs.LogLemmas.{beginning}
use Rattle.site_laws.proofs.RefusedLemmas.{never_after_conflict, never_after_stale}
use Rattle.site_laws.proofs.settled.what_was_refused_commits_no_more.Goals as goal

-- entries behind an order that goes on from a first byte string, where a second one stands behind them
record GoesOn (s : SiteSetting) (order between : Order) (first second : List ℕ) : Type 0 where
  later : List Entry
  goes : order_entries s (order ++ first ∷ between) ≡ with_bytes s (sessions_after s order) (order_entries s order) first ++ later
  first_log : IsLog (items_of (with_bytes s (sessions_after s order) (order_entries s order) first))
  all_log : IsLog (items_of (with_bytes s (sessions_after s (order ++ first ∷ between)) (with_bytes s (sessions_after s order) (order_entries s order) first ++ later) second))

goes_on : (s : SiteSetting) (order between : Order) (first second : List ℕ) → ((s : SiteSetting) (order : Order) (bytes : List ℕ) → order_entries s (order ++ bytes ∷ []) ≡ with_bytes s (sessions_after s order) (order_entries s order) bytes)
    → ((s : SiteSetting) (order : Order) → IsLog (order_log s order)) → GoesOn s order between first second
goes_on s order between first second next logs =
    let (later, e) = beginning s (order ++ first ∷ []) between in
    let goes : order_entries s (order ++ first ∷ between) ≡ with_bytes s (sessions_after s order) (order_entries s order) first ++ later =
    ap (order_entries s) (sym (append_assoc order (first ∷ []) between)) ∙ e ∙ ap (λ (xs : List Entry). xs ++ later) (next s order first) in
    record {
      later = later;
      goes = goes;
      first_log = subst (λ (xs : List Entry). IsLog (items_of xs)) (next s order first) (logs s (order ++ first ∷ []));
      all_log = subst (λ (xs : List Entry). IsLog (items_of (with_bytes s (sessions_after s (order ++ first ∷ between)) xs second))) goes (subst (λ (xs : List Entry). IsLog (items_of xs)) (next s (order ++ first ∷ between) second) (logs s ((order ++ first ∷ between) ++ second ∷ [])));
    }

pub returns-clause-conflict : goal.returns-clause-conflict
returns-clause-conflict c s order between first second a b told other position reply are are_bytes first_head head asks refused commits =
    let es = order_entries s order in
    let known = sessions_after s order in
    let now = sessions_after s (order ++ first ∷ between) in
    let on = goes_on s order between first second c.orders_grow.ensures.next c.orders_have_logs.ensures in
    let goes = on.goes in
    never_after_conflict s known now es on.later first second a b told other asks c.each_call_has_a_verdict.ensures.within c.what_stands_is_of_the_log.ensures.fits c.logs_whose_calls_fit.ensures.one_more c.procedures_are_never_lost.ensures
    c.logs_whose_calls_fit.ensures.runs c.verdicts_in_words_of_the_log.ensures.conflict c.verdicts_in_words_of_the_log.ensures.commit (subst (AreFitEntries s.setting) goes are) on.first_log on.all_log are_bytes first_head head position refused reply
    (subst (λ (xs : List Entry). outcome_behind s now xs second ≡ Committed reply) goes commits)

pub returns-clause-stale : goal.returns-clause-stale
returns-clause-stale c s order between first second a b told other reply are_bytes first_head head asks refused commits =
    let es = order_entries s order in
    let known = sessions_after s order in
    let now = sessions_after s (order ++ first ∷ between) in
    let on = goes_on s order between first second c.orders_grow.ensures.next c.orders_have_logs.ensures in
    let goes = on.goes in
    never_after_stale s known now es on.later first second a b told other asks c.each_call_has_a_verdict.ensures.within c.what_stands_is_of_the_log.ensures.fits c.verdicts_in_words_of_the_log.ensures.stale c.verdicts_in_words_of_the_log.ensures.commit
    on.first_log on.all_log are_bytes first_head head refused reply (subst (λ (xs : List Entry). outcome_behind s now xs second ≡ Committed reply) goes commits)
