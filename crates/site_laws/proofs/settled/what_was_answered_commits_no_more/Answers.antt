use Rattle.site_model.specs.declared.outcome.EntryOutcome.TheVariants.{Committed}
use Rattle.std.proofs.Common.{◌≡◌, Some, ℕ, List, ◌++◌, ◌∷◌, [], subst, sym, ap, ◌∙◌, arith}
use Rattle.log_model.specs.Log.{IsLog, by_name, procedures_after}
use Rattle.log_model.specs.Entries.{Entry, items_of}
use Rattle.site_model.specs.Order.{order_entries, order_log, outcome_behind, sessions_after, with_bytes}
use Rattle.site_model.specs.Answer.{answer_for}
use Rattle.site_laws.specs.Settled.{IsSettled}
use Rattle.site_laws.proofs.LogLemmas.{beginning}
use Rattle.site_laws.proofs.SettledLemmas.{answered, settled_answer}
use Rattle.site_laws.proofs.settled.what_was_answered_commits_no_more.Goals as goal

pub returns : goal.returns
returns c s order more bytes asked call told reply are are_bytes settled head same commits =
    let es = order_entries s order in
    let known = sessions_after s order in
    let now = sessions_after s (order ++ more) in
    let (later, e) = beginning s order more in
    let count = c.orders_grow.ensures.count s order in
    let whole : IsLog (items_of (with_bytes s now (es ++ later) bytes)) =
    subst (λ (xs : List Entry). IsLog (items_of (with_bytes s now xs bytes))) e
    (subst (λ (xs : List Entry). IsLog (items_of xs)) (c.orders_grow.ensures.next s (order ++ more) bytes) (c.orders_have_logs.ensures s ((order ++ more) ++ bytes ∷ []))) in
    let named = subst (λ (n : ℕ). by_name (procedures_after s.setting (order_log s order) n) asked.name ≡ Some same.procedure) (sym count) same.named in
    answered s known now es later bytes call told reply asked same.procedure
    c.each_call_has_a_verdict.ensures.within c.logs_whose_calls_fit.ensures.runs
    c.verdicts_in_words_of_the_log.ensures.commit c.procedures_are_never_lost.ensures c.logs_whose_calls_fit.ensures.one_more c.what_stands_is_of_the_log.ensures.fits
    are whole are_bytes head same.number same.args (omega (arith, same.snapshot, count))
    (subst IsSettled (settled_answer s order asked ∙ ap (answer_for s known es asked) named) settled)
    (subst (λ (xs : List Entry). outcome_behind s now xs bytes ≡ Committed reply) e commits)
