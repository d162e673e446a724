use Rattle.std.proofs.Common.{◌≡◌, ◌++◌, ℕ, Option, Some, List, sym, ap, subst, ◌∙◌}
use Rattle.log_model.specs.Entries.{Entry}
use Rattle.site_model.specs.declared.cause.NothingCause.{NothingCause}
use Rattle.site_model.specs.declared.cause.NothingCause.TheVariants.{Superseded}
use Rattle.site_model.specs.declared.origin.Origin.{Origin}
use Rattle.site_model.specs.declared.outcome.EntryOutcome.TheVariants.{Nothing}
use Rattle.site_model.specs.Answer.{Asked, asked_call, call_answer}
use Rattle.site_model.specs.declared.answer.CallAnswer.TheVariants.{Submitted}
use Rattle.site_model.specs.Own.{IsAskedOf}
use Rattle.site_model.specs.Sessions.{session_cause}
use Rattle.site_model.specs.Standing.{SiteSetting}
use Rattle.site_model.specs.Order.{Order, next_outcome, order_entries, order_log, outcome_behind, sessions_after}
use Rattle.site_laws.proofs.LogLemmas.{beginning}
use Rattle.site_laws.proofs.OwnLemmas.{HaveHeads, nothing_own, own_nothing, submitted_in_session, submitted_is_own}
use Rattle.site_laws.proofs.SessionLemmas.{at_most_superseded, more_known}
use Rattle.site_laws.proofs.own.own_calls_are_not_nothing.Goals as goal

-- what was submitted is nothing for its session's sake alone
against : (s : SiteSetting) (order more : Order) (asked : Asked) (bytes : List ℕ) (cause : NothingCause) (is : IsAskedOf s order asked) → call_answer s order asked ≡ Submitted bytes → HaveHeads
    → next_outcome s (order ++ more) bytes ≡ Nothing cause → session_cause s.origin (sessions_after s (order ++ more)) asked.request ≡ Some cause
against s order more asked bytes cause is submitted heads nothing =
    let now = sessions_after s (order ++ more) in
    let (later, e) = beginning s order more in
    own_nothing s now (order_entries s order) later bytes (asked_call (order_log s order) is.procedure asked) cause (submitted_is_own s order asked bytes is submitted heads later)
    (subst (λ (xs : List Entry). outcome_behind s now xs bytes ≡ Nothing cause) e nothing)

pub returns-clause-others : goal.returns-clause-others
returns-clause-others c s order more asked bytes cause is submitted other nothing =
    other (at_most_superseded s.origin (sessions_after s order) (sessions_after s (order ++ more)) asked.request cause (more_known c.sessions_go_on.ensures.next s order more)
    (submitted_in_session s order asked bytes is submitted) (against s order more asked bytes cause is submitted c.entries_have_their_heads.ensures.calls nothing))

pub returns-clause-without_origin : goal.returns-clause-without_origin
returns-clause-without_origin c s order more asked bytes cause is submitted without nothing =
    let why = against s order more asked bytes cause is submitted c.entries_have_their_heads.ensures.calls nothing in
    absurd (let none = sym (ap (λ (o : Option Origin). session_cause o (sessions_after s (order ++ more)) asked.request) without) ∙ why in cc)

pub returns-clause-superseded : goal.returns-clause-superseded
returns-clause-superseded c s order more asked bytes is submitted =
    let now = sessions_after s (order ++ more) in
    let (later, e) = beginning s order more in
    let call = asked_call (order_log s order) is.procedure asked in
    let own = submitted_is_own s order asked bytes is submitted c.entries_have_their_heads.ensures.calls later in (
      against s order more asked bytes Superseded is submitted c.entries_have_their_heads.ensures.calls,
      λ against. subst (λ (xs : List Entry). outcome_behind s now xs bytes ≡ Nothing Superseded) (sym e) (nothing_own s now (order_entries s order) later bytes call Superseded own against),
    )
