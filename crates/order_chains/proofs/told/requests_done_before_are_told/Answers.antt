use Rattle.std.proofs.Common.{◌≡◌, Bool, true, false, not, nat_lt, cond, is_some, Option, Some, None, refl, ap, ◌∙◌, arith}
use Rattle.std.specs.Option.{option_map, unwrap_or}
use Rattle.std.specs.FinMap.{get}
use Rattle.std.proofs.lemmas.Bool.Decides.{nat_tests}
use Rattle.log_model.specs.Log.{DoneRequest, first_position, history, repeats}
use Rattle.log_model.specs.Entries.{items_of}
use Rattle.site_model.specs.declared.answer.CallAnswer.TheVariants.{Repeated}
use Rattle.site_model.specs.declared.cause.NothingCause.TheVariants.{UnknownSession, Superseded}
use Rattle.site_model.specs.declared.origin.Origin.{Origin}
use Rattle.site_model.specs.Answer.{answer_for, answer_of_admission, answer_of_call, answer_of_run, asked_call, in_session, unless_repeated}
use Rattle.site_model.specs.Sessions.{is_superseded, session_cause}
use Rattle.site_model.specs.Order.{order_entries, reply_to, sessions_after}
use Rattle.site_laws.proofs.FinalLemmas.{answer_is}
use Rattle.order_chains.proofs.told.requests_done_before_are_told.Goals as goal

pub returns-clause-told : goal.returns-clause-told
returns-clause-told c s order asked p done named admitted found within =
    let es = order_entries s order in
    let known = sessions_after s order in
    answer_is c.orders_grow.ensures.count s order asked
    ∙ ap (answer_for s known es asked) named
    ∙ ap (answer_of_admission s known es asked) admitted
    ∙ ap (in_session (answer_of_call s.setting es asked p)) within
    ∙ ap (λ (o : Option DoneRequest). unless_repeated (reply_to s.setting es asked.request) (answer_of_run s.setting (items_of es) (asked_call (items_of es) p asked))
    (cond (is_some o) (Some 0) (first_position (repeats asked.request) 1 (history s.setting (items_of es)).certified))) found
    ∙ ap (λ (o : Option DoneRequest). Repeated 0 (unwrap_or (option_map (λ (d : DoneRequest). d.reply) o) 0)) found

pub returns-clause-in_session : goal.returns-clause-in_session
returns-clause-in_session c s order request last is same = by_origin s.origin
  where
    newest : nat_lt request.sequence last.request.sequence ≡ false
    newest = grind (arith, nat_tests)

    by_origin : (o : Option Origin) → session_cause o (sessions_after s order) (Some request) ≡ None
    by_origin None = refl
    by_origin (Some origin) =
        ap (λ (o : Option DoneRequest). cond (not (is_some o)) (Some UnknownSession) (cond (is_superseded o request) (Some Superseded) None)) is
        ∙ ap (λ (b : Bool). cond b (Some Superseded) None) newest
