use Rattle.std.proofs.Common.{◌≡◌, ◌+◌, Option, Some, None, ◌++◌, length, sym, ap, ◌∙◌}
use Rattle.log_model.specs.Log.{by_name, verdict_of}
use Rattle.log_model.specs.Entries.{items_of}
use Rattle.site_model.specs.declared.cause.NothingCause.{NothingCause}
use Rattle.site_model.specs.Sessions.{session_cause}
use Rattle.site_model.specs.Standing.{Standing}
use Rattle.site_model.specs.Order.{order_entries, order_log, outcome_of, replies_to, sessions_after, with_bytes}
use Rattle.site_model.proofs.StandingLemmas.{stands_as_call}
use Rattle.site_laws.specs.Orders.{procedures_behind}
use Rattle.site_laws.proofs.FinalLemmas.{answer_is, out_of_session}
use Rattle.site_laws.proofs.SessionLemmas.{stays_against}
use Rattle.site_laws.proofs.SettledLemmas.{stands_by}
use Rattle.site_laws.proofs.settled.what_is_out_of_session_commits_no_more.Goals as goal

not_both : (o : Option NothingCause) (why : NothingCause) → o ≡ Some why → o ≡ None → ⊥
not_both o why some none = absurd (let bad = sym some ∙ none in cc)

pub returns : goal.returns
returns c s order more bytes asked origin request call told reply has carries out numbered head same commits =
    let es = order_entries s (order ++ more) in
    let log = order_log s (order ++ more) in
    let before = sessions_after s order in
    let now = sessions_after s (order ++ more) in
    let replies = replies_to s (with_bytes s now es bytes) bytes in
    let v = verdict_of s.setting (items_of (with_bytes s now es bytes)) (length es + 1) in
    -- something is against it, and stays so
    let (why, against) = out_of_session s before (order_entries s order) asked (by_name (procedures_behind s order) asked.name) (sym (answer_is c.orders_grow.ensures.count s order asked) ∙ out) in
    let cause : session_cause (Some origin) before (Some request) ≡ Some why = sym (λ i. session_cause (has i) before (carries i)) ∙ against in
    let (later, stays) = stays_against c.sessions_go_on.ensures.next s order more origin request why has numbered cause in
    -- and nothing is against what commits
    let stands = stands_by s now log call bytes replies v reply (sym (ap (λ (st : Standing). outcome_of replies st v) (stands_as_call s now log bytes call told head)) ∙ commits) in
    not_both (session_cause (Some origin) now (Some request)) later stays (sym (λ i. session_cause (has i) now (same i)) ∙ stands.in_session)
