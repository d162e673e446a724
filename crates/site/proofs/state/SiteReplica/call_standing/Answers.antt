use Rattle.std.proofs.Common.{◌≡◌, ◌-◌, ◌≤◌, ◌∙◌, List, length, nat_eq, false, true, Some, None, option_map, refl, sym, ap, subst, arith}
use Rattle.std.specs.Option.{option_copied}
use Rattle.std.proofs.lemmas.Bool.Decides.{nat_tests}
use Rattle.log_model.specs.Log.{procedure_of}
use Rattle.log_model.specs.Entries.{Entry, items_of}
use Rattle.catalogue.specs.Catalogue.{accepted_of}
use Rattle.site_model.specs.declared.cause.NothingCause.TheVariants as cause
use Rattle.site_model.specs.Sessions.{session_cause}
use Rattle.site_model.specs.Standing as model
use Rattle.site.specs.declared.standing.Standing.TheVariants.{Decided, Nothing}
use Rattle.site.specs.Run.{CanRun}
use Rattle.site.specs.Replica.{SiteReplica, setting_of}
use Rattle.site.specs.Standing.{IsStanding, head_call}
use Rattle.site.proofs.SiteLemmas.{at_session, at_decided, at_procedure, at_run, none_found, takes_by, can_run}
use Rattle.site.proofs.state.SiteReplica.call_standing.Goals as goal

pub returns-in-Some-clause-is : goal.returns-in-Some-clause-is
returns-in-Some-clause-is g c entries stands =
    let s = c.args.self.now in
    let out : session_cause s.origin s.sessions c.args.head.request ≡ Some c.in-Some.cause = sym c.session_cause.ensures ∙ c.in-Some.is in
    subst (λ (st : model.Standing). IsStanding {A = g.row.A.Denot} st (Nothing c.in-Some.cause))
    (sym (at_session s entries (head_call c.args.head) c.args.bytes.now c.position.result stands (c.position.ensures ∙ ap (λ (x : SiteReplica). x.replica.position) c.self.view_is) c.if-head-position.false (Some c.in-Some.cause) out)) refl

pub returns-then-is_decided-clause-is : goal.returns-then-is_decided-clause-is
returns-then-is_decided-clause-is g c entries stands =
    let call = head_call c.args.head in
    let inside = sym c.session_cause.ensures ∙ c.in_default.is in
    subst (λ (st : model.Standing). IsStanding {A = g.row.A.Denot} st (Decided c.args.head.snapshot c.args.head.request))
    (sym (at_decided c.args.self.now entries call c.args.bytes.now c.position.result stands (c.position.ensures ∙ ap (λ (x : SiteReplica). x.replica.position) c.self.view_is) c.if-head-position.false inside (sym (c.is_decided.ensures.decided entries call stands refl refl) ∙ c.if-is_decided.true))) (refl, refl)

pub returns-in_default-program_at-clause-is : goal.returns-in_default-program_at-clause-is
returns-in_default-program_at-clause-is g c entries stands =
    let s = c.args.self.now in
    let call = head_call c.args.head in
    let none : None ≡ option_map (accepted_of s.catalogue.tables) (procedure_of (setting_of s).setting (items_of entries) call) = c.in_default-program_at.ensures entries stands in
    subst (λ (st : model.Standing). IsStanding {A = g.row.A.Denot} st (Nothing cause.Procedure))
    (sym (at_procedure s entries call c.args.bytes.now c.position.result stands (c.position.ensures ∙ ap (λ (x : SiteReplica). x.replica.position) c.self.view_is) c.if-head-position.false (sym c.session_cause.ensures ∙ c.in_default.is) (sym (c.is_decided.ensures.decided entries call stands refl refl) ∙ c.if-is_decided.false)
    (none_found s.catalogue.tables (procedure_of (setting_of s).setting (items_of entries) call) call.args none))) refl

pub returns-then-from-head-clause-is : goal.returns-then-from-head-clause-is
returns-then-from-head-clause-is g c entries stands =
    let s = c.args.self.now in
    let call = head_call c.args.head in
    let of = procedure_of (setting_of s).setting (items_of entries) call in
    let some : Some c.in-Some-program_at.accepted.now ≡ option_map (accepted_of s.catalogue.tables) of = ap option_copied (sym c.in-Some-program_at.is) ∙ c.program_at.ensures entries stands in
    let count = c.args_len.ensures.length in
    let wide = c.from.ensures in
    let differs = c.if-from-head.true in
    let other : nat_eq c.in-Some-program_at.accepted.now.args_len (length call.args) ≡ false = grind (arith, nat_tests) in
    subst (λ (st : model.Standing). IsStanding {A = g.row.A.Denot} st (Nothing cause.Procedure))
    (sym (at_procedure s entries call c.args.bytes.now c.position.result stands (c.position.ensures ∙ ap (λ (x : SiteReplica). x.replica.position) c.self.view_is) c.if-head-position.false (sym c.session_cause.ensures ∙ c.in_default.is) (sym (c.is_decided.ensures.decided entries call stands refl refl) ∙ c.if-is_decided.false)
    (takes_by s.catalogue.tables c.in-Some-program_at.accepted.now of call.args some ∙ other))) refl

pub complete-requires-clause-kept : goal.complete-requires-clause-kept
complete-requires-clause-kept g c =
    subst (λ (x : SiteReplica). x.replica.position - c.args.head.snapshot ≤ x.replica.window) (sym c.self.view_is) (c.is_decided.ensures.kept c.if-is_decided.false)

pub complete-requires-clause-can : goal.complete-requires-clause-can
complete-requires-clause-can g c =
    let (entries, stands) = c.requires.stands in
    let s = c.args.self.now in
    let call = head_call c.args.head in
    let some : Some c.in-Some-program_at.accepted.now ≡ option_map (accepted_of s.catalogue.tables) (procedure_of (setting_of s).setting (items_of entries) call) = ap option_copied (sym c.in-Some-program_at.is) ∙ c.program_at.ensures entries stands in
    subst (λ (x : SiteReplica). (w : _) × (es : List Entry) × CanRun w es x.replica c.in-Some-program_at.accepted.now call) (sym c.self.view_is) ((setting_of s).setting, entries, can_run s entries c.in-Some-program_at.accepted.now call stands some)

pub returns-clause-is : goal.returns-clause-is
returns-clause-is g c entries stands =
    let s = c.args.self.now in
    let w = (setting_of s).setting in
    let call = head_call c.args.head in
    let log = items_of entries in
    let some : Some c.in-Some-program_at.accepted.now ≡ option_map (accepted_of s.catalogue.tables) (procedure_of w log call) = ap option_copied (sym c.in-Some-program_at.is) ∙ c.program_at.ensures entries stands in
    let count = c.args_len.ensures.length in
    let wide = c.from.ensures in
    let same = c.if-from-head.false in
    let as_many : nat_eq c.in-Some-program_at.accepted.now.args_len (length call.args) ≡ true = grind (arith, nat_tests) in
    let can = subst (λ (x : SiteReplica). CanRun w entries x.replica c.in-Some-program_at.accepted.now call) (sym c.self.view_is) (can_run s entries c.in-Some-program_at.accepted.now call stands some) in
    subst (λ (st : model.Standing). IsStanding {A = g.row.A.Denot} st c.standing_of_run.result)
    (sym (at_run s entries call c.args.bytes.now c.position.result stands (c.position.ensures ∙ ap (λ (x : SiteReplica). x.replica.position) c.self.view_is) c.if-head-position.false (sym c.session_cause.ensures ∙ c.in_default.is) (sym (c.is_decided.ensures.decided entries call stands refl refl) ∙ c.if-is_decided.false)
    (takes_by s.catalogue.tables c.in-Some-program_at.accepted.now (procedure_of w log call) call.args some ∙ as_many)))
    (c.standing_of_run.ensures.is w entries call (c.in_ok-completion.ensures w entries can))

pub returns-clause-ready : goal.returns-clause-ready
returns-clause-ready g c =
    let (entries, stands) = c.requires.stands in
    let s = c.args.self.now in
    let w = (setting_of s).setting in
    let call = head_call c.args.head in
    let some : Some c.in-Some-program_at.accepted.now ≡ option_map (accepted_of s.catalogue.tables) (procedure_of w (items_of entries) call) = ap option_copied (sym c.in-Some-program_at.is) ∙ c.program_at.ensures entries stands in
    let can = subst (λ (x : SiteReplica). CanRun w entries x.replica c.in-Some-program_at.accepted.now call) (sym c.self.view_is) (can_run s entries c.in-Some-program_at.accepted.now call stands some) in
    c.standing_of_run.ensures.ready w entries call (c.in_ok-completion.ensures w entries can)
