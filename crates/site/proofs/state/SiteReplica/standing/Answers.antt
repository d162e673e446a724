use Rattle.std.proofs.Common.{◌≡◌, ◌∙◌, None, Some, option_map, refl, sym, ap, subst}
use Rattle.log_model.specs.Entries.{items_of}
use Rattle.log_entry.specs.Head.{head_of, CallHead, AdditionHead}
use Rattle.log_entry.specs.Named.{named_of}
use Rattle.log_entry.specs.Named.{named}
use Rattle.site_model.specs.declared.cause.NothingCause.TheVariants as cause
use Rattle.site_model.specs.Sessions.{session_opened}
use Rattle.site_model.specs.Standing as model
use Rattle.site.specs.Replica.{SiteReplica, setting_of}
use Rattle.site.specs.Standing.{IsStanding, head_call}
use Rattle.site.specs.declared.standing.Standing.TheVariants.{Nothing, Opens}
use Rattle.site.proofs.SiteLemmas.{stands_by, stands_opened, call_is, addition_is}
use Rattle.site.proofs.state.SiteReplica.standing.Goals as goal

pub returns-in-Some-clause-is : goal.returns-in-Some-clause-is
returns-in-Some-clause-is g c entries stands =
    let s = c.args.self.now in
    let opens : session_opened (setting_of s).origin s.sessions.opened c.args.bytes.now ≡ Some c.in-Some.session =
    ap (λ (x : SiteReplica). session_opened x.origin x.sessions.opened c.args.bytes.now) (sym c.self.view_is) ∙ sym c.opened_by.ensures ∙ c.in-Some.is in
    subst (λ (st : model.Standing). IsStanding {A = g.row.A.Denot} st (Opens c.in-Some.session)) (sym (stands_opened (setting_of s) s.sessions (items_of entries) c.args.bytes.now c.in-Some.session opens)) refl

pub returns-in-None-clause-is : goal.returns-in-None-clause-is
returns-in-None-clause-is g c entries stands =
    let none : session_opened (setting_of c.args.self.now).origin c.args.self.now.sessions.opened c.args.bytes.now ≡ None =
    ap (λ (x : SiteReplica). session_opened x.origin x.sessions.opened c.args.bytes.now) (sym c.self.view_is) ∙ sym c.opened_by.ensures ∙ c.in_default.is in
    let head : head_of c.args.bytes.now ≡ None = sym c.head_of.ensures ∙ ap (option_map named) c.in-None.is in
    subst (λ (st : model.Standing). IsStanding {A = g.row.A.Denot} st (Nothing cause.Unreadable)) (sym (stands_by (setting_of c.args.self.now) c.args.self.now.sessions (items_of entries) c.args.bytes.now None none head)) refl

pub returns-in-Some-Call-clause-is : goal.returns-in-Some-Call-clause-is
returns-in-Some-Call-clause-is g c =
    let none : session_opened (setting_of c.args.self.now).origin c.args.self.now.sessions.opened c.args.bytes.now ≡ None =
    ap (λ (x : SiteReplica). session_opened x.origin x.sessions.opened c.args.bytes.now) (sym c.self.view_is) ∙ sym c.opened_by.ensures ∙ c.in_default.is in
    let head : head_of c.args.bytes.now ≡ Some (CallHead (head_call c.in-Some-Call.head) c.in-Some-Call.head.reply) = sym c.head_of.ensures ∙ ap (option_map named) (c.in-Some-Call.is ∙ ap Some c.in-Some-Call.field-0-is) in
    call_is c.args.self.now c.args.bytes.now none (head_call c.in-Some-Call.head) c.in-Some-Call.head.reply c.call_standing.result head c.call_standing.ensures.is

pub returns-in-Some-Addition-clause-is : goal.returns-in-Some-Addition-clause-is
returns-in-Some-Addition-clause-is g c =
    let none : session_opened (setting_of c.args.self.now).origin c.args.self.now.sessions.opened c.args.bytes.now ≡ None =
    ap (λ (x : SiteReplica). session_opened x.origin x.sessions.opened c.args.bytes.now) (sym c.self.view_is) ∙ sym c.opened_by.ensures ∙ c.in_default.is in
    let head : head_of c.args.bytes.now ≡ Some (AdditionHead (named_of c.in-Some-Addition.head)) = sym c.head_of.ensures ∙ ap (option_map named) (c.in-Some-Addition.is ∙ ap Some c.in-Some-Addition.field-0-is) in
    addition_is c.args.self.now c.args.bytes.now none (named_of c.in-Some-Addition.head) c.addition_standing.result head c.addition_standing.ensures.is
