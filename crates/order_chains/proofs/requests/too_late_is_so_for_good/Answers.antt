use Rattle.std.proofs.Common.{◌≡◌, ◌∷◌, [], ◌++◌, List, length, Option, Some, ap, sym, subst, ◌∙◌, arith, append_assoc}
use Rattle.std.specs.Option.{option_map}
use Rattle.std.specs.FinMap.{get}
use Rattle.log_model.specs.Log.{DoneRequest}
use Rattle.site_model.specs.declared.origin.Origin.{Origin}
use Rattle.site_model.specs.Sessions.{session_cause}
use Rattle.site_model.specs.Standing.{SiteSetting}
use Rattle.site_model.specs.Order.{Order, order_entries, sessions_after}
use Rattle.site_model.specs.Next.{origin_behind}
use Rattle.site_laws.proofs.SessionLemmas.{more_known}
use Rattle.order_chains.specs.GoingOn.{GoesOn, IsTooLate}
use Rattle.order_chains.proofs.RequestLemmas.{all_numbered, committed_is_last, late_against, late_behind, late_later, never_late}
use Rattle.order_chains.proofs.requests.too_late_is_so_for_good.Goals as goal

-- the origin of settings that go on
opens_next : (s t : SiteSetting) (order : Order) (origin : Origin) → s.origin ≡ Some origin → GoesOn s order t → t.origin ≡ Some (origin_behind origin (length order) (sessions_after s order))
opens_next s t order origin has on =
    on.origin ∙ ap (option_map (λ (origin : Origin). origin_behind origin (length order) (sessions_after s order))) has

one_last : (o : Option DoneRequest) (a b : DoneRequest) → o ≡ Some a → o ≡ Some b → a ≡ b
one_last o a b first second = let same : Some a ≡ Some b = sym first ∙ second in cc

pub returns-clause-never : goal.returns-clause-never
returns-clause-never c t order bytes request call told reply late some head carries commits =
    never_late t late.origin late.opens request (sessions_after t order) (order_entries t order) bytes call told reply
    (late_behind c.sessions_go_on.ensures.next t request late (c.sessions_go_on.ensures.first t) some order) head carries commits

pub returns-clause-stays : goal.returns-clause-stays
returns-clause-stays c t u order request late some on =
    let behind = late_behind c.sessions_go_on.ensures.next t request late (c.sessions_go_on.ensures.first t) some order in
    record {
      origin = origin_behind late.origin (length order) (sessions_after t order);
      opens = opens_next t u order late.origin late.opens on;
      numbered = behind.numbered;
      last = λ d is. (behind.last d (on.lasts request.session d is)).0;
    }

pub returns-clause-committed : goal.returns-clause-committed
returns-clause-committed c s t order more bytes request call told reply origin has are head carries commits on =
    let whole = order ++ bytes ∷ more in
    let next = c.sessions_go_on.ensures.next in
    let (last, is, same) = committed_is_last s origin has next order bytes request call told reply head carries commits in
    let (later, at, reaches) = more_known next s (order ++ bytes ∷ []) more request.session last is in
    let there : get (sessions_after s whole).lasts request.session ≡ Some later =
    subst (λ (o : Order). get (sessions_after s o).lasts request.session ≡ Some later) (append_assoc order (bytes ∷ []) more) at in
    record {
      origin = origin_behind origin (length whole) (sessions_after s whole);
      opens = opens_next s t whole origin has on;
      numbered = all_numbered s origin has next (c.sessions_go_on.ensures.first s) are whole request.session later there;
      last = λ d found.
          let equal = one_last (get (sessions_after s whole).lasts request.session) later d there (on.lasts request.session d found) in
          let number = ap (λ (x : DoneRequest). x.request.sequence) equal in
          let done = ap (λ r. r.sequence) same in
          omega (arith, number, done, reaches);
    }

pub returns-clause-out_of_session : goal.returns-clause-out_of_session
returns-clause-out_of_session c s t order more request why origin has numbered against on =
    let late = late_later s origin has request c.sessions_go_on.ensures.next order more
    (late_against s origin request (sessions_after s order) why numbered (sym (ap (λ (o : Option Origin). session_cause o (sessions_after s order) (Some request)) has) ∙ against)) in
    record {
      origin = origin_behind origin (length (order ++ more)) (sessions_after s (order ++ more));
      opens = opens_next s t (order ++ more) origin has on;
      numbered = late.numbered;
      last = λ d is. (late.last d (on.lasts request.session d is)).0;
    }
