-- What is known of sessions as an order goes on: it only grows, by sessions that are opened and calls of known ones.
use Rattle.std.proofs.Common.{◌≡◌, ℕ, ◌+◌, ◌^◌, ◌≤◌, Bool, true, false, not, ◌&&◌, nat_lt, cond, is_some, List, [], ◌∷◌, ◌++◌, Option, Some, None, refl, sym, ap, subst, ◌∙◌, arith, append_assoc, append-nil}
use Rattle.std.specs.Option.{option_map}
use Rattle.std.specs.Ordering.{nat_cmp, eq_by_cmp}
use Rattle.std.specs.Cmp.{nat_cmp_total}
use Rattle.std.specs.FinMap.{get, insert, get-insert, nat_cmp-IsAntisymmetric}
use Rattle.std.proofs.lemmas.Bool.Decides.{nat_tests}
use Rattle.std.proofs.lemmas.Map.Views.{tells_apart}
use Rattle.log_model.specs.declared.request.RequestId.{RequestId}
use Rattle.log_model.specs.Log.{Call, DoneRequest}
use Rattle.log_model.specs.Entries.{Entry}
use Rattle.log_entry.specs.Head.{Head, CallHead, head_of}
use Rattle.site_model.specs.declared.cause.NothingCause.{NothingCause}
use Rattle.site_model.specs.declared.cause.NothingCause.TheVariants.{UnknownSession, Superseded}
use Rattle.site_model.specs.declared.origin.Origin.{Origin}
use Rattle.site_model.specs.declared.outcome.EntryOutcome.{EntryOutcome}
use Rattle.site_model.specs.declared.outcome.EntryOutcome.TheVariants as outcome
use Rattle.site_model.specs.Sessions.{LastRequests, Sessions, done_by, is_known, is_opening, is_superseded, nothing_done, session_cause, session_opened, sessions_with, with_done, with_done_if}
use Rattle.site_model.specs.Standing.{SiteSetting}
use Rattle.site_model.specs.Order.{Order, next_outcome, order_entries, outcome_behind, sessions_after}
use Rattle.site_model.proofs.OrderLemmas.{opens_one}
use Rattle.site_laws.specs.Settled.{WasNumbered}
use Rattle.site_laws.proofs.OutcomeLemmas.{CommitsAs, committed_from, opened_from}

-- ---- last requests

-- a session that had a last request has one, of no smaller number
abbrev pub Reach : LastRequests → LastRequests → Type 0
Reach before now = (session : ℕ) (last : DoneRequest) → get before session ≡ Some last
    → (later : DoneRequest) × (get now session ≡ Some later) × (last.request.sequence ≤ later.request.sequence)

same_reach : (lasts : LastRequests) → Reach lasts lasts
same_reach lasts session last is = (last, is, omega arith)

-- with one more request that was done
module _ (lasts : LastRequests) (done : DoneRequest) (session : ℕ) (last : DoneRequest) (is : get lasts session ≡ Some last) where
  abbrev own : ℕ
  own = done.request.session

  abbrev Reaches : Option DoneRequest → Type 0
  Reaches o = (later : DoneRequest) × (o ≡ Some later) × (last.request.sequence ≤ later.request.sequence)

  at : get (insert lasts own done) session ≡ cond (eq_by_cmp nat_cmp session own) (Some done) (get lasts session)
  at = get-insert nat_cmp_total lasts own done session

  inserted : is_superseded (get lasts own) done.request ≡ false → Reaches (get (insert lasts own done) session)
  inserted newest = by_session (eq_by_cmp nat_cmp session own) refl
    where
      by_session : (b : Bool) → eq_by_cmp nat_cmp session own ≡ b → Reaches (get (insert lasts own done) session)
      by_session false e = (last, at ∙ ap (λ (b : Bool). cond b (Some done) (get lasts session)) e ∙ is, omega arith)
      by_session true e =
          let same : session ≡ own = tells_apart {R = nat_cmp} nat_cmp-IsAntisymmetric session own e in
          let tested : nat_lt done.request.sequence last.request.sequence ≡ false =
          sym (ap (λ (o : Option DoneRequest). is_superseded o done.request) (sym (ap (get lasts) same) ∙ is)) ∙ newest in
          (done, at ∙ ap (λ (b : Bool). cond b (Some done) (get lasts session)) e, grind (arith, nat_tests))

  done_reaches : Reaches (get (with_done lasts done) session)
  done_reaches = by_test (is_superseded (get lasts own) done.request) refl
    where
      by_test : (b : Bool) → is_superseded (get lasts own) done.request ≡ b → Reaches (get (cond b lasts (insert lasts own done)) session)
      by_test true e = (last, is, omega arith)
      by_test false e = inserted e

reach_if : (lasts : LastRequests) (o : Option DoneRequest) → Reach lasts (with_done_if lasts o)
reach_if lasts None = same_reach lasts
reach_if lasts (Some done) = done_reaches lasts done

-- ---- all that is known

abbrev pub KnowsMore : Sessions → Sessions → Type 0
KnowsMore before now = Reach before.lasts now.lasts

one_more : (known : Sessions) (bytes : List ℕ) (o : EntryOutcome) → KnowsMore known (sessions_with known bytes o)
one_more known bytes o = reach_if known.lasts (done_by o (head_of bytes))

and_then : (a b c : Sessions) → KnowsMore a b → KnowsMore b c → KnowsMore a c
and_then a b c first second session last is =
    let (later, at, reaches) = first session last is in
    let (latest, there, still) = second session later at in
    (latest, there, omega (arith, reaches, still))

-- what a lower law says
abbrev pub SessionsGoOn : Type 0
SessionsGoOn = (s : SiteSetting) (order : Order) (bytes : List ℕ) → sessions_after s (order ++ bytes ∷ []) ≡ sessions_with (sessions_after s order) bytes (next_outcome s order bytes)

-- what each byte string keeps of what is known, an order keeps that goes on
pub kept_along : SessionsGoOn → (s : SiteSetting) (P : Sessions → Type 0) → ((known : Sessions) (entries : List Entry) (bytes : List ℕ) → P known → P (sessions_with known bytes (outcome_behind s known entries bytes)))
    → (order more : Order) → P (sessions_after s order) → P (sessions_after s (order ++ more))
kept_along next s P step order [] is = subst (λ (o : Order). P (sessions_after s o)) (sym (append-nil order)) is
kept_along next s P step order (bytes ∷ more) is =
    subst (λ (o : Order). P (sessions_after s o)) (append_assoc order (bytes ∷ []) more)
    (kept_along next s P step (order ++ bytes ∷ []) more (subst P (sym (next s order bytes)) (step (sessions_after s order) (order_entries s order) bytes is)))

pub more_known : SessionsGoOn → (s : SiteSetting) (order more : Order) → KnowsMore (sessions_after s order) (sessions_after s (order ++ more))
more_known next s order more =
    kept_along next s (KnowsMore (sessions_after s order))
    (λ known entries bytes so_far. let o = outcome_behind s known entries bytes in and_then (sessions_after s order) known (sessions_with known bytes o) so_far (one_more known bytes o))
    order more (same_reach (sessions_after s order).lasts)

-- ---- what stands against a call for its session's sake

-- nothing does only where its session is known
pub known_session : (origin : Origin) (known : Sessions) (request : RequestId) → session_cause (Some origin) known (Some request) ≡ None → is_known known request.session ≡ true
known_session origin known request none = by_test (is_known known request.session) refl
  where
    by_test : (b : Bool) → is_known known request.session ≡ b → is_known known request.session ≡ true
    by_test true e = e
    by_test false e =
        absurd (let bad : Some UnknownSession ≡ None = sym (ap (λ (b : Bool). cond (not b) (Some UnknownSession) (cond (is_superseded (get known.lasts request.session) request) (Some Superseded) None)) e) ∙ none in cc)

module _ (origin : Origin) (before now : Sessions) (more : KnowsMore before now) where
  -- a session that is known stays so
  stays_known : (session : ℕ) → is_known before session ≡ true → is_known now session ≡ true
  stays_known session = by_last (get before.lasts session) refl
    where
      by_last : (o : Option DoneRequest) → get before.lasts session ≡ o → is_some o ≡ true → is_known now session ≡ true
      by_last (Some last) is e = let (later, at, reaches) = more session last is in ap (λ (o : Option DoneRequest). is_some o) at
      by_last None is e = absurd cc

  -- a call that nothing stood against is at most superseded
  in_session_or_superseded : (request : RequestId) (why : NothingCause) → session_cause (Some origin) before (Some request) ≡ None → session_cause (Some origin) now (Some request) ≡ Some why → why ≡ Superseded
  in_session_or_superseded request why none some =
      by_test (is_superseded (get now.lasts request.session) request)
      (sym (ap (λ (b : Bool). cond (not b) (Some UnknownSession) (cond (is_superseded (get now.lasts request.session) request) (Some Superseded) None)) (stays_known request.session (known_session origin before request none))) ∙ some)
    where
      by_test : (b : Bool) → cond b (Some Superseded) None ≡ Some why → why ≡ Superseded
      by_test true e = let same : Superseded ≡ why = cc in sym same
      by_test false e = absurd cc

  -- what is superseded stays so
  stays_superseded : (request : RequestId) → is_superseded (get before.lasts request.session) request ≡ true → is_superseded (get now.lasts request.session) request ≡ true
  stays_superseded request = by_last (get before.lasts request.session) refl
    where
      by_last : (o : Option DoneRequest) → get before.lasts request.session ≡ o → is_superseded o request ≡ true → is_superseded (get now.lasts request.session) request ≡ true
      by_last None is e = absurd cc
      by_last (Some last) is e =
          let (later, at, reaches) = more request.session last is in
          let above : nat_lt request.sequence later.request.sequence ≡ true = grind (arith, nat_tests) in
          ap (λ (o : Option DoneRequest). is_superseded o request) at ∙ above

  out_of_session_stays : (request : RequestId) (why : NothingCause) → is_known before request.session ≡ true → session_cause (Some origin) before (Some request) ≡ Some why
      → session_cause (Some origin) now (Some request) ≡ Some Superseded
  out_of_session_stays request why known out =
      let newer = stays_superseded request (by_test (is_superseded (get before.lasts request.session) request) refl
      (sym (ap (λ (b : Bool). cond (not b) (Some UnknownSession) (cond (is_superseded (get before.lasts request.session) request) (Some Superseded) None)) known) ∙ out)) in
      let still = stays_known request.session known in
      λ i. cond (not (still i)) (Some UnknownSession) (cond (newer i) (Some Superseded) None)
    where
      by_test : (b : Bool) → is_superseded (get before.lasts request.session) request ≡ b → cond b (Some Superseded) None ≡ Some why → is_superseded (get before.lasts request.session) request ≡ true
      by_test true is e = is
      by_test false is e = absurd cc

pub at_most_superseded : (origin : Option Origin) (before now : Sessions) (request : Option RequestId) (why : NothingCause) → KnowsMore before now → session_cause origin before request ≡ None → session_cause origin now request ≡ Some why
    → why ≡ Superseded
at_most_superseded None before now request why more none some = absurd cc
at_most_superseded (Some origin) before now None why more none some = absurd cc
at_most_superseded (Some origin) before now (Some request) why more none some = in_session_or_superseded origin before now more request why none some

-- ---- a session that was numbered and isn't known stays unknown

-- it was numbered, and has no last request
record IsPast (origin : Origin) (known : Sessions) (session : ℕ) : Type 0 where
  early : session ≤ origin.sessions + known.opened
  none : get known.lasts session ≡ None

has_none : (known : Sessions) (session : ℕ) → is_known known session ≡ false → get known.lasts session ≡ None
has_none known session = by_last (get known.lasts session) refl
  where
    by_last : (o : Option DoneRequest) → get known.lasts session ≡ o → is_some o ≡ false → get known.lasts session ≡ None
    by_last (Some last) is e = absurd cc
    by_last None is e = is

past_unknown : (origin : Origin) (known : Sessions) (session : ℕ) → IsPast origin known session → is_known known session ≡ false
past_unknown origin known session past = ap (λ (o : Option DoneRequest). is_some o) past.none

-- what a byte string does of sessions: nothing; or it opens one; or it is a call that commits, against which nothing is
pub session_cases : (s : SiteSetting) (known : Sessions) (entries : List Entry) (bytes : List ℕ) (P : LastRequests → Type 0) → P known.lasts
    → ((opened : ℕ) → outcome_behind s known entries bytes ≡ outcome.Session opened → session_opened s.origin known.opened bytes ≡ Some opened → P (with_done known.lasts (nothing_done opened)))
    → ((done : DoneRequest) (call : Call) (told : ℕ) → head_of bytes ≡ Some (CallHead call told) → call.request ≡ Some done.request → session_cause s.origin known (Some done.request) ≡ None → P (with_done known.lasts done))
    → P (sessions_with known bytes (outcome_behind s known entries bytes)).lasts
session_cases s known entries bytes P same opens commits = by_outcome (outcome_behind s known entries bytes) refl
  where
    by_request : (reply : ℕ) (call : Call) (told : ℕ) → CommitsAs s known entries bytes call told → (r : Option RequestId) → call.request ≡ r
        → P (with_done_if known.lasts (option_map (λ request. record { request = request; reply = reply; procedure = call.procedure; args = call.args }) r))
    by_request reply call told is None e = same
    by_request reply call told is (Some request) e =
        commits (record { request = request; reply = reply; procedure = call.procedure; args = call.args }) call told is.head e (sym (ap (session_cause s.origin known) e) ∙ is.in_session)

    by_outcome : (o : EntryOutcome) → outcome_behind s known entries bytes ≡ o → P (with_done_if known.lasts (done_by o (head_of bytes)))
    by_outcome (outcome.Session opened) e = opens opened e (opened_from s known entries bytes opened e)
    by_outcome (outcome.Committed reply) e =
        let (call, told, is) = committed_from s known entries bytes reply e in
        subst (λ (h : Option Head). P (with_done_if known.lasts (done_by (outcome.Committed reply) h))) (sym is.head) (by_request reply call told is call.request refl)
    by_outcome (outcome.Conflict position) e = same
    by_outcome outcome.Stale e = same
    by_outcome (outcome.Repeated position reply) e = same
    by_outcome (outcome.Added number) e = same
    by_outcome (outcome.Taken identifier) e = same
    by_outcome (outcome.Nothing cause) e = same

-- a session is numbered behind those that were opened before
pub opens_behind : (origin : Origin) (opened : ℕ) (bytes : List ℕ) (session : ℕ) → session_opened (Some origin) opened bytes ≡ Some session → session ≡ origin.sessions + opened + 1
opens_behind origin opened bytes session = by_test (is_opening bytes && nat_lt (origin.sessions + opened + 1) (2 ^ 32))
  where
    by_test : (b : Bool) → cond b (Some (origin.sessions + opened + 1)) None ≡ Some session → session ≡ origin.sessions + opened + 1
    by_test true e = let same : origin.sessions + opened + 1 ≡ session = cc in sym same
    by_test false e = absurd cc

module _ (s : SiteSetting) (origin : Origin) (has : s.origin ≡ Some origin) (session : ℕ) where
  module _ (known : Sessions) (entries : List Entry) (bytes : List ℕ) (past : IsPast origin known session) where
    abbrev told : EntryOutcome
    told = outcome_behind s known entries bytes

    -- another session has done something
    others : (done : DoneRequest) → (session ≡ done.request.session → ⊥) → get (with_done known.lasts done) session ≡ None
    others done other = elim (is_superseded (get known.lasts done.request.session) done.request) as (λ b. get (cond b known.lasts (insert known.lasts done.request.session done)) session ≡ None) [
      | true ↦ past.none
      | false ↦ get-insert nat_cmp_total known.lasts done.request.session done session ∙ by_session (eq_by_cmp nat_cmp session done.request.session) refl
    ]
      where
        by_session : (b : Bool) → eq_by_cmp nat_cmp session done.request.session ≡ b → cond b (Some done) (get known.lasts session) ≡ None
        by_session false e = past.none
        by_session true e = absurd (other (tells_apart {R = nat_cmp} nat_cmp-IsAntisymmetric session done.request.session e))

    is_opened : (opened : ℕ) → session_opened s.origin known.opened bytes ≡ Some opened → session ≡ opened → ⊥
    is_opened opened opens same =
        let behind = opens_behind origin known.opened bytes opened (ap (λ (o : Option Origin). session_opened o known.opened bytes) (sym has) ∙ opens) in
        let early = past.early in
        omega arith

    -- nothing was against a call that committed
    is_committed : (done : DoneRequest) → session_cause s.origin known (Some done.request) ≡ None → session ≡ done.request.session → ⊥
    is_committed done within same =
        let is = known_session origin known done.request (ap (λ (o : Option Origin). session_cause o known (Some done.request)) (sym has) ∙ within) in
        let bad : true ≡ false = sym is ∙ ap (is_known known) (sym same) ∙ past_unknown origin known session past in
        cc

    past_next : IsPast origin (sessions_with known bytes told) session
    past_next =
        let early = past.early in
        let grows = (opens_one known.opened told).0 in
        record {
          early = omega arith;
          none = session_cases s known entries bytes (λ lasts. get lasts session ≡ None) past.none
              (λ opened e opens. others (nothing_done opened) (is_opened opened opens)) (λ done call told head carries within. others done (is_committed done within));
        }

  past_later : SessionsGoOn → (order more : Order) → IsPast origin (sessions_after s order) session → IsPast origin (sessions_after s (order ++ more)) session
  past_later next = kept_along next s (λ known. IsPast origin known session) past_next

-- what is against a call of a session that was numbered stays so
pub stays_against : SessionsGoOn → (s : SiteSetting) (order more : Order) (origin : Origin) (request : RequestId) (why : NothingCause) → s.origin ≡ Some origin → WasNumbered origin (sessions_after s order) request
    → session_cause (Some origin) (sessions_after s order) (Some request) ≡ Some why → (later : NothingCause) × (session_cause (Some origin) (sessions_after s (order ++ more)) (Some request) ≡ Some later)
stays_against next s order more origin request why has numbered against = by_known (is_known (sessions_after s order) request.session) refl
  where
    now : Sessions
    now = sessions_after s (order ++ more)

    by_known : (b : Bool) → is_known (sessions_after s order) request.session ≡ b → (later : NothingCause) × (session_cause (Some origin) now (Some request) ≡ Some later)
    by_known true e = (Superseded, out_of_session_stays origin (sessions_after s order) now (more_known next s order more) request why e against)
    by_known false e =
        let past = past_later s origin has request.session next order more (record { early = numbered; none = has_none (sessions_after s order) request.session e }) in
        (UnknownSession, ap (λ (b : Bool). cond (not b) (Some UnknownSession) (cond (is_superseded (get now.lasts request.session) request) (Some Superseded) None)) (past_unknown origin now request.session past))
