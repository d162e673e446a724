-- Requests over orders, each of which goes on where the one before it stopped.
use Rattle.std.proofs.Common.{◌≡◌, ℕ, suc, ◌+◌, ◌-◌, ◌≤◌, ◌<◌, ◌==◌, Bool, true, false, not, ◌&&◌, ◌||◌, nat_le, nat_lt, cond, is_some, List, [], ◌∷◌, ◌++◌, length, find, Option, Some, None, refl, sym, ap, subst, ◌∙◌, arith, append_assoc, append-nil}
use Rattle.std.specs.List.{AllByRecursion, fold}
use Rattle.std.specs.Option.{option_map}
use Rattle.std.specs.Ordering.{nat_cmp, eq_by_cmp, is_eq}
use Rattle.std.specs.Cmp.{nat_cmp_total, tied_itself}
use Rattle.std.specs.FinMap.{empty, get, insert, get-empty, get-insert, nat_cmp-IsAntisymmetric}
use Rattle.std.proofs.lemmas.Bool.Decides.{nat_tests}
use Rattle.std.proofs.lemmas.Map.Views.{tells_apart}
use Rattle.log_model.specs.declared.request.RequestId.{RequestId}
use Rattle.log_model.specs.declared.verdict.Verdict.{Verdict}
use Rattle.log_model.specs.declared.verdict.Verdict.TheVariants as verdict
use Rattle.log_model.specs.Log.{Call, CertifiedItem, DoneRequest, done_at, done_under, first_position, first_repeated, history, repeats, same_request, verdict_of, was_done}
use Rattle.log_model.specs.Entries.{Entry, items_of}
use Rattle.log_entry.specs.Head.{Head, CallHead, head_of}
use Rattle.site_model.specs.declared.cause.NothingCause.{NothingCause}
use Rattle.site_model.specs.declared.cause.NothingCause.TheVariants.{UnknownSession, Superseded}
use Rattle.site_model.specs.declared.origin.Origin.{Origin}
use Rattle.site_model.specs.declared.outcome.EntryOutcome.{EntryOutcome}
use Rattle.site_model.specs.declared.outcome.EntryOutcome.TheVariants as outcome
use Rattle.site_model.specs.Sessions.{LastRequests, Sessions, done_by, is_superseded, lasts_of, nothing_done, opened_with, session_cause, session_opened, sessions_with, told_of, with_done, with_done_if}
use Rattle.site_model.specs.Standing.{SiteSetting, is_decided}
use Rattle.site_model.specs.Order.{Order, next_outcome, order_entries, outcome_behind, request_in, sessions_after}
use Rattle.site_model.proofs.OrderLemmas.{opens_one}
use Rattle.site_laws.proofs.OutcomeLemmas.{committed_from, undecided_from}
use Rattle.site_laws.proofs.SessionLemmas.{SessionsGoOn, kept_along, opens_behind, session_cases}
use Rattle.order_chains.specs.GoingOn.{AreNumbered, IsTooLate, first_lasts}

-- ---- last requests

-- the last request of a session, with one more request that was done: that, or as before
module _ (lasts : LastRequests) (done : DoneRequest) (session : ℕ) (P : Option DoneRequest → Type 0)
    (same : P (get lasts session)) (new : session ≡ done.request.session → is_superseded (get lasts done.request.session) done.request ≡ false → P (Some done)) where
  by_session : is_superseded (get lasts done.request.session) done.request ≡ false → (b : Bool) → eq_by_cmp nat_cmp session done.request.session ≡ b → P (cond b (Some done) (get lasts session))
  by_session newest false e = same
  by_session newest true e = new (tells_apart {R = nat_cmp} nat_cmp-IsAntisymmetric session done.request.session e) newest

  pub last_cases : P (get (with_done lasts done) session)
  last_cases = by_test (is_superseded (get lasts done.request.session) done.request) refl
    where
      by_test : (b : Bool) → is_superseded (get lasts done.request.session) done.request ≡ b → P (get (cond b lasts (insert lasts done.request.session done)) session)
      by_test true e = same
      by_test false e = subst P (sym (get-insert nat_cmp_total lasts done.request.session done session)) (by_session e (eq_by_cmp nat_cmp session done.request.session) refl)

-- that which is done is the last, where its session has done none of a greater number
done_is_last : (lasts : LastRequests) (done : DoneRequest) → is_superseded (get lasts done.request.session) done.request ≡ false → get (with_done lasts done) done.request.session ≡ Some done
done_is_last lasts done newest =
    ap (λ (b : Bool). get (cond b lasts (insert lasts done.request.session done)) done.request.session) newest
    ∙ get-insert nat_cmp_total lasts done.request.session done done.request.session
    ∙ ap (λ o. cond (is_eq o) (Some done) (get lasts done.request.session)) (tied_itself nat_cmp_total done.request.session)

-- ---- before an order

same_itself : (r : RequestId) → same_request (Some r) (Some r) ≡ true
same_itself r =
    let session : (r.session == r.session) ≡ true = grind (arith, nat_tests) in
    let sequence : (r.sequence == r.sequence) ≡ true = grind (arith, nat_tests) in
    λ i. session i && sequence i

is_found : (front rest : List DoneRequest) (d : DoneRequest) → was_done (front ++ d ∷ rest) (Some d.request) ≡ true
is_found [] rest d = ap (λ (b : Bool). is_some (cond b (Some d) (done_under rest (Some d.request)))) (same_itself d.request)
is_found (x ∷ front) rest d = elim (same_request (Some d.request) (Some x.request)) as (λ b. is_some (cond b (Some x) (done_under (front ++ d ∷ rest) (Some d.request))) ≡ true) [
  | true ↦ refl
  | false ↦ is_found front rest d
]

-- a last request of a number above 0 was told of, and each is of its session
record IsTold (all : List DoneRequest) (session : ℕ) (last : DoneRequest) : Type 0 where
  of_session : last.request.session ≡ session
  told : 1 ≤ last.request.sequence → was_done all (Some last.request) ≡ true

abbrev AreTold : List DoneRequest → LastRequests → Type 0
AreTold all lasts = (session : ℕ) (last : DoneRequest) → get lasts session ≡ Some last → IsTold all session last

some_is : {X : Type 0} (a b : X) → Some a ≡ Some b → a ≡ b
some_is a b e = cc

told_one : (origin : Option Origin) (front rest : List DoneRequest) (d : DoneRequest) (session : ℕ) → session ≡ (told_of origin d).request.session → IsTold (front ++ d ∷ rest) session (told_of origin d)
told_one None front rest d session same = record { of_session = sym same; told = λ _. is_found front rest d }
told_one (Some origin) front rest d session same = by_test (d.request.sequence == 0) same
  where
    by_test : (b : Bool) → session ≡ (cond b (nothing_done d.request.session) d).request.session → IsTold (front ++ d ∷ rest) session (cond b (nothing_done d.request.session) d)
    by_test true same = record { of_session = sym same; told = λ few. absurd (omega (arith, few)) }
    by_test false same = record { of_session = sym same; told = λ _. is_found front rest d }

told_from : (origin : Option Origin) (front rest : List DoneRequest) (lasts : LastRequests) → AreTold (front ++ rest) lasts → AreTold (front ++ rest) (fold (λ lasts d. with_done lasts (told_of origin d)) lasts rest)
told_from origin front [] lasts told = told
told_from origin front (d ∷ rest) lasts told =
    subst (λ (all : List DoneRequest). AreTold all (fold (λ lasts d. with_done lasts (told_of origin d)) (with_done lasts (told_of origin d)) rest)) (append_assoc front (d ∷ []) rest)
    (told_from origin (front ++ d ∷ []) rest (with_done lasts (told_of origin d))
    (subst (λ (all : List DoneRequest). AreTold all (with_done lasts (told_of origin d))) (sym (append_assoc front (d ∷ []) rest)) with_one))
  where
    with_one : AreTold (front ++ d ∷ rest) (with_done lasts (told_of origin d))
    with_one session last =
        last_cases lasts (told_of origin d) session (λ o. o ≡ Some last → IsTold (front ++ d ∷ rest) session last) (told session last)
        (λ same newest e. subst (IsTold (front ++ d ∷ rest) session) (some_is (told_of origin d) last e) (told_one origin front rest d session same))

told_before : (origin : Option Origin) (all : List DoneRequest) → AreTold all (lasts_of origin all)
told_before origin all = told_from origin [] all empty (λ session last is. absurd (let none : None ≡ Some last = sym (get-empty nat_cmp session) ∙ is in cc))

-- ---- sessions are numbered

abbrev IsNumbered : ℕ → LastRequests → Type 0
IsNumbered most lasts = (session : ℕ) (last : DoneRequest) → get lasts session ≡ Some last → session ≤ most

numbered_from : (origin : Option Origin) (most : ℕ) (rest : List DoneRequest) (lasts : LastRequests) → AllByRecursion (λ d. d.request.session ≤ most) rest → IsNumbered most lasts → IsNumbered most (fold (λ lasts d. with_done lasts (told_of origin d)) lasts rest)
numbered_from origin most [] lasts few is = is
numbered_from origin most (d ∷ rest) lasts few is = numbered_from origin most rest (with_done lasts (told_of origin d)) few.1 with_one
  where
    same_session : (o : Option Origin) → (told_of o d).request.session ≡ d.request.session
    same_session None = refl
    same_session (Some x) = elim (d.request.sequence == 0) as (λ b. (cond b (nothing_done d.request.session) d).request.session ≡ d.request.session) [
      | true ↦ refl
      | false ↦ refl
    ]

    with_one : IsNumbered most (with_done lasts (told_of origin d))
    with_one session last =
        last_cases lasts (told_of origin d) session (λ o. o ≡ Some last → session ≤ most) (is session last)
        (λ same newest e. let at : session ≡ d.request.session = same ∙ same_session origin in let le = few.0 in omega arith)

-- ---- what is known of a request as an order goes on

-- its session was numbered; what that has done last isn't below the request, and is the request only where it was done before
pub record IsLate (t : SiteSetting) (origin : Origin) (request : RequestId) (known : Sessions) : Type 0 where
  pub numbered : request.session ≤ origin.sessions + known.opened
  pub last : (d : DoneRequest) → get known.lasts request.session ≡ Some d
      → (request.sequence ≤ d.request.sequence) × (d.request.sequence ≡ request.sequence → was_done t.setting.beginning.requests (Some request) ≡ true)

-- a call against which nothing stands is of a session that has done none of a greater number
record IsNewest (known : Sessions) (request : RequestId) : Type 0 where
  last : DoneRequest
  is : get known.lasts request.session ≡ Some last
  newest : last.request.sequence ≤ request.sequence

is_newest : (origin : Origin) (known : Sessions) (request : RequestId) → session_cause (Some origin) known (Some request) ≡ None → IsNewest known request
is_newest origin known request none = by_last (get known.lasts request.session) refl none
  where
    by_last : (o : Option DoneRequest) → get known.lasts request.session ≡ o → cond (not (is_some o)) (Some UnknownSession) (cond (is_superseded o request) (Some Superseded) None) ≡ None → IsNewest known request
    by_last None e n = absurd cc
    by_last (Some last) e n = by_test (nat_lt request.sequence last.request.sequence) refl n
      where
        by_test : (b : Bool) → nat_lt request.sequence last.request.sequence ≡ b → cond b (Some Superseded) None ≡ None → IsNewest known request
        by_test true lt n = absurd cc
        by_test false lt n = record { last = last; is = e; newest = grind (arith, nat_tests) }

decided_where_done : (t : SiteSetting) (entries : List Entry) (call : Call) → was_done t.setting.beginning.requests call.request ≡ true → is_decided t.setting (items_of entries) call ≡ true
decided_where_done t entries call done =
    ap (λ (b : Bool). is_some (cond b (Some 0) (first_position (repeats call.request) 1 (history t.setting (items_of entries)).certified)) || not (nat_le (length (items_of entries) - call.snapshot) t.setting.window)) done

pub never_where_done : (t : SiteSetting) (known : Sessions) (entries : List Entry) (bytes : List ℕ) (call : Call) (told reply : ℕ) → head_of bytes ≡ Some (CallHead call told) → was_done t.setting.beginning.requests call.request ≡ true → outcome_behind t known entries bytes ≡ outcome.Committed reply → ⊥
never_where_done t known entries bytes call told reply head done commits =
    absurd (let bad : true ≡ false = sym (decided_where_done t entries call done) ∙ undecided_from t known entries bytes call told reply head commits in cc)

module _ (t : SiteSetting) (origin : Origin) (has : t.origin ≡ Some origin) (request : RequestId) where
  pub never_late : (known : Sessions) (entries : List Entry) (bytes : List ℕ) (call : Call) (told reply : ℕ) → IsLate t origin request known → head_of bytes ≡ Some (CallHead call told) → call.request ≡ Some request → outcome_behind t known entries bytes ≡ outcome.Committed reply → ⊥
  never_late known entries bytes call told reply late head carries commits =
      let (other, replied, is) = committed_from t known entries bytes reply commits in
      let same : other.request ≡ Some request = ap request_in (sym is.head ∙ head) ∙ carries in
      let n = is_newest origin known request (sym (λ i. session_cause (has i) known (same i)) ∙ is.in_session) in
      let (reaches, done) = late.last n.last n.is in
      let newest = n.newest in
      let equal : n.last.request.sequence ≡ request.sequence = omega arith in
      never_where_done t known entries bytes call told reply head (ap (was_done t.setting.beginning.requests) carries ∙ done equal) commits

  module _ (known : Sessions) (entries : List Entry) (bytes : List ℕ) (late : IsLate t origin request known) where
    abbrev said : EntryOutcome
    said = outcome_behind t known entries bytes

    abbrev Last : Option DoneRequest → Type 0
    Last o = (d : DoneRequest) → o ≡ Some d → (request.sequence ≤ d.request.sequence) × (d.request.sequence ≡ request.sequence → was_done t.setting.beginning.requests (Some request) ≡ true)

    with_opened : (opened : ℕ) → session_opened t.origin known.opened bytes ≡ Some opened → Last (get (with_done known.lasts (nothing_done opened)) request.session)
    with_opened opened opens = last_cases known.lasts (nothing_done opened) request.session Last late.last
        (λ same newest. absurd (
        let behind = opens_behind origin known.opened bytes opened (ap (λ (o : Option Origin). session_opened o known.opened bytes) (sym has) ∙ opens) in
        let numbered = late.numbered in
        omega arith))

    with_committed : (done : DoneRequest) → session_cause t.origin known (Some done.request) ≡ None → Last (get (with_done known.lasts done) request.session)
    with_committed done within = last_cases known.lasts done request.session Last late.last (λ same newest d is.
        let n = is_newest origin known done.request (ap (λ (o : Option Origin). session_cause o known (Some done.request)) (sym has) ∙ within) in
        let (reaches, was) = late.last n.last (ap (get known.lasts) same ∙ n.is) in
        let rises = n.newest in
        let number : done.request.sequence ≡ d.request.sequence = ap (λ (x : DoneRequest). x.request.sequence) (some_is done d is) in
        (omega arith, λ equal. was (omega (arith, equal))))

    late_next : IsLate t origin request (sessions_with known bytes said)
    late_next =
        let numbered = late.numbered in
        let grows = (opens_one known.opened said).0 in
        record {
          numbered = omega arith;
          last = session_cases t known entries bytes (λ lasts. Last (get lasts request.session)) late.last (λ opened e opens. with_opened opened opens) (λ done call told head carries within. with_committed done within);
        }

  pub late_later : SessionsGoOn → (order more : Order) → IsLate t origin request (sessions_after t order) → IsLate t origin request (sessions_after t (order ++ more))
  late_later next = kept_along next t (IsLate t origin request) late_next

  -- an order that comes too late
  pub late_at_first : (first : sessions_after t [] ≡ record { opened = 0; lasts = first_lasts t }) → request.session ≤ origin.sessions → 1 ≤ request.sequence
      → ((d : DoneRequest) → get (first_lasts t) request.session ≡ Some d → request.sequence ≤ d.request.sequence) → IsLate t origin request (sessions_after t [])
  late_at_first first numbered some last =
      subst (IsLate t origin request) (sym first) (record { numbered = omega (arith, numbered); last = λ d is. (last d is, λ equal. was d is equal) })
    where
      was : (d : DoneRequest) → get (first_lasts t) request.session ≡ Some d → d.request.sequence ≡ request.sequence → was_done t.setting.beginning.requests (Some request) ≡ true
      was d is equal =
          let told = told_before t.origin t.setting.beginning.requests request.session d is in
          let of_session = told.of_session in
          let same : d.request ≡ request = λ i. record { session = of_session i; sequence = equal i } in
          ap (λ (r : RequestId). was_done t.setting.beginning.requests (Some r)) (sym same) ∙ told.told (omega (arith, some, equal))

-- an order that comes too late does so behind each beginning
pub late_behind : SessionsGoOn → (t : SiteSetting) (request : RequestId) (late : IsTooLate t request) → sessions_after t [] ≡ record { opened = 0; lasts = first_lasts t } → 1 ≤ request.sequence → (order : Order) → IsLate t late.origin request (sessions_after t order)
late_behind next t request late first some order =
    late_later t late.origin late.opens request next [] order (late_at_first t late.origin late.opens request first late.numbered some late.last)

-- a request that was out of its session, whose number had been given
pub late_against : (t : SiteSetting) (origin : Origin) (request : RequestId) (known : Sessions) (why : NothingCause) → request.session ≤ origin.sessions + known.opened → session_cause (Some origin) known (Some request) ≡ Some why → IsLate t origin request known
late_against t origin request known why numbered against = record { numbered = numbered; last = λ d is. above d (sym (ap (λ (o : Option DoneRequest). cond (not (is_some o)) (Some UnknownSession) (cond (is_superseded o request) (Some Superseded) None)) is) ∙ against) }
  where
    above : (d : DoneRequest) → cond (nat_lt request.sequence d.request.sequence) (Some Superseded) None ≡ Some why → (request.sequence ≤ d.request.sequence) × (d.request.sequence ≡ request.sequence → was_done t.setting.beginning.requests (Some request) ≡ true)
    above d = by_test (nat_lt request.sequence d.request.sequence) refl
      where
        by_test : (b : Bool) → nat_lt request.sequence d.request.sequence ≡ b → cond b (Some Superseded) None ≡ Some why → (request.sequence ≤ d.request.sequence) × (d.request.sequence ≡ request.sequence → was_done t.setting.beginning.requests (Some request) ≡ true)
        by_test false lt e = absurd cc
        by_test true lt e = let less : request.sequence < d.request.sequence = grind (arith, nat_tests) in (omega (arith, less), λ equal. absurd (omega (arith, less, equal)))

-- ---- all sessions behind an order are numbered

module _ (s : SiteSetting) (origin : Origin) (has : s.origin ≡ Some origin) where
  numbered_next : (known : Sessions) (entries : List Entry) (bytes : List ℕ) → IsNumbered (origin.sessions + known.opened) known.lasts
      → IsNumbered (origin.sessions + (sessions_with known bytes (outcome_behind s known entries bytes)).opened) (sessions_with known bytes (outcome_behind s known entries bytes)).lasts
  numbered_next known entries bytes is =
      session_cases s known entries bytes (IsNumbered most) within
      (λ opened e opens session last. last_cases known.lasts (nothing_done opened) session (λ o. o ≡ Some last → session ≤ most) (within session last)
      (λ same newest found.
      let behind = opens_behind origin known.opened bytes opened (ap (λ (o : Option Origin). session_opened o known.opened bytes) (sym has) ∙ opens) in
      let more : opened_with known.opened said ≡ suc known.opened = ap (opened_with known.opened) e in
      omega arith))
      (λ done call told head carries cause session last. last_cases known.lasts done session (λ o. o ≡ Some last → session ≤ most) (within session last)
      (λ same newest found.
      let n = is_newest origin known done.request (ap (λ (o : Option Origin). session_cause o known (Some done.request)) (sym has) ∙ cause) in
      let le = within done.request.session n.last n.is in
      omega arith))
    where
      said : EntryOutcome
      said = outcome_behind s known entries bytes

      most : ℕ
      most = origin.sessions + opened_with known.opened said

      within : IsNumbered most known.lasts
      within session last found =
          let le = is session last found in
          let grows = (opens_one known.opened said).0 in
          omega arith

  numbered_later : SessionsGoOn → (order more : Order) → IsNumbered (origin.sessions + (sessions_after s order).opened) (sessions_after s order).lasts
      → IsNumbered (origin.sessions + (sessions_after s (order ++ more)).opened) (sessions_after s (order ++ more)).lasts
  numbered_later next = kept_along next s (λ (k : Sessions). IsNumbered (origin.sessions + k.opened) k.lasts) numbered_next

  pub all_numbered : SessionsGoOn → (first : sessions_after s [] ≡ record { opened = 0; lasts = first_lasts s }) → AreNumbered s → (order : Order)
      → (session : ℕ) (last : DoneRequest) → get (sessions_after s order).lasts session ≡ Some last → session ≤ origin.sessions + (sessions_after s order).opened
  all_numbered next first are order =
      numbered_later next [] order
      (subst (λ (k : Sessions). IsNumbered (origin.sessions + k.opened) k.lasts) (sym first)
      (λ session last is.
      let le = numbered_from s.origin origin.sessions s.setting.beginning.requests empty (are origin has) (λ session last is. absurd (let none : None ≡ Some last = sym (get-empty nat_cmp session) ∙ is in cc)) session last is in
      omega arith))

  -- a call that commits has done its request last
  pub committed_is_last : SessionsGoOn → (order : Order) (bytes : List ℕ) (request : RequestId) (call : Call) (told reply : ℕ) → head_of bytes ≡ Some (CallHead call told) → call.request ≡ Some request → next_outcome s order bytes ≡ outcome.Committed reply
      → (last : DoneRequest) × (get (sessions_after s (order ++ bytes ∷ [])).lasts request.session ≡ Some last) × (last.request ≡ request)
  committed_is_last next order bytes request call told reply head carries commits =
      let known = sessions_after s order in
      let (other, replied, is) = committed_from s known (order_entries s order) bytes reply commits in
      let same : other.request ≡ Some request = ap request_in (sym is.head ∙ head) ∙ carries in
      let n = is_newest origin known request (sym (λ i. session_cause (has i) known (same i)) ∙ is.in_session) in
      let done : DoneRequest = record { request = request; reply = reply; procedure = call.procedure; args = call.args } in
      let rises = n.newest in
      let below : nat_lt request.sequence n.last.request.sequence ≡ false = grind (arith, nat_tests) in
      let newest : is_superseded (get known.lasts request.session) request ≡ false = ap (λ (o : Option DoneRequest). is_superseded o request) n.is ∙ below in
      let does : done_by (next_outcome s order bytes) (head_of bytes) ≡ Some done =
      (λ i. done_by (commits i) (head i)) ∙ ap (option_map (λ r. record { request = r; reply = reply; procedure = call.procedure; args = call.args })) carries in (
        done,
        ap (λ (k : Sessions). get k.lasts request.session) (next s order bytes) ∙ ap (λ (o : Option DoneRequest). get (with_done_if known.lasts o) request.session) does ∙ done_is_last known.lasts done newest,
        refl,
      )
