-- The setting of a database that goes on tells of each session what it did last.
use Rattle.std.proofs.Common.{◌≡◌, ℕ, ◌≤◌, ◌==◌, Bool, true, false, ◌||◌, cond, List, [], ◌∷◌, ◌++◌, map, Option, Some, None, refl, sym, ap, subst, ◌∙◌, arith}
use Rattle.std.specs.List.{AllByRecursion, fold}
use Rattle.std.specs.Option.{option_map}
use Rattle.std.specs.Ordering.{nat_cmp}
use Rattle.std.specs.Cmp.{nat_cmp_total}
use Rattle.std.specs.FinMap.{empty, entries, get, get-empty}
use Rattle.log_model.specs.declared.request.RequestId.{RequestId}
use Rattle.log_model.specs.OpenRequest.{has_zero}
use Rattle.log_model.specs.Log.{DoneRequest}
use Rattle.log_model.specs.Entries.{Entry}
use Rattle.site_model.specs.declared.origin.Origin.{Origin}
use Rattle.site_model.specs.Sessions.{LastRequests, Sessions, lasts_of, nothing_done, sessions_with, told_of, with_done}
use Rattle.site_model.specs.Standing.{SiteSetting}
use Rattle.site_model.specs.Order.{Order, outcome_behind, sessions_after}
use Rattle.site_model.specs.Next.{requests_of}
use Rattle.site_laws.proofs.FinalLemmas.{heads_are_whole}
use Rattle.site_laws.proofs.RisingLemmas.{each_is_found}
use Rattle.site_laws.proofs.SessionLemmas.{SessionsGoOn, kept_along, session_cases}
use Rattle.order_chains.specs.GoingOn.{first_lasts}
use Rattle.order_chains.proofs.RequestLemmas.{last_cases}

-- ---- each entry of a map is found

HasEach : LastRequests → List (ℕ × DoneRequest) → Type 0
HasEach lasts es = AllByRecursion (λ e. get lasts e.0 ≡ Some e.1) es

has_each : (lasts : LastRequests) → HasEach lasts (entries lasts)
unfolding HasEach
has_each lasts = each_is_found nat_cmp nat_cmp_total lasts

-- ---- last requests are as settings tell them

-- each is of its session, and is told as it is
record IsNormal (origin : Option Origin) (session : ℕ) (last : DoneRequest) : Type 0 where
  of_session : last.request.session ≡ session
  told : told_of origin last ≡ last

abbrev AreNormal : Option Origin → LastRequests → Type 0
AreNormal origin lasts = (session : ℕ) (last : DoneRequest) → get lasts session ≡ Some last → IsNormal origin session last

some_is : (a b : DoneRequest) → Some a ≡ Some b → a ≡ b
some_is a b e = cc

same_both : {X : Type 0} (b : Bool) (x : X) → cond b x x ≡ x
same_both true x = refl
same_both false x = refl

told_nothing : (origin : Option Origin) (session : ℕ) → told_of origin (nothing_done session) ≡ nothing_done session
told_nothing None session = refl
told_nothing (Some origin) session = same_both (0 == 0) (nothing_done session)

told_something : (origin : Option Origin) (d : DoneRequest) → (d.request.sequence == 0) ≡ false → told_of origin d ≡ d
told_something None d e = refl
told_something (Some origin) d e = ap (λ (b : Bool). cond b (nothing_done d.request.session) d) e

told_again : (origin : Option Origin) (d : DoneRequest) → told_of origin (told_of origin d) ≡ told_of origin d
told_again None d = refl
told_again (Some origin) d = by_test (d.request.sequence == 0) refl
  where
    by_test : (b : Bool) → (d.request.sequence == 0) ≡ b → told_of (Some origin) (cond b (nothing_done d.request.session) d) ≡ cond b (nothing_done d.request.session) d
    by_test true e = told_nothing (Some origin) d.request.session
    by_test false e = told_something (Some origin) d e

normal_from : (origin : Option Origin) (rest : List DoneRequest) (lasts : LastRequests) → AreNormal origin lasts → AreNormal origin (fold (λ lasts d. with_done lasts (told_of origin d)) lasts rest)
normal_from origin [] lasts is = is
normal_from origin (d ∷ rest) lasts is = normal_from origin rest (with_done lasts (told_of origin d)) (λ session last.
    last_cases lasts (told_of origin d) session (λ o. o ≡ Some last → IsNormal origin session last) (is session last)
    (λ same newest e. subst (IsNormal origin session) (some_is (told_of origin d) last e) (record { of_session = sym same; told = told_again origin d })))

module _ (s : SiteSetting) where
  no_zero : (r : Option RequestId) (request : RequestId) → r ≡ Some request → has_zero r ≡ false → (request.sequence == 0) ≡ false
  no_zero r request same whole = by_session (request.session == 0) (sym (ap has_zero same) ∙ whole)
    where
      by_session : (b : Bool) → (b || (request.sequence == 0)) ≡ false → (request.sequence == 0) ≡ false
      by_session true z = absurd cc
      by_session false z = z

  normal_next : (known : Sessions) (entries : List Entry) (bytes : List ℕ) → AreNormal s.origin known.lasts → AreNormal s.origin (sessions_with known bytes (outcome_behind s known entries bytes)).lasts
  normal_next known entries bytes is =
      session_cases s known entries bytes (AreNormal s.origin) is
      (λ opened e opens. with_normal (nothing_done opened) (told_nothing s.origin opened))
      (λ done call told head carries within. with_normal done (told_something s.origin done (no_zero call.request done.request carries (heads_are_whole bytes call told head))))
    where
      with_normal : (done : DoneRequest) → told_of s.origin done ≡ done → AreNormal s.origin (with_done known.lasts done)
      with_normal done told session last =
          last_cases known.lasts done session (λ o. o ≡ Some last → IsNormal s.origin session last) (is session last)
          (λ same newest found. subst (IsNormal s.origin session) (some_is done last found) (record { of_session = sym same; told = told }))

  normal_later : SessionsGoOn → (order more : Order) → AreNormal s.origin (sessions_after s order).lasts → AreNormal s.origin (sessions_after s (order ++ more)).lasts
  normal_later next = kept_along next s (λ (k : Sessions). AreNormal s.origin k.lasts) normal_next

  all_normal : SessionsGoOn → sessions_after s [] ≡ record { opened = 0; lasts = first_lasts s } → (order : Order) → AreNormal s.origin (sessions_after s order).lasts
  all_normal next at_first order =
      normal_later next [] order
      (subst (λ (k : Sessions). AreNormal s.origin k.lasts) (sym at_first)
      (normal_from s.origin s.setting.beginning.requests empty (λ session last is. absurd (let none : None ≡ Some last = sym (get-empty nat_cmp session) ∙ is in cc))))

-- ---- what is told of them is read back

told_same : (origin : Option Origin) (f : Origin → Origin) (d : DoneRequest) → told_of (option_map f origin) d ≡ told_of origin d
told_same None f d = refl
told_same (Some origin) f d = refl

module _ (origin : Option Origin) (lasts : LastRequests) (normal : AreNormal origin lasts) where
  abbrev Within : LastRequests → Type 0
  Within some = (session : ℕ) (last : DoneRequest) → get some session ≡ Some last → get lasts session ≡ Some last

  within_from : (es : List (ℕ × DoneRequest)) (some : LastRequests) → HasEach lasts es → Within some → Within (fold (λ lasts d. with_done lasts (told_of origin d)) some (map (λ e. e.1) es))
  unfolding HasEach
  within_from [] some has is = is
  within_from (e ∷ es) some has is = within_from es (with_done some (told_of origin e.1)) has.1 (λ session last.
      last_cases some (told_of origin e.1) session (λ o. o ≡ Some last → get lasts session ≡ Some last) (is session last)
      (λ same newest found.
      let n = normal e.0 e.1 has.0 in
      ap (get lasts) (same ∙ ap (λ (d : DoneRequest). d.request.session) n.told ∙ n.of_session) ∙ has.0 ∙ sym (ap Some n.told) ∙ found))

  read_back : Within (lasts_of origin (requests_of lasts))
  read_back = within_from (entries lasts) empty (has_each lasts) (λ session last is. absurd (let none : None ≡ Some last = sym (get-empty nat_cmp session) ∙ is in cc))

  numbered_each : (most : ℕ) → ((session : ℕ) (last : DoneRequest) → get lasts session ≡ Some last → session ≤ most) → (es : List (ℕ × DoneRequest)) → HasEach lasts es → AllByRecursion (λ d. d.request.session ≤ most) (map (λ e. e.1) es)
  unfolding HasEach
  numbered_each most few [] has = tt
  numbered_each most few (e ∷ es) has =
      let of_session = (normal e.0 e.1 has.0).of_session in
      let le = few e.0 e.1 has.0 in
      (omega (arith, of_session, le), numbered_each most few es has.1)

-- the last requests of settings whose origin is made of another's
pub told_back : SessionsGoOn → (s : SiteSetting) → sessions_after s [] ≡ record { opened = 0; lasts = first_lasts s } → (order : Order) (f : Origin → Origin)
    → (session : ℕ) (last : DoneRequest) → get (lasts_of (option_map f s.origin) (requests_of (sessions_after s order).lasts)) session ≡ Some last → get (sessions_after s order).lasts session ≡ Some last
told_back next s at_first order f =
    read_back (option_map f s.origin) (sessions_after s order).lasts (λ session last is.
    let n = all_normal s next at_first order session last is in
    record { of_session = n.of_session; told = told_same s.origin f last ∙ n.told })

pub numbered_requests : SessionsGoOn → (s : SiteSetting) → sessions_after s [] ≡ record { opened = 0; lasts = first_lasts s } → (order : Order) (most : ℕ)
    → ((session : ℕ) (last : DoneRequest) → get (sessions_after s order).lasts session ≡ Some last → session ≤ most) → AllByRecursion (λ d. d.request.session ≤ most) (requests_of (sessions_after s order).lasts)
numbered_requests next s at_first order most few =
    numbered_each s.origin (sessions_after s order).lasts (all_normal s next at_first order) most few (entries (sessions_after s order).lasts) (has_each (sessions_after s order).lasts)
