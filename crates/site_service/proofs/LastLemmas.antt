-- What sessions did last is told in rising order.
use Rattle.std.proofs.Common.{◌≡◌, ℕ, ◌+◌, ◌-◌, ◌<◌, ◌≤◌, ◌^◌, ◌==◌, nat_lt, Bool, true, false, ◌&&◌, cond, List, [], ◌∷◌, ◌++◌, length, map, slice_get, Option, Some, None, refl, sym, ap, subst, ◌∙◌, arith}
use Rattle.std.specs.Prelude.{T}
use Rattle.std.specs.List.{AllByRecursion, fold}
use Rattle.std.specs.Option.{option_map_or}
use Rattle.std.specs.Ordering.{nat_cmp}
use Rattle.std.specs.Cmp.{nat_cmp_total}
use Rattle.std.specs.FinMap.{empty, entries, entries_sorted, get, get-empty, is_sorted}
use Rattle.std.specs.FinMap.Entries.{below_all}
use Rattle.std.proofs.lemmas.Bool.Decides.{nat_tests}
use Rattle.std.proofs.lemmas.List.{length-append}
use Rattle.std.proofs.lemmas.List.Elements.{All-nil}
use Rattle.schema.proofs.SortedLemmas.{first, second}
use Rattle.log_model.specs.Log.{DoneRequest}
use Rattle.catalogue.specs.Fault.{is_next_session}
use Rattle.site_model.specs.declared.origin.Origin.{Origin}
use Rattle.site_model.specs.Sessions.{LastRequests, lasts_of, nothing_done, session_opened, is_opening, told_of, with_done}
use Rattle.site_model.specs.Next.{requests_of}
use Rattle.site_laws.proofs.LogLemmas.{there}
use Rattle.order_chains.proofs.RequestLemmas.{last_cases}
use Rattle.site_service.specs.Settings.{is_beyond}
use Rattle.site_service.proofs.PrintedLemmas.{FitsRequestLine}
use Rattle.site_laws.proofs.RisingLemmas.{each_is_found, less_of}
use Rattle.site_service.proofs.Told.{AreDoneFrom}

-- ---- each is of its session, and fits its line

pub record IsLast (session : ℕ) (last : DoneRequest) : Type 0 where
  pub of_session : last.request.session ≡ session
  pub fits : FitsRequestLine last

abbrev pub AreLasts : LastRequests → Type 0
AreLasts lasts = (session : ℕ) (last : DoneRequest) → get lasts session ≡ Some last → IsLast session last

some_is : (a b : DoneRequest) → Some a ≡ Some b → a ≡ b
some_is a b e = cc

pub with_last : (lasts : LastRequests) (done : DoneRequest) → FitsRequestLine done → AreLasts lasts → AreLasts (with_done lasts done)
with_last lasts done fits are session last =
    last_cases lasts done session (λ o. o ≡ Some last → IsLast session last) (are session last)
    (λ same newest found. subst (IsLast session) (some_is done last found) (record { of_session = sym same; fits = fits }))

pub nothing_fits : (session : ℕ) → 1 ≤ session → session < 2 ^ 32 → FitsRequestLine (nothing_done session)
nothing_fits session from to = record { session_from = from; session_to = to; sequence = omega arith; reply = omega arith; procedure = omega arith; args = omega arith; args_are = All-nil (λ b. b < 256) }

told_fits : (origin : Option Origin) (d : DoneRequest) → FitsRequestLine d → FitsRequestLine (told_of origin d)
told_fits None d fits = fits
told_fits (Some origin) d fits =
    elim (d.request.sequence == 0) as (λ b. FitsRequestLine (cond b (nothing_done d.request.session) d)) [
      | true ↦ nothing_fits d.request.session fits.session_from fits.session_to
      | false ↦ fits
    ]

lasts_from : (origin : Option Origin) (before ds : List DoneRequest) (lasts : LastRequests) → AreDoneFrom origin before ds → AreLasts lasts → AreLasts (fold (λ lasts d. with_done lasts (told_of origin d)) lasts ds)
lasts_from origin before [] lasts told are = are
lasts_from origin before (d ∷ ds) lasts told are =
    lasts_from origin (before ++ d ∷ []) ds (with_done lasts (told_of origin d)) told.1 (with_last lasts (told_of origin d) (told_fits origin d told.0.fits) are)

-- before an order
pub first_lasts_are : (origin : Option Origin) (ds : List DoneRequest) → AreDoneFrom origin [] ds → AreLasts (lasts_of origin ds)
first_lasts_are origin ds told = lasts_from origin [] ds empty told (λ session last is. absurd (let none : None ≡ Some last = sym (get-empty nat_cmp session) ∙ is in cc))

-- a session that is opened has a number of 32 bits
pub opened_fits : (origin : Option Origin) (opened : ℕ) (bytes : List ℕ) (session : ℕ) → session_opened origin opened bytes ≡ Some session → (1 ≤ session) × (session < 2 ^ 32)
opened_fits None opened bytes session e = absurd cc
opened_fits (Some origin) opened bytes session e = by_tests (is_opening bytes) (nat_lt (origin.sessions + opened + 1) (2 ^ 32)) refl e
  where
    by_tests : (a b : Bool) → nat_lt (origin.sessions + opened + 1) (2 ^ 32) ≡ b → cond (a && b) (Some (origin.sessions + opened + 1)) None ≡ Some session → (1 ≤ session) × (session < 2 ^ 32)
    by_tests false b eb e = absurd cc
    by_tests true false eb e = absurd cc
    by_tests true true eb e =
        let same : origin.sessions + opened + 1 ≡ session = cc in
        let few : origin.sessions + opened + 1 < 2 ^ 32 = grind (arith, nat_tests) in
        (omega arith, omega arith)

-- ---- in rising order

next_behind : (before : List DoneRequest) (d : DoneRequest) (session : ℕ) → d.request.session < session → is_next_session (before ++ d ∷ []) session ≡ true
next_behind before d session less =
    let one : length (before ++ d ∷ []) - 1 ≡ length before = omega (arith, length-append before (d ∷ [])) in
    let lt : nat_lt d.request.session session ≡ true = grind (arith, nat_tests) in
    ap (λ (n : ℕ). option_map_or (λ (e : DoneRequest). nat_lt e.request.session session) (slice_get (before ++ d ∷ []) n) true) one
    ∙ ap (λ (o : Option DoneRequest). option_map_or (λ (e : DoneRequest). nat_lt e.request.session session) o true) (there before d)
    ∙ lt

all_behind : (before : List DoneRequest) (e : ℕ × DoneRequest) (es : List (ℕ × DoneRequest)) → IsLast e.0 e.1 → T (below_all nat_cmp e.0 es) → AllByRecursion (λ d. IsLast d.0 d.1) es
    → AllByRecursion (λ d. is_next_session (before ++ e.1 ∷ []) d.1.request.session ≡ true) es
all_behind before e [] is below are = tt
all_behind before e (d ∷ es) is below are =
    let less = less_of e.0 d.0 (first _ _ below) in
    let here = is.of_session in
    let later = are.0.of_session in
    (next_behind before e.1 d.1.request.session (omega arith), all_behind before e es is (second _ _ below) are.1)

done_from : (origin : Option Origin) (before : List DoneRequest) (es : List (ℕ × DoneRequest)) → T (is_sorted nat_cmp es) → AllByRecursion (λ e. IsLast e.0 e.1) es → AllByRecursion (λ d. is_beyond origin d.request.session ≡ false) (map (λ e. e.1) es)
    → AllByRecursion (λ e. is_next_session before e.1.request.session ≡ true) es → AreDoneFrom origin before (map (λ e. e.1) es)
done_from origin before [] sorted are numbered next = tt
done_from origin before (e ∷ es) sorted are numbered next = (
  record { fits = are.0.fits; next = next.0; numbered = numbered.0 },
  done_from origin (before ++ e.1 ∷ []) es (second _ _ sorted) are.1 numbered.1 (all_behind before e es are.0 (first _ _ sorted) are.1),
)

-- the last requests, by session
pub requests_are_done : (origin : Option Origin) (lasts : LastRequests) → AreLasts lasts → AllByRecursion (λ d. is_beyond origin d.request.session ≡ false) (requests_of lasts) → AreDoneFrom origin [] (requests_of lasts)
requests_are_done origin lasts are numbered = done_from origin [] (entries lasts) (entries_sorted lasts) (all (entries lasts) (each_is_found nat_cmp nat_cmp_total lasts)) numbered (nothing_before (entries lasts))
  where
    all : (es : List (ℕ × DoneRequest)) → AllByRecursion (λ e. get lasts e.0 ≡ Some e.1) es → AllByRecursion (λ e. IsLast e.0 e.1) es
    all [] found = tt
    all (e ∷ es) found = (are e.0 e.1 found.0, all es found.1)

    nothing_before : (es : List (ℕ × DoneRequest)) → AllByRecursion (λ e. is_next_session [] e.1.request.session ≡ true) es
    nothing_before [] = tt
    nothing_before (e ∷ es) = (refl, nothing_before es)
