-- The setting that goes on from a told one is told.
use Rattle.std.proofs.Common.{◌≡◌, ℕ, ◌+◌, ◌<◌, ◌≤◌, ◌^◌, ◌==◌, Bool, true, false, cond, List, [], ◌∷◌, ◌++◌, length, take, drop, find, All, Option, Some, None, option_map, refl, sym, ap, subst, ◌∙◌, arith, append_assoc, append-nil, take-append-drop}
use Rattle.std.specs.List.{AllByRecursion}
use Rattle.std.proofs.lemmas.Bool.Decides.{nat_tests}
use Rattle.std.proofs.lemmas.List.{length-map, length-take, map-append}
use Rattle.std.proofs.lemmas.List.Elements.{All-cons, All-head, All-nil, All-push, All-tail, All-take, All-weaker}
use Rattle.schema.specs.declared.limits.TheConstants.{MAX_ARGUMENTS}
use Rattle.schema.specs.Rows.{AreRows}
use Rattle.schema.specs.Schema.{Tables}
use Rattle.bpf_bytes.specs.Decoding.{program_of}
use Rattle.log_model.specs.declared.request.RequestId.{RequestId}
use Rattle.log_model.specs.Fit.{AllFitLog, BeginsSafely}
use Rattle.log_model.specs.OpenRequest.{has_zero}
use Rattle.log_model.specs.Log.{Call, Catalogue, DoneRequest, IsLog, Log, Setting, StoredProcedure, by_number, procedures_after, rows_after}
use Rattle.log_model.specs.Entries.{CallEntry, Entry, item_of, items_of}
use Rattle.log_entry.specs.Head.{Head, head_of}
use Rattle.site_model.specs.declared.origin.Origin.{Origin}
use Rattle.site_model.specs.declared.outcome.EntryOutcome.{EntryOutcome}
use Rattle.site_model.specs.declared.outcome.EntryOutcome.TheVariants as outcome
use Rattle.site_model.specs.Fit.{AreFitEntries}
use Rattle.site_model.specs.Next.{next_origin, next_setting, origin_behind, requests_of}
use Rattle.site_model.specs.Order.{Order, next_outcome, order_entries, order_log, outcome_behind, sessions_after}
use Rattle.site_model.specs.Sessions.{Sessions, done_by, nothing_done, opened_with, session_opened, sessions_with, with_done_if}
use Rattle.site_model.specs.Standing.{SiteSetting, StandsAs, call_standing, executed, takes_arguments}
use Rattle.site_model.proofs.StandingLemmas.{StandsWell, args_bytes, call_cases, stands_as_call}
use Rattle.site_laws.specs.Added.{NamesProcedure}
use Rattle.site_laws.specs.Orders.{FitsFields, IsBytes, IsOfBytes, IsSafeSetting, procedures_behind}
use Rattle.site_laws.proofs.AskedLemmas.{RunsFit, added_fits, reply_fits}
use Rattle.site_laws.proofs.FinalLemmas.{heads_are_whole}
use Rattle.site_laws.proofs.GrowingLemmas.{Added, First, Others, Told, by_next}
use Rattle.site_laws.proofs.LogLemmas.{HaveVerdicts, ProceduresGrow, beginning, commits_there}
use Rattle.site_laws.proofs.OrderFitLemmas.{AcceptedAreSafe, ChecksPass}
use Rattle.site_laws.proofs.OutcomeLemmas.{CommitsAs, committed_from, opened_from}
use Rattle.site_laws.proofs.SessionLemmas.{SessionsGoOn, kept_along, opens_behind}
use Rattle.site_laws.proofs.SpelledLemmas.{decoded_is_spelled}
use Rattle.order_chains.specs.GoingOn.{AreNumbered, first_lasts}
use Rattle.site_service.specs.Settings.{is_beyond}
use Rattle.site_service.proofs.PrintedLemmas.{FitsRequestLine}
use Rattle.site_service.proofs.BackLemmas.{are_tables}
use Rattle.site_service.proofs.SaidLemmas.{told_push}
use Rattle.site_laws.proofs.HeadFitLemmas.{named_call_fits, named_procedure_fits, session_above}
use Rattle.site_service.proofs.LastLemmas.{AreLasts, first_lasts_are, nothing_fits, opened_fits, requests_are_done, with_last}
use Rattle.site_service.proofs.Told.{AreDoneFrom, AreToldFrom, FitsOrigin, IsTold, IsWellTold}

-- what lower laws say
abbrev pub RowsFit : Type 0
RowsFit = (w : Setting) (log : Log) (position : ℕ) → BeginsSafely w → IsLog log → AllFitLog w log → position ≤ length log → AreRows w.tables (rows_after w log position)

abbrev pub OrdersFit : Type 0
OrdersFit = (s : SiteSetting) (order : Order) → IsSafeSetting s.setting → IsOfBytes order → AreFitEntries s.setting (order_entries s order)

abbrev pub Count : Type 0
Count = (s : SiteSetting) (order : Order) → length (order_entries s order) ≡ length order

abbrev pub FirstSessions : Type 0
FirstSessions = (s : SiteSetting) → sessions_after s [] ≡ record { opened = 0; lasts = first_lasts s }

-- ---- what is found in a list

found_has : {X : Type 0} (P : X → Type 0) (test : X → Bool) (xs : List X) (x : X) → All P xs → find test xs ≡ Some x → P x
found_has P test [] x all e = absurd cc
found_has P test (y ∷ xs) x all e = elim (test y) as (λ b. cond b (Some y) (find test xs) ≡ Some x → P x) [
  | true ↦ λ h. subst P (let same : y ≡ x = cc in same) (All-head P y xs all)
  | false ↦ λ h. found_has P test xs x (All-tail P y xs all) h
] e

all_well : (tables : Tables) (before ps : Catalogue) → AreToldFrom tables before ps → All (IsWellTold tables) ps
all_well tables before [] told = All-nil (IsWellTold tables)
all_well tables before (p ∷ ps) told = All-cons (IsWellTold tables) p ps told.0.well (all_well tables (before ++ p ∷ []) ps told.1)

fields_fit : (tables : Tables) (p : StoredProcedure) → IsWellTold tables p → FitsFields p
fields_fit tables p well = record { number = well.number; arguments = well.args_len; program = well.program }

-- ---- a setting that lines say is safe

pub told_is_safe : AcceptedAreSafe → (s : SiteSetting) → IsTold s → IsSafeSetting s.setting
told_is_safe safe s told =
    let tables = are_tables s told in
    let all = all_well s.setting.tables [] s.setting.beginning.procedures told.procedures in record {
      tables = tables;
      begins = record {
        procedures = λ number p known. let well = found_has (IsWellTold s.setting.tables) (λ p. p.number == number) s.setting.beginning.procedures p all known in safe s.setting.tables p well.program tables well.accepted;
        rows = told.rows;
      };
    }

-- ---- procedures behind an order

well_added : (s : SiteSetting) (bytes : List ℕ) (p : StoredProcedure) → ChecksPass → IsBytes bytes → NamesProcedure s bytes p → FitsFields p → IsWellTold s.setting.tables p
well_added s bytes p passed are names fits =
    let n = names.named in
    let (decoded, accepted) = (passed s.setting.tables n.args_len n.bytes names.program).0 names.accepted in
    let bytes_are = (named_procedure_fits bytes n are names.head).bytes in
    let spelled = decoded_is_spelled n.bytes names.program bytes_are decoded in
    let same_fits = subst FitsFields names.is fits in
    subst (IsWellTold s.setting.tables) (sym names.is) (record {
      name = names.name;
      number = same_fits.number;
      args_len = same_fits.arguments;
      program = same_fits.program;
      decoded = ap program_of spelled ∙ decoded;
      bytes = subst (All (λ b. b < 256)) (sym spelled) bytes_are;
      accepted = accepted;
    })

module _ (s : SiteSetting) (told : Told) (added : Added) (others : Others) (passed : ChecksPass) where
  told_behind : (order more : Order) → IsOfBytes more → AreToldFrom s.setting.tables [] (procedures_behind s order) → AreToldFrom s.setting.tables [] (procedures_behind s (order ++ more))
  told_behind order [] are so_far = subst (λ (o : Order). AreToldFrom s.setting.tables [] (procedures_behind s o)) (sym (append-nil order)) so_far
  told_behind order (bytes ∷ more) are so_far =
      let here = All-head IsBytes bytes more are in
      subst (λ (o : Order). AreToldFrom s.setting.tables [] (procedures_behind s o)) (append_assoc order (bytes ∷ []) more)
      (told_behind (order ++ bytes ∷ []) more (All-tail IsBytes bytes more are)
      (by_next s told added others (AreToldFrom s.setting.tables []) order bytes
      (λ p adds. told_push s.setting.tables [] (procedures_behind s order) p so_far (record {
        well = well_added s bytes p passed here adds.names (added_fits s order bytes p passed here adds);
        new_name = adds.new_name;
        new_number = adds.new_number;
      }))
      so_far))

  pub procedures_told : First → IsTold s → (order : Order) → IsOfBytes order → AreToldFrom s.setting.tables [] (procedures_behind s order)
  procedures_told first is order are = told_behind [] order are (subst (AreToldFrom s.setting.tables []) (sym (first s)) is.procedures)

-- the procedures at a position of an order
at_prefix : ProceduresGrow → Count → (s : SiteSetting) (order : Order) (d : ℕ) → d ≤ length order → procedures_after s.setting (order_log s order) d ≡ procedures_behind s (take d order)
at_prefix grow count s order d within =
    let front = take d order in
    let (later, e) = beginning s front (drop d order) in
    let long : length front ≡ d = omega (arith, length-take d order) in
    let whole : order_log s order ≡ order_log s front ++ items_of later =
    ap (order_log s) (sym (take-append-drop d order)) ∙ ap items_of e ∙ map-append item_of (order_entries s front) later in
    ap (λ (l : Log). procedures_after s.setting l d) whole
    ∙ grow s.setting (order_log s front) (items_of later) d (omega (arith, length-map (order_entries s front) item_of, count s front))
    ∙ ap (procedures_after s.setting (order_log s front)) (sym long)

-- ---- a call that commits

-- what lower laws say, of one setting
pub record Laws (s : SiteSetting) : Type 0 where
  pub grow : ProceduresGrow
  pub count : Count
  pub verdicts : HaveVerdicts
  pub first : First
  pub told : Told
  pub added : Added
  pub others : Others
  pub passed : ChecksPass
  pub safe : AcceptedAreSafe
  pub fit : OrdersFit
  pub rows : RowsFit
  pub runs : RunsFit
  pub sessions : SessionsGoOn
  pub first_sessions : FirstSessions

stands_well : (s : SiteSetting) (known : Sessions) (log : Log) (call : Call) (bytes : List ℕ) → call_standing s known log call bytes ≡ StandsAs (CallEntry (executed s.setting log call)) → StandsWell s known log call bytes
stands_well s known log call bytes = call_cases (λ st. st ≡ StandsAs (CallEntry (executed s.setting log call)) → StandsWell s known log call bytes) s known log call bytes (λ c e. absurd cc) (λ _ _ _ e. absurd cc) (λ well e. well)

-- the procedure of a call that stands, and its arguments
record HasProcedure (ps : Catalogue) (call : Call) : Type 0 where
  procedure : StoredProcedure
  known : by_number ps call.procedure ≡ Some procedure
  fits : FitsFields procedure
  few : length call.args ≤ MAX_ARGUMENTS

has_procedure : (ps : Catalogue) (call : Call) → All FitsFields ps → takes_arguments (by_number ps call.procedure) call.args ≡ true → HasProcedure ps call
has_procedure ps call all takes = by_found (by_number ps call.procedure) refl takes
  where
    by_found : (o : Option StoredProcedure) → by_number ps call.procedure ≡ o → takes_arguments o call.args ≡ true → HasProcedure ps call
    by_found None known e = absurd cc
    by_found (Some p) known e =
        let fits = found_has FitsFields (λ p. p.number == call.procedure) ps p all known in
        let most = fits.arguments in
        let long : p.args_len ≡ length call.args = grind (arith, nat_tests) in
        record { procedure = p; known = known; fits = fits; few = omega (arith, long, most) }

module _ (s : SiteSetting) (laws : Laws s) (is : IsTold s) where
  abbrev w : Setting
  w = s.setting

  site_fits : IsSafeSetting w
  site_fits = told_is_safe laws.safe s is

  -- the procedures at each position fit
  fit_at : (order : Order) (d : ℕ) → IsOfBytes order → d ≤ length order → All FitsFields (procedures_after w (order_log s order) d)
  fit_at order d are within =
      subst (All FitsFields) (sym (at_prefix laws.grow laws.count s order d within))
      (All-weaker (IsWellTold w.tables) FitsFields (fields_fit w.tables) (procedures_behind s (take d order))
      (all_well w.tables [] (procedures_behind s (take d order)) (procedures_told s laws.told laws.added laws.others laws.passed laws.first is (take d order) (All-take IsBytes d order are))))

  committed_fits : (order : Order) (bytes : List ℕ) (call : Call) (told reply : ℕ) (request : RequestId) → IsOfBytes order → IsBytes bytes → CommitsAs s (sessions_after s order) (order_entries s order) bytes call told → next_outcome s order bytes ≡ outcome.Committed reply → call.request ≡ Some request
      → FitsRequestLine (record { request = request; reply = reply; procedure = call.procedure; args = call.args })
  committed_fits order bytes call told reply request are here commits replied carries =
      let known = sessions_after s order in
      let es = order_entries s order in
      let log = order_log s order in
      let fit = laws.fit s order site_fits are in
      let well = stands_well s known log call bytes (sym (stands_as_call s known log bytes call told commits.head) ∙ commits.stands) in
      let recent = well.recent in
      let long : length log ≡ length order = length-map es item_of ∙ laws.count s order in
      let has = has_procedure (procedures_after w log call.snapshot) call (fit_at order call.snapshot are (omega arith)) well.takes in
      let head = named_call_fits bytes call told here commits.head in
      let args = args_bytes bytes call told here commits.head in
      let replies = reply_fits w.tables (procedures_after w log call.snapshot) call (rows_after w log call.snapshot) has.procedure laws.runs has.known has.fits.program args
      (laws.rows w log call.snapshot fit.begins fit.log fit.items recent) in
      let same = (commits_there s known es bytes laws.verdicts (executed w log call) reply commits.stands replied).1 in
      record {
        session_from = session_above request (sym (ap has_zero carries) ∙ heads_are_whole bytes call told commits.head);
        session_to = head.session request carries;
        sequence = head.sequence request carries;
        reply = subst (λ (n : ℕ). n < 2 ^ 64) same replies;
        procedure = head.procedure;
        args = has.few;
        args_are = args;
      }

  -- ---- last requests

  lasts_next : (order : Order) (bytes : List ℕ) → IsOfBytes order → IsBytes bytes → AreLasts (sessions_after s order).lasts → AreLasts (sessions_after s (order ++ bytes ∷ [])).lasts
  lasts_next order bytes are here lasts =
      subst (λ (k : Sessions). AreLasts k.lasts) (sym (laws.sessions s order bytes)) (by_outcome (next_outcome s order bytes) refl)
    where
      by_request : (call : Call) (told reply : ℕ) → CommitsAs s (sessions_after s order) (order_entries s order) bytes call told → next_outcome s order bytes ≡ outcome.Committed reply → (r : Option RequestId) → call.request ≡ r
          → AreLasts (with_done_if (sessions_after s order).lasts (option_map (λ request. record { request = request; reply = reply; procedure = call.procedure; args = call.args }) r))
      by_request call told reply commits replied None carries = lasts
      by_request call told reply commits replied (Some request) carries =
          with_last (sessions_after s order).lasts (record { request = request; reply = reply; procedure = call.procedure; args = call.args }) (committed_fits order bytes call told reply request are here commits replied carries) lasts

      by_outcome : (o : EntryOutcome) → next_outcome s order bytes ≡ o → AreLasts (with_done_if (sessions_after s order).lasts (done_by o (head_of bytes)))
      by_outcome (outcome.Session opened) e =
          let (from, to) = opened_fits s.origin (sessions_after s order).opened bytes opened (opened_from s (sessions_after s order) (order_entries s order) bytes opened e) in
          with_last (sessions_after s order).lasts (nothing_done opened) (nothing_fits opened from to) lasts
      by_outcome (outcome.Committed reply) e =
          let (call, told, commits) = committed_from s (sessions_after s order) (order_entries s order) bytes reply e in
          subst (λ (h : Option Head). AreLasts (with_done_if (sessions_after s order).lasts (done_by (outcome.Committed reply) h))) (sym commits.head) (by_request call told reply commits e call.request refl)
      by_outcome (outcome.Conflict position) e = lasts
      by_outcome outcome.Stale e = lasts
      by_outcome (outcome.Repeated position reply) e = lasts
      by_outcome (outcome.Added number) e = lasts
      by_outcome (outcome.Taken identifier) e = lasts
      by_outcome (outcome.Nothing cause) e = lasts

  lasts_behind : (order more : Order) → IsOfBytes order → IsOfBytes more → AreLasts (sessions_after s order).lasts → AreLasts (sessions_after s (order ++ more)).lasts
  lasts_behind order [] are later lasts = subst (λ (o : Order). AreLasts (sessions_after s o).lasts) (sym (append-nil order)) lasts
  lasts_behind order (bytes ∷ more) are later lasts =
      let here = All-head IsBytes bytes more later in
      subst (λ (o : Order). AreLasts (sessions_after s o).lasts) (append_assoc order (bytes ∷ []) more)
      (lasts_behind (order ++ bytes ∷ []) more (All-push IsBytes order bytes are here) (All-tail IsBytes bytes more later) (lasts_next order bytes are here lasts))

  all_lasts : (order : Order) → IsOfBytes order → AreLasts (sessions_after s order).lasts
  all_lasts order are =
      lasts_behind [] order (All-nil IsBytes) are (subst (λ (k : Sessions). AreLasts k.lasts) (sym (laws.first_sessions s)) (first_lasts_are s.origin s.setting.beginning.requests is.requests))

  -- ---- the origin

  few_next : (origin : Origin) → s.origin ≡ Some origin → (known : Sessions) (entries : List Entry) (bytes : List ℕ) → origin.sessions + known.opened < 2 ^ 32 → origin.sessions + (sessions_with known bytes (outcome_behind s known entries bytes)).opened < 2 ^ 32
  few_next origin has known entries bytes few = by_outcome (outcome_behind s known entries bytes) refl
    where
      by_outcome : (o : EntryOutcome) → outcome_behind s known entries bytes ≡ o → origin.sessions + opened_with known.opened o < 2 ^ 32
      by_outcome (outcome.Session opened) e =
          let opens = opened_from s known entries bytes opened e in
          let to = (opened_fits s.origin known.opened bytes opened opens).1 in
          let behind = opens_behind origin known.opened bytes opened (ap (λ (o : Option Origin). session_opened o known.opened bytes) (sym has) ∙ opens) in
          omega arith
      by_outcome (outcome.Committed reply) e = few
      by_outcome (outcome.Conflict position) e = few
      by_outcome outcome.Stale e = few
      by_outcome (outcome.Repeated position reply) e = few
      by_outcome (outcome.Added number) e = few
      by_outcome (outcome.Taken identifier) e = few
      by_outcome (outcome.Nothing cause) e = few

  few_sessions : (origin : Origin) → s.origin ≡ Some origin → (order : Order) → origin.sessions < 2 ^ 32 → origin.sessions + (sessions_after s order).opened < 2 ^ 32
  few_sessions origin has order few =
      kept_along laws.sessions s (λ (k : Sessions). origin.sessions + k.opened < 2 ^ 32) (few_next origin has) [] order
      (subst (λ (k : Sessions). origin.sessions + k.opened < 2 ^ 32) (sym (laws.first_sessions s)) (omega arith))

  origin_fits : (order : Order) → ((origin : Origin) → s.origin ≡ Some origin → origin.strings + length order < 2 ^ 64) → FitsOrigin (next_origin s order)
  origin_fits order room = by_origin s.origin refl is.origin
    where
      by_origin : (o : Option Origin) → s.origin ≡ o → FitsOrigin o → FitsOrigin (option_map (λ origin. origin_behind origin (length order) (sessions_after s order)) o)
      by_origin None has fits = tt
      by_origin (Some origin) has fits = (room origin has, few_sessions origin has order fits.1)

-- ---- numbers of sessions

-- sessions of which settings tell are numbered
pub told_are_numbered : (s : SiteSetting) → IsTold s → AreNumbered s
told_are_numbered s is origin has = all [] s.setting.beginning.requests (subst (λ (o : Option Origin). AreDoneFrom o [] s.setting.beginning.requests) has is.requests)
  where
    within : (session : ℕ) → is_beyond (Some origin) session ≡ false → session ≤ origin.sessions
    within session e = grind (arith, nat_tests)

    all : (before ds : List DoneRequest) → AreDoneFrom (Some origin) before ds → AllByRecursion (λ d. d.request.session ≤ origin.sessions) ds
    all before [] told = tt
    all before (d ∷ ds) told = (within d.request.session told.0.numbered, all (before ++ d ∷ []) ds told.1)

none_beyond : (origin : Option Origin) (ds : List DoneRequest) → ((o : Origin) → origin ≡ Some o → AllByRecursion (λ d. d.request.session ≤ o.sessions) ds) → AllByRecursion (λ d. is_beyond origin d.request.session ≡ false) ds
none_beyond None [] numbered = tt
none_beyond None (d ∷ ds) numbered = (refl, none_beyond None ds (λ o e. absurd cc))
none_beyond (Some origin) ds numbered = all ds (numbered origin refl)
  where
    within : (session : ℕ) → session ≤ origin.sessions → is_beyond (Some origin) session ≡ false
    within session le = grind (arith, nat_tests)

    all : (ds : List DoneRequest) → AllByRecursion (λ d. d.request.session ≤ origin.sessions) ds → AllByRecursion (λ d. is_beyond (Some origin) d.request.session ≡ false) ds
    all [] few = tt
    all (d ∷ ds) few = (within d.request.session few.0, all ds few.1)

-- ---- the whole

pub next_is_told : (s : SiteSetting) → Laws s → IsTold s → (order : Order) → IsOfBytes order → ((origin : Origin) → s.origin ≡ Some origin → origin.strings + length order < 2 ^ 64) → AreNumbered (next_setting s order) → IsTold (next_setting s order)
next_is_told s laws is order are room numbered =
    let fit = laws.fit s order (told_is_safe laws.safe s is) are in
    let long : length (order_log s order) ≡ length order = length-map (order_entries s order) item_of ∙ laws.count s order in
    record {
      window_from = is.window_from;
      window_to = is.window_to;
      tables = is.tables;
      origin = origin_fits s laws is order room;
      procedures = procedures_told s laws.told laws.added laws.others laws.passed laws.first is order are;
      rows = laws.rows s.setting (order_log s order) (length order) fit.begins fit.log fit.items (omega arith);
      requests = requests_are_done (next_origin s order) (sessions_after s order).lasts (all_lasts s laws is order are) (none_beyond (next_origin s order) (requests_of (sessions_after s order).lasts) numbered);
    }
