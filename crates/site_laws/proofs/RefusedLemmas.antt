-- A call that was refused, and one that asks the same on rows that aren't newer.
use Rattle.std.proofs.Common.{◌≡◌, ℕ, zero, suc, ◌+◌, ◌-◌, ◌≤◌, ◌<◌, Bool, true, false, not, ◌||◌, nat_le, cond, is_some, List, [], ◌∷◌, ◌++◌, All, length, take, drop, slice_get, Option, Some, None, IsTrue, option_map, refl, sym, ap, subst, ◌∙◌, arith, append_assoc, length-take-le}
use Rattle.std.specs.Prelude.{◌↔◌}
use Rattle.std.specs.List.{AllByRecursion}
use Rattle.std.proofs.lemmas.Bool.Decides.{nat_tests}
use Rattle.std.proofs.lemmas.List.{length-append, length-map, map-append, take-append-drop}
use Rattle.schema.specs.Rows.{Rows, any_covers}
use Rattle.schema.specs.declared.look.Look.{Look}
use Rattle.bpf_semantics.specs.Run.{Run}
use Rattle.log_model.specs.declared.request.RequestId.{RequestId}
use Rattle.log_model.specs.declared.verdict.Verdict.{Verdict}
use Rattle.log_model.specs.declared.verdict.Verdict.TheVariants as verdict
use Rattle.log_model.specs.Log.{DoneRequest, StoredProcedure, Catalogue, Setting, Call, CertifiedItem, Item, CallItem, AdditionItem, Log, IsLog, IsLogFrom, IsPlaced, by_number, first_repeated, history, or_idle, procedure_of, procedures_after, rows_after, run_in, run_of_call, run_of_procedure, run_on, conflicts, first_position, unless_conflict, unless_repeated, verdict_after, verdict_of}
use Rattle.log_model.specs.Entries.{Entry, ExecutedCall, CallEntry, AdditionEntry, item_of, items_of}
use Rattle.log_model.specs.Fit.{AllFitLog, FitsLog, FitsProcedures}
use Rattle.log_model.specs.Verdicts.{IsConflict, IsLeastConflict, IsNew, WroteWhatWasRead}
use Rattle.log_model.proofs.CallLemmas.{certified_is, count_history}
use Rattle.log_model.proofs.GrowthLemmas.{grown, is_log_snoc, procedures_grown, rows_grown, run_grown}
use Rattle.log_entry.specs.Head.{CallHead, head_of}
use Rattle.site_model.specs.declared.outcome.EntryOutcome.TheVariants as outcome
use Rattle.site_model.specs.Fit.{AreFitEntries}
use Rattle.site_model.specs.Sessions.{Sessions}
use Rattle.site_model.specs.Standing.{SiteSetting, Standing, StandsAs, IsDecided, call_standing, executed, is_decided, standing}
use Rattle.site_model.specs.Order.{replies_to, call_of_none, entry_standing, next_entry, outcome_behind, outcome_by, outcome_of, with_bytes}
use Rattle.site_model.proofs.StandingLemmas.{none_unused, stands_as_call}
use Rattle.site_laws.specs.Settled.{AsksAgain}
use Rattle.site_laws.proofs.LogLemmas.{HaveVerdicts, RunsAlike, commits_there}
use Rattle.site_laws.proofs.SettledLemmas.{CommitMeans, NeverLost, OneMoreFits, NextFits, Stands, by_standing, known_by, last_there, stands_by, placed, runs_alike, same_runs, wrote_there}

-- ---- a beginning of a log whose calls fit

fits_before : (w : Setting) (log more : Log) (n : ℕ) (item : Item) → IsPlaced n item → n ≤ length log → FitsLog w (log ++ more) item → FitsLog w log item
fits_before w log more n (CallItem call) placed le fits = subst (λ (ps : Catalogue). FitsProcedures ps call) (procedures_grown w log more call.snapshot (omega (arith, placed, le))) fits
fits_before w log more n (AdditionItem p) placed le fits = fits

all_fit_before : (w : Setting) (log more : Log) (n : ℕ) (items : Log) → IsLogFrom n items → n + length items ≤ length log → AllByRecursion (FitsLog w (log ++ more)) items → AllByRecursion (FitsLog w log) items
all_fit_before w log more n [] placed le fits = tt
all_fit_before w log more n (item ∷ items) placed le fits =
    (fits_before w log more n item placed.0 (omega (arith, le)) fits.0, all_fit_before w log more (suc n) items placed.1 (omega (arith, le)) fits.1)

front_is_log : (n : ℕ) (log more : Log) → IsLogFrom n (log ++ more) → IsLogFrom n log
front_is_log n [] more is = tt
front_is_log n (item ∷ log) more is = (is.0, front_is_log (suc n) log more is.1)

front_of : (P : Item → Type 0) (log more : Log) → AllByRecursion P (log ++ more) → AllByRecursion P log
front_of P [] more all = tt
front_of P (item ∷ log) more all = (all.0, front_of P log more all.1)

pub front_fits : (w : Setting) (log more : Log) → IsLog (log ++ more) → AllFitLog w (log ++ more) → AllFitLog w log
front_fits w log more is fits = all_fit_before w log more 0 log (front_is_log 0 log more is) (omega arith) (front_of (FitsLog w (log ++ more)) log more fits)

-- ---- what was refused

by_conflict : (replies : ℕ → ℕ) (reply position : ℕ) (v : Option Verdict) → outcome_by replies (outcome.Committed reply) v ≡ outcome.Conflict position → v ≡ Some (verdict.Conflict position)
by_conflict replies reply position None e = absurd cc
by_conflict replies reply position (Some verdict.Commit) e = absurd cc
by_conflict replies reply position (Some (verdict.Conflict n)) e = let same : n ≡ position = cc in ap (λ (k : ℕ). Some (verdict.Conflict k)) same
by_conflict replies reply position (Some verdict.Stale) e = absurd cc
by_conflict replies reply position (Some (verdict.Repeated n)) e = absurd cc
by_conflict replies reply position (Some (verdict.Taken i)) e = absurd cc

by_default_conflict : (replies : ℕ → ℕ) (position : ℕ) (v : Option Verdict) → outcome_by replies outcome.Stale v ≡ outcome.Conflict position → v ≡ Some (verdict.Conflict position)
by_default_conflict replies position None e = absurd cc
by_default_conflict replies position (Some verdict.Commit) e = absurd cc
by_default_conflict replies position (Some (verdict.Conflict n)) e = let same : n ≡ position = cc in ap (λ (k : ℕ). Some (verdict.Conflict k)) same
by_default_conflict replies position (Some verdict.Stale) e = absurd cc
by_default_conflict replies position (Some (verdict.Repeated n)) e = absurd cc
by_default_conflict replies position (Some (verdict.Taken i)) e = absurd cc

by_stale : (replies : ℕ → ℕ) (reply : ℕ) (v : Option Verdict) → outcome_by replies (outcome.Committed reply) v ≡ outcome.Stale → v ≡ Some verdict.Stale
by_stale replies reply None e = absurd cc
by_stale replies reply (Some verdict.Commit) e = absurd cc
by_stale replies reply (Some (verdict.Conflict n)) e = absurd cc
by_stale replies reply (Some verdict.Stale) e = refl
by_stale replies reply (Some (verdict.Repeated n)) e = absurd cc
by_stale replies reply (Some (verdict.Taken i)) e = absurd cc

-- one that carries the request of a committed call is told so
first_of : {X : Type 0} (xs ys : List X) (n : ℕ) → length xs ≡ n → take n (xs ++ ys) ≡ xs
first_of [] ys zero is = refl
first_of [] ys (suc n) is = absurd (omega (arith, is))
first_of (x ∷ xs) ys zero is = absurd (omega (arith, is))
first_of (x ∷ xs) ys (suc n) is = ap (λ (t : List _). x ∷ t) (first_of xs ys n (omega (arith, is)))

pub past_is : (w : Setting) (log more : Log) → take (length log) (history w (log ++ more)).certified ≡ (history w log).certified
past_is w log more =
    let g = grown w log more in
    ap (take (length log)) g.certified_is ∙ first_of (history w log).certified g.certified (length log) (count_history w log)

repeated_after : (window : ℕ) (done : List DoneRequest) (past : List CertifiedItem) (call : Call) (looks : List Look) (n : ℕ) → first_repeated done past call ≡ Some n → verdict_after window done past call looks ≡ verdict.Repeated n
unfolding verdict_after
repeated_after window done past call looks n is = ap (λ (o : Option ℕ). unless_repeated o (cond (nat_le (length past - call.snapshot) window) (unless_conflict (first_position (conflicts looks) (call.snapshot + 1) (drop call.snapshot past))) verdict.Stale)) is

repeated_there : (w : Setting) (log : Log) (call : Call) (n : ℕ) → IsLog (log ++ CallItem call ∷ []) → first_repeated w.beginning.requests (history w log).certified call ≡ Some n
    → verdict_of w (log ++ CallItem call ∷ []) (suc (length log)) ≡ Some (verdict.Repeated n)
repeated_there w log call n is repeated =
    ap (option_map (λ (c : CertifiedItem). c.verdict)) (certified_is w (log ++ CallItem call ∷ []) (length log) call is (last_there log (CallItem call)))
    ∙ ap Some (repeated_after w.window w.beginning.requests (take (length log) (history w (log ++ CallItem call ∷ [])).certified) call (run_in w (log ++ CallItem call ∷ []) call).looks n
    (ap (λ (past : List CertifiedItem). first_repeated w.beginning.requests past call) (past_is w log (CallItem call ∷ [])) ∙ repeated))

-- a call of no procedure looks at nothing
none_looks : (w : Setting) (log : Log) (snapshot : ℕ) (request : Option RequestId) → snapshot ≤ length log
    → (run_in w (log ++ CallItem (call_of_none (procedures_after w log snapshot) snapshot request) ∷ []) (call_of_none (procedures_after w log snapshot) snapshot request)).looks ≡ []
unfolding run_of_call
none_looks w log snapshot request le =
    let ps = procedures_after w log snapshot in
    let call = call_of_none ps snapshot request in
    let rows = rows_after w (log ++ CallItem call ∷ []) snapshot in
    ap (λ (o : Option StoredProcedure). (or_idle rows (run_of_procedure w.tables o [] rows)).looks)
    (ap (λ (qs : Catalogue). by_number qs call.procedure) (procedures_grown w log (CallItem call ∷ []) snapshot le) ∙ none_unused ps)

no_conflict_of_none : (w : Setting) (log : Log) (call : Call) (looks : List Look) (position later : ℕ) → looks ≡ [] → (run_in w log call).looks ≡ looks → IsConflict w log call position later → ⊥
no_conflict_of_none w log call looks position later none is c =
    none_covers (subst (λ (ls : List Look). IsTrue (any_covers ls c.wrote.key)) (is ∙ none) c.wrote.looked_at)
  where
    none_covers : false ≡ true → ⊥
    none_covers e = absurd cc

abbrev pub ConflictMeans : Type 0
ConflictMeans = (w : Setting) (l : Log) (d : ℕ) (c : Call) (position : ℕ) → IsLog l → slice_get l d ≡ Some (CallItem c)
    → (verdict_of w l (suc d) ≡ Some (verdict.Conflict position)) ↔ (IsNew w l c (suc d) × (d - c.snapshot ≤ w.window) × IsLeastConflict w l c position (suc d))

abbrev pub StaleMeans : Type 0
StaleMeans = (w : Setting) (l : Log) (d : ℕ) (c : Call) → IsLog l → slice_get l d ≡ Some (CallItem c)
    → (verdict_of w l (suc d) ≡ Some verdict.Stale) ↔ (IsNew w l c (suc d) × (w.window < d - c.snapshot))

module _ (s : SiteSetting) (known : Sessions) (entries : List Entry) (bytes : List ℕ) (call : Call) (told : ℕ) (head : head_of bytes ≡ Some (CallHead call told)) where
  abbrev log : Log
  log = items_of entries

  abbrev setting : Setting
  setting = s.setting

  abbrev behind : List Entry
  behind = with_bytes s known entries bytes

  abbrev replies : ℕ → ℕ
  replies = replies_to s (with_bytes s known entries bytes) bytes

  abbrev next_verdict : Option Verdict
  next_verdict = verdict_of s.setting (items_of (with_bytes s known entries bytes)) (length entries + 1)

  by_its_standing : standing s known log bytes ≡ call_standing s known log call bytes
  by_its_standing = stands_as_call s known log bytes call told head

  outcome_is : outcome_behind s known entries bytes ≡ outcome_of (replies_to s (with_bytes s known entries bytes) bytes) (call_standing s known log call bytes) next_verdict
  outcome_is = ap (λ (st : Standing). outcome_of (replies_to s (with_bytes s known entries bytes) bytes) st next_verdict) by_its_standing

  -- its item, as it stands
  item_is : (st : Standing) → call_standing s known log call bytes ≡ st → items_of (with_bytes s known entries bytes) ≡ log ++ item_of (entry_standing s.setting log st) ∷ []
  item_is st is = map-append item_of entries (next_entry s known entries bytes ∷ []) ∙ ap (λ (x : Standing). log ++ item_of (entry_standing s.setting log x) ∷ []) (by_its_standing ∙ is)

  verdict_is : (item : Item) → items_of (with_bytes s known entries bytes) ≡ log ++ item ∷ [] → next_verdict ≡ verdict_of s.setting (log ++ item ∷ []) (suc (length log))
  verdict_is item is =
      ap (λ (l : Log). verdict_of s.setting l (length entries + 1)) is
      ∙ ap (verdict_of s.setting (log ++ item ∷ [])) (let n : length entries + 1 ≡ suc (length log) = omega (arith, length-map entries item_of) in n)

  -- stale: more items than the window were ordered since its snapshot
  pub is_stale : StaleMeans → IsLog (items_of (with_bytes s known entries bytes)) → outcome_behind s known entries bytes ≡ outcome.Stale → s.setting.window < length log - call.snapshot
  is_stale means is_log refused =
      by_standing s known log call bytes (λ st. call_standing s known log call bytes ≡ st → outcome_of replies st next_verdict ≡ outcome.Stale → setting.window < length log - call.snapshot)
      (λ c is told. absurd cc) decided stands refl (sym outcome_is ∙ refused)
    where
      decided : call.snapshot ≤ length log → is_decided setting log call ≡ true → call_standing s known log call bytes ≡ IsDecided call → outcome_by replies outcome.Stale next_verdict ≡ outcome.Stale → setting.window < length log - call.snapshot
      decided early is stands_so told = by_count (nat_le (length log - call.snapshot) setting.window) refl (first_repeated setting.beginning.requests (history setting log).certified call) refl is
        where
          none : Call
          none = call_of_none (procedures_after setting log call.snapshot) call.snapshot call.request

          by_count : (b : Bool) → nat_le (length log - call.snapshot) setting.window ≡ b → (o : Option ℕ) → first_repeated setting.beginning.requests (history setting log).certified call ≡ o → (is_some o || not b) ≡ true → setting.window < length log - call.snapshot
          by_count false e o r is = grind (arith, nat_tests)
          by_count true e None r is = absurd cc
          by_count true e (Some n) r is =
              let items = item_is (IsDecided call) stands_so in
              let repeated = verdict_is (CallItem none) items ∙ repeated_there setting log none n (subst IsLog items is_log) r in
              absurd (not_told n (sym (ap (outcome_by replies outcome.Stale) repeated) ∙ told))
            where
              not_told : (n : ℕ) → outcome_by replies outcome.Stale (Some (verdict.Repeated n)) ≡ outcome.Stale → ⊥
              not_told n e = absurd cc

      stands : Stands s known log call bytes → call_standing s known log call bytes ≡ StandsAs (CallEntry (executed setting log call)) → outcome_by replies (outcome.Committed (executed setting log call).reply) next_verdict ≡ outcome.Stale → setting.window < length log - call.snapshot
      stands st stands_so told =
          let items = item_is (StandsAs (CallEntry (executed setting log call))) stands_so in
          let stale = sym (verdict_is (CallItem call) items) ∙ by_stale replies (executed setting log call).reply next_verdict told in
          ((means setting (log ++ CallItem call ∷ []) (length log) call (subst IsLog items is_log) (last_there log (CallItem call))).0 stale).1

  -- in conflict with what a committed call wrote, which its run had looked at
  pub is_conflicted : ConflictMeans → IsLog (items_of (with_bytes s known entries bytes)) → (position : ℕ) → outcome_behind s known entries bytes ≡ outcome.Conflict position
      → IsConflict s.setting (log ++ CallItem call ∷ []) call position (suc (length log)) × (call.snapshot ≤ length log) × (items_of (with_bytes s known entries bytes) ≡ log ++ CallItem call ∷ [])
  is_conflicted means is_log position refused =
      by_standing s known log call bytes (λ st. call_standing s known log call bytes ≡ st → outcome_of replies st next_verdict ≡ outcome.Conflict position → Found)
      (λ c is told. absurd cc) decided stands refl (sym outcome_is ∙ refused)
    where
      Found : Type 0
      Found = IsConflict setting (log ++ CallItem call ∷ []) call position (suc (length log)) × (call.snapshot ≤ length log) × (items_of behind ≡ log ++ CallItem call ∷ [])

      decided : call.snapshot ≤ length log → is_decided setting log call ≡ true → call_standing s known log call bytes ≡ IsDecided call → outcome_by replies outcome.Stale next_verdict ≡ outcome.Conflict position → Found
      decided early is stands_so told =
          let none = call_of_none (procedures_after setting log call.snapshot) call.snapshot call.request in
          let items = item_is (IsDecided call) stands_so in
          let conflict = sym (verdict_is (CallItem none) items) ∙ by_default_conflict replies position next_verdict told in
          let facts = (means setting (log ++ CallItem none ∷ []) (length log) none position (subst IsLog items is_log) (last_there log (CallItem none))).0 conflict in
          absurd (no_conflict_of_none setting (log ++ CallItem none ∷ []) none [] position (suc (length log)) refl (none_looks setting log call.snapshot call.request early) facts.2.is)

      stands : Stands s known log call bytes → call_standing s known log call bytes ≡ StandsAs (CallEntry (executed setting log call)) → outcome_by replies (outcome.Committed (executed setting log call).reply) next_verdict ≡ outcome.Conflict position → Found
      stands st stands_so told =
          let items = item_is (StandsAs (CallEntry (executed setting log call))) stands_so in
          let conflict = sym (verdict_is (CallItem call) items) ∙ by_conflict replies (executed setting log call).reply position next_verdict told in
          let is = subst IsLog items is_log in
          let there = last_there log (CallItem call) in
          let facts = (means setting (log ++ CallItem call ∷ []) (length log) call position is there).0 conflict in
          (facts.2.is, omega (arith, placed 0 (log ++ CallItem call ∷ []) (length log) call is there), items)

-- ---- what commits

-- a call that commits behind entries
record CommitsBehind (s : SiteSetting) (known : Sessions) (entries : List Entry) (bytes : List ℕ) (call : Call) : Type 0 where
  items : items_of (with_bytes s known entries bytes) ≡ items_of entries ++ CallItem call ∷ []
  commit : verdict_of s.setting (items_of entries ++ CallItem call ∷ []) (suc (length (items_of entries))) ≡ Some verdict.Commit
  procedure : StoredProcedure
  found : procedure_of s.setting (items_of entries) call ≡ Some procedure
  fits : FitsLog s.setting (items_of entries) (CallItem call)

commits_behind : (s : SiteSetting) (known : Sessions) (entries : List Entry) (bytes : List ℕ) (call : Call) (told reply : ℕ) → HaveVerdicts → NextFits → All (λ b. b < 256) bytes → head_of bytes ≡ Some (CallHead call told)
    → outcome_behind s known entries bytes ≡ outcome.Committed reply → CommitsBehind s known entries bytes call
commits_behind s known entries bytes call told reply verdicts next_fits are_bytes head commits =
    let w = s.setting in
    let log = items_of entries in
    let es = executed w log call in
    let by = stands_as_call s known log bytes call told head in
    let st = stands_by s known log call bytes (replies_to s (with_bytes s known entries bytes) bytes) (verdict_of w (items_of (with_bytes s known entries bytes)) (length entries + 1)) reply
    (sym (ap (λ (x : Standing). outcome_of (replies_to s (with_bytes s known entries bytes) bytes) x (verdict_of w (items_of (with_bytes s known entries bytes)) (length entries + 1))) by) ∙ commits) in
    let stands : standing s known log bytes ≡ StandsAs (CallEntry es) = by ∙ st.stands in
    let there = commits_there s known entries bytes verdicts es reply stands commits in
    let next : next_entry s known entries bytes ≡ CallEntry es = ap (entry_standing w log) stands in
    let items : items_of (with_bytes s known entries bytes) ≡ log ++ CallItem call ∷ [] =
    map-append item_of entries (next_entry s known entries bytes ∷ []) ∙ ap (λ (e : Entry). log ++ item_of e ∷ []) next in
    let (q, found) = known_by (procedure_of w log call) call.args st.takes in
    record {
      items = items;
      commit = subst (λ (n : ℕ). verdict_of w (log ++ CallItem call ∷ []) (suc n) ≡ Some verdict.Commit) (sym (length-map entries item_of))
          (subst (λ (l : Log). verdict_of w l (suc (length entries)) ≡ Some verdict.Commit) items there.0);
      procedure = q;
      found = found;
      fits = subst (λ (e : Entry). FitsLog w log (item_of e)) next (next_fits s known entries bytes are_bytes (λ p is. absurd (not_added es p (sym stands ∙ is))));
    }
  where
    not_added : (e : ExecutedCall) (p : StoredProcedure) → StandsAs (CallEntry e) ≡ StandsAs (AdditionEntry p) → ⊥
    not_added e p same = absurd cc

-- entries behind a byte string that is a call, of which the last is a call that asks the same on rows that aren't newer
module _ (s : SiteSetting) (known now : Sessions) (base later : List Entry) (first second : List ℕ) (a b : Call) (told other : ℕ) (asks : AsksAgain a b) where
  abbrev w : Setting
  w = s.setting

  abbrev front : Log
  front = items_of base

  abbrev all : List Entry
  all = with_bytes s known base first ++ later

  abbrev whole : Log
  whole = items_of all

  all_items : whole ≡ items_of (with_bytes s known base first) ++ items_of later
  all_items = map-append item_of (with_bytes s known base first) later

  longer : length front < length whole
  longer = omega (arith, ap length all_items, length-append (items_of (with_bytes s known base first)) (items_of later), ap length (map-append item_of base (next_entry s known base first ∷ [])), length-append front (items_of (next_entry s known base first ∷ [])))

  -- the first was stale
  pub never_after_stale : HaveVerdicts → NextFits → StaleMeans → CommitMeans → IsLog (items_of (with_bytes s known base first)) → IsLog (items_of (with_bytes s now all second)) → All (λ x. x < 256) second
      → head_of first ≡ Some (CallHead a told) → head_of second ≡ Some (CallHead b other) → outcome_behind s known base first ≡ outcome.Stale → (reply : ℕ) → outcome_behind s now all second ≡ outcome.Committed reply → ⊥
  never_after_stale verdicts next_fits stale_means means first_log all_log are_bytes first_head head stale reply commits =
      let late = is_stale s known base first a told first_head stale_means first_log stale in
      let c = commits_behind s now all second b other reply verdicts next_fits are_bytes head commits in
      let facts = (means w (whole ++ CallItem b ∷ []) (length whole) b (subst IsLog c.items all_log) (last_there whole (CallItem b))).0 c.commit in
      absurd (omega (arith, late, facts.1, longer, asks.snapshot))

  -- the first was in conflict
  pub never_after_conflict : HaveVerdicts → NextFits → OneMoreFits → NeverLost → RunsAlike → ConflictMeans → CommitMeans → AreFitEntries w all → IsLog (items_of (with_bytes s known base first)) → IsLog (items_of (with_bytes s now all second))
      → All (λ x. x < 256) second → head_of first ≡ Some (CallHead a told) → head_of second ≡ Some (CallHead b other) → (position : ℕ) → outcome_behind s known base first ≡ outcome.Conflict position
      → (reply : ℕ) → outcome_behind s now all second ≡ outcome.Committed reply → ⊥
  never_after_conflict verdicts next_fits more_fits lost alike conflict_means means are first_log all_log are_bytes first_head head position refused reply commits =
      let (conflict, early, first_items) = is_conflicted s known base first a told first_head conflict_means first_log position refused in
      let c = commits_behind s now all second b other reply verdicts next_fits are_bytes head commits in
      let n = a.snapshot in
      let old = take n front in
      let rest = CallItem a ∷ items_of later in
      let more = drop n front ++ rest in
      let split : front ≡ old ++ drop n front = sym (take-append-drop n front) in
      let whole_is : whole ≡ front ++ rest = all_items ∙ ap (λ (l : Log). l ++ items_of later) first_items ∙ append_assoc front (CallItem a ∷ []) (items_of later) in
      let from_old : whole ≡ old ++ more = whole_is ∙ ap (λ (l : Log). l ++ rest) split ∙ append_assoc old (drop n front) rest in
      let count : length old ≡ n = length-take-le n front early in
      let b_early : b.snapshot ≤ length old = omega (arith, count, asks.snapshot) in
      -- it commits behind the rows of the first one's snapshot, too
      let old_log : IsLog old = front_is_log 0 old more (subst IsLog from_old are.log) in
      let old_fits : AllFitLog w old = front_fits w old more (subst IsLog from_old are.log) (subst (AllFitLog w) from_old are.items) in
      let grown_old : procedures_after w whole b.snapshot ≡ procedures_after w old b.snapshot =
      ap (λ (l : Log). procedures_after w l b.snapshot) from_old ∙ procedures_grown w old more b.snapshot b_early in
      let b_fits : FitsLog w old (CallItem b) = subst (λ (ps : Catalogue). FitsProcedures ps b) grown_old c.fits in
      let short_log : IsLog (old ++ CallItem b ∷ []) = is_log_snoc 0 old (CallItem b) old_log (let e : b.snapshot ≤ 0 + length old = omega (arith, b_early) in e) in
      let long_log : IsLog ((old ++ more) ++ CallItem b ∷ []) = subst (λ (l : Log). IsLog (l ++ CallItem b ∷ [])) from_old (subst IsLog c.items all_log) in
      let commit : verdict_of w ((old ++ more) ++ CallItem b ∷ []) (suc (length (old ++ more))) ≡ Some verdict.Commit =
      subst (λ (l : Log). verdict_of w (l ++ CallItem b ∷ []) (suc (length l)) ≡ Some verdict.Commit) from_old c.commit in
      let run = runs_alike w old more b b_early means alike are.begins short_log long_log (more_fits w old (CallItem b) old_log old_fits b_early b_fits) commit in
      -- so it looks where the first one looked
      let found : by_number (procedures_after w old b.snapshot) b.procedure ≡ Some c.procedure = ap (λ (ps : Catalogue). by_number ps b.procedure) (sym grown_old) ∙ c.found in
      let found_then : by_number (procedures_after w old a.snapshot) a.procedure ≡ Some c.procedure =
      subst (λ (k : ℕ). by_number (procedures_after w old a.snapshot) k ≡ Some c.procedure) asks.procedure
      (lost w old b.snapshot a.snapshot b.procedure c.procedure old_log asks.snapshot (omega (arith, count)) found) in
      let same = same_runs w old b a c.procedure (rows_after w old a.snapshot) b_early found found_then asks.args (CallItem b) in
      let rows : rows_after w (old ++ CallItem b ∷ []) (length old) ≡ rows_after w old a.snapshot =
      rows_grown w old (CallItem b ∷ []) (length old) (omega arith) ∙ ap (rows_after w old) count in
      let looks_then : (run_in w (old ++ CallItem b ∷ []) b).looks ≡ (run_in w old a).looks =
      sym (ap (λ (r : Run). r.looks) run) ∙ ap (λ (x : Rows). (run_on w (old ++ CallItem b ∷ []) b x).looks) rows ∙ ap (λ (r : Run). r.looks) same in
      let a_early : a.snapshot ≤ length old = omega (arith, count) in
      let first_from_old : front ++ CallItem a ∷ [] ≡ old ++ (drop n front ++ CallItem a ∷ []) = ap (λ (l : Log). l ++ CallItem a ∷ []) split ∙ append_assoc old (drop n front) (CallItem a ∷ []) in
      let looks_first : (run_in w (front ++ CallItem a ∷ []) a).looks ≡ (run_in w old a).looks =
      ap (λ (l : Log). (run_in w l a).looks) first_from_old ∙ ap (λ (r : Run). r.looks) (run_grown w old (drop n front ++ CallItem a ∷ []) a a_early) in
      let looks_second : (run_in w (whole ++ CallItem b ∷ []) b).looks ≡ (run_in w (old ++ CallItem b ∷ []) b).looks =
      ap (λ (l : Log). (run_in w (l ++ CallItem b ∷ []) b).looks) from_old ∙ ap (λ (l : Log). (run_in w l b).looks) (append_assoc old more (CallItem b ∷ []))
      ∙ ap (λ (r : Run). r.looks) (run_grown w old (more ++ CallItem b ∷ []) b b_early ∙ sym (run_grown w old (CallItem b ∷ []) b b_early)) in
      let looks : (run_in w (front ++ CallItem a ∷ []) a).looks ≡ (run_in w (whole ++ CallItem b ∷ []) b).looks = looks_first ∙ sym looks_then ∙ sym looks_second in
      -- and what was written there since is in conflict with it
      let there : WroteWhatWasRead w (front ++ (rest ++ CallItem b ∷ [])) (run_in w (front ++ CallItem a ∷ []) a).looks position =
      wrote_there w front (CallItem a ∷ []) (rest ++ CallItem b ∷ []) (run_in w (front ++ CallItem a ∷ []) a).looks position (subst IsLog first_items first_log) (omega (arith, conflict.earlier)) conflict.wrote in
      let as_whole : front ++ (rest ++ CallItem b ∷ []) ≡ whole ++ CallItem b ∷ [] = sym (append_assoc front rest (CallItem b ∷ [])) ∙ ap (λ (l : Log). l ++ CallItem b ∷ []) (sym whole_is) in
      let wrote : WroteWhatWasRead w (whole ++ CallItem b ∷ []) (run_in w (whole ++ CallItem b ∷ []) b).looks position =
      subst (λ (ls : List Look). WroteWhatWasRead w (whole ++ CallItem b ∷ []) ls position) looks
      (subst (λ (l : Log). WroteWhatWasRead w l (run_in w (front ++ CallItem a ∷ []) a).looks position) as_whole there) in
      let facts = (means w (whole ++ CallItem b ∷ []) (length whole) b (subst IsLog c.items all_log) (last_there whole (CallItem b))).0 c.commit in
      facts.2 position (record {
        since = omega (arith, conflict.since, asks.snapshot);
        earlier = omega (arith, conflict.earlier, longer);
        wrote = wrote;
      })
