-- A call that commits would have written the same at each position from its snapshot on.
use Rattle.std.proofs.Common.{◌≡◌, ℕ, zero, suc, ◌+◌, ◌-◌, ◌==◌, ◌≤◌, ◌<◌, Bool, true, false, not, ◌&&◌, cond, is_some, List, [], ◌∷◌, ◌++◌, All, length, slice_get, Option, Some, None, IsSome, Result, Ok, Err, refl, sym, ap, subst, ◌∙◌, arith, append_assoc}
use Rattle.std.specs.Prelude.{◌↔◌}
use Rattle.std.specs.FinMap.{get, len}
use Rattle.std.proofs.lemmas.List.{length-append, length-map, map-append}
use Rattle.std.specs.Str.{bytes_eq}
use Rattle.schema.specs.declared.look.Look.{Look}
use Rattle.schema.specs.Rows.{Rows}
use Rattle.bpf_semantics.specs.Run.{Run}
use Rattle.bpf_semantics.specs.Agree.{same_on}
use Rattle.log_model.specs.declared.verdict.Verdict.{Verdict}
use Rattle.log_model.specs.declared.verdict.Verdict.TheVariants as verdict
use Rattle.log_model.specs.declared.verdict.Verdict.TheVariants.{Commit}
use Rattle.log_model.specs.Log.{StoredProcedure, Catalogue, Setting, Call, Item, CallItem, Log, IsLog, IsLogFrom, IsPlaced, by_name, by_number, first_repeated, history, or_idle, procedure_of, procedures_after, rows_after, run_in, run_of_call, run_of_procedure, run_on, verdict_of}
use Rattle.log_model.specs.Entries.{Entry, ExecutedCall, CallEntry, AdditionEntry, item_of, items_of}
use Rattle.log_entry.specs.Bytes.{entry_bytes}
use Rattle.log_entry.specs.Head.{CallHead, head_of}
use Rattle.log_model.specs.Fit.{AllFitLog, FitsLog, FitsProcedures, BeginsSafely, IsSafe}
use Rattle.log_model.specs.Verdicts.{IsConflict, IsNew, WroteWhatWasRead}
use Rattle.log_model.proofs.GrowthLemmas.{get_before, is_log_snoc, procedures_grown, rows_grown, run_grown, verdict_grown}
use Rattle.site_model.specs.declared.outcome.EntryOutcome.TheVariants as outcome
use Rattle.site_model.specs.declared.cause.NothingCause.{NothingCause}
use Rattle.site_model.specs.declared.answer.CallAnswer.{CallAnswer}
use Rattle.site_model.specs.declared.answer.CallAnswer.TheVariants.{Read, Submitted}
use Rattle.log_model.specs.declared.refusal.CallRefusal.{CallRefusal}
use Rattle.log_model.specs.Admission.{admission}
use Rattle.log_model.specs.OpenRequest.{has_zero}
use Rattle.log_model.proofs.AdmissionLemmas.{is_admitted}
use Rattle.site_model.specs.Fit.{AreFitEntries}
use Rattle.site_model.specs.Sessions.{Sessions, session_cause}
use Rattle.site_model.specs.Standing.{SiteSetting, Standing, StandsAs, IsDecided, IsNothing, call_standing, executed, is_decided, is_true, standing, takes_arguments, writes_something}
use Rattle.site_model.specs.Order.{reply_to, replies_to, Order, entry_standing, next_entry, order_entries, order_log, outcome_behind, outcome_by, outcome_of, sessions_after, with_bytes}
use Rattle.site_model.specs.Answer.{Asked, answer_for, answer_of_admission, answer_of_run, asked_call, call_answer, call_answer_behind, in_session, unless_cancelled, unless_repeated}
use Rattle.site_model.proofs.StandingLemmas.{call_cases, stands_as_call}
use Rattle.site_laws.specs.Settled.{IsSettled}
use Rattle.site_laws.proofs.LogLemmas.{HaveVerdicts, RunsAlike, commits_there}

-- ---- logs that go on from one

pub last_there : (log : Log) (item : Item) → slice_get (log ++ item ∷ []) (length log) ≡ Some item
last_there [] item = refl
last_there (x ∷ log) item = last_there log item

pub placed : (n : ℕ) (log : Log) (k : ℕ) (call : Call) → IsLogFrom n log → slice_get log k ≡ Some (CallItem call) → call.snapshot ≤ n + k
placed n [] k call is there = absurd cc
placed n (item ∷ log) zero call is there = let same : item ≡ CallItem call = cc in omega (arith, subst (IsPlaced n) same is.0)
placed n (item ∷ log) (suc k) call is there = omega (arith, placed (suc n) log k call is.1 there)

abbrev pub CommitMeans : Type 0
CommitMeans = (w : Setting) (log : Log) (d : ℕ) (call : Call) → IsLog log → slice_get log d ≡ Some (CallItem call)
    → (verdict_of w log (suc d) ≡ Some Commit) ↔ (IsNew w log call (suc d) × (d - call.snapshot ≤ w.window) × ((position : ℕ) → IsConflict w log call position (suc d) → ⊥))

-- what was written up to a log's end was so in each log that goes on from it
pub wrote_there : (w : Setting) (log m n : Log) (looks : List Look) (position : ℕ) → IsLog (log ++ m) → position ≤ length log
    → WroteWhatWasRead w (log ++ m) looks position → WroteWhatWasRead w (log ++ n) looks position
wrote_there w log m n looks position is within wrote =
    let lt : wrote.before < length log = omega (arith, within, wrote.place) in
    let le : wrote.call.snapshot ≤ length log = omega (arith, placed 0 (log ++ m) wrote.before wrote.call is wrote.stands, lt) in
    record {
      before = wrote.before;
      place = wrote.place;
      call = wrote.call;
      stands = get_before log n wrote.before lt ∙ sym (get_before log m wrote.before lt) ∙ wrote.stands;
      committed = ap (verdict_of w (log ++ n)) wrote.place ∙ verdict_grown w log n wrote.before lt ∙ sym (verdict_grown w log m wrote.before lt) ∙ ap (verdict_of w (log ++ m)) (sym wrote.place) ∙ wrote.committed;
      key = wrote.key;
      looked_at = wrote.looked_at;
      written = subst (λ (r : Run). IsSome (get r.writes wrote.key)) (run_grown w log m wrote.call le ∙ sym (run_grown w log n wrote.call le)) wrote.written;
    }

-- a log, the same with more behind it, and the call behind both
module _ (w : Setting) (log more : Log) (call : Call) (early : call.snapshot ≤ length log) where
  abbrev short : Log
  short = log ++ CallItem call ∷ []

  abbrev long : Log
  long = (log ++ more) ++ CallItem call ∷ []

  as_more : long ≡ log ++ (more ++ CallItem call ∷ [])
  as_more = append_assoc log more (CallItem call ∷ [])

  same_item : (k : ℕ) → k < length log → slice_get short k ≡ slice_get long k
  same_item k lt = get_before log (CallItem call ∷ []) k lt ∙ sym (ap (λ (l : Log). slice_get l k) as_more ∙ get_before log (more ++ CallItem call ∷ []) k lt)

  same_verdict : (k : ℕ) → k < length log → verdict_of w short (suc k) ≡ verdict_of w long (suc k)
  same_verdict k lt = verdict_grown w log (CallItem call ∷ []) k lt ∙ sym (ap (λ (l : Log). verdict_of w l (suc k)) as_more ∙ verdict_grown w log (more ++ CallItem call ∷ []) k lt)

  same_run : (c : Call) → c.snapshot ≤ length log → run_in w short c ≡ run_in w long c
  same_run c le = run_grown w log (CallItem call ∷ []) c le ∙ sym (ap (λ (l : Log). run_in w l c) as_more ∙ run_grown w log (more ++ CallItem call ∷ []) c le)

  long_length : length log ≤ length (log ++ more)
  long_length = omega (arith, length-append log more)

  new_before : IsNew w long call (suc (length (log ++ more))) → IsNew w short call (suc (length log))
  new_before new = record {
    not_before = new.not_before;
    first = λ position r.
        let lt : r.before < length log = omega (arith, r.earlier, r.place) in
        new.first position (record {
          earlier = omega (arith, r.earlier, long_length);
          before = r.before;
          place = r.place;
          first = r.first;
          stands = sym (same_item r.before lt) ∙ r.stands;
          committed = ap (verdict_of w long) r.place ∙ sym (same_verdict r.before lt) ∙ ap (verdict_of w short) (sym r.place) ∙ r.committed;
          same = r.same;
        });
  }

  conflict_behind : IsLog short → (position : ℕ) → IsConflict w short call position (suc (length log)) → IsConflict w long call position (suc (length (log ++ more)))
  conflict_behind is position c = record {
    since = c.since;
    earlier = omega (arith, c.earlier, long_length);
    wrote = subst (λ (r : Run). WroteWhatWasRead w long r.looks position) (same_run call early)
        (subst (λ (l : Log). WroteWhatWasRead w l (run_in w short call).looks position) (sym as_more)
        (wrote_there w log (CallItem call ∷ []) (more ++ CallItem call ∷ []) (run_in w short call).looks position is (omega (arith, c.earlier)) c.wrote));
  }

  -- where it commits behind the longer log, it commits behind the shorter
  pub commits_before : CommitMeans → IsLog short → IsLog long → verdict_of w long (suc (length (log ++ more))) ≡ Some Commit → verdict_of w short (suc (length log)) ≡ Some Commit
  commits_before means is_short is_long commits =
      let facts = (means w long (length (log ++ more)) call is_long (last_there (log ++ more) (CallItem call))).0 commits in
      (means w short (length log) call is_short (last_there log (CallItem call))).1
      (new_before facts.0, omega (arith, facts.1, long_length), λ position c. facts.2 position (conflict_behind is_short position c))

  -- and its run on the rows at the end of the shorter one writes what it writes on those of its snapshot
  pub runs_alike : CommitMeans → RunsAlike → BeginsSafely w → IsLog short → IsLog long → AllFitLog w short → verdict_of w long (suc (length (log ++ more))) ≡ Some Commit
      → run_on w short call (rows_after w short (length log)) ≡ same_on (rows_after w short (length log)) (run_in w short call)
  runs_alike means alike safe is_short is_long fit commits =
      alike w short (length log) call safe is_short fit (last_there log (CallItem call)) (commits_before means is_short is_long commits)

-- ---- what stands where a call commits

never_by_default : (replies : ℕ → ℕ) (reply : ℕ) (v : Option Verdict) → outcome_by replies outcome.Stale v ≡ outcome.Committed reply → ⊥
never_by_default replies reply None e = absurd cc
never_by_default replies reply (Some verdict.Commit) e = absurd cc
never_by_default replies reply (Some (verdict.Conflict n)) e = absurd cc
never_by_default replies reply (Some verdict.Stale) e = absurd cc
never_by_default replies reply (Some (verdict.Repeated n)) e = absurd cc
never_by_default replies reply (Some (verdict.Taken i)) e = absurd cc

-- nothing is against a call that commits for its session's sake. It is of a procedure that takes its arguments, and stands
-- as its run says
pub record Stands (s : SiteSetting) (known : Sessions) (log : Log) (call : Call) (bytes : List ℕ) : Type 0 where
  pub in_session : session_cause s.origin known call.request ≡ None
  pub takes : takes_arguments (procedure_of s.setting log call) call.args ≡ true
  pub is : is_true s.setting log call bytes ≡ true
  pub stands : call_standing s known log call bytes ≡ StandsAs (CallEntry (executed s.setting log call))

-- what holds of each way in which a call stands
pub by_standing : (s : SiteSetting) (known : Sessions) (log : Log) (call : Call) (bytes : List ℕ) (P : Standing → Type 0) → ((c : NothingCause) → P (IsNothing c))
    → (call.snapshot ≤ length log → is_decided s.setting log call ≡ true → P (IsDecided call))
    → (Stands s known log call bytes → P (StandsAs (CallEntry (executed s.setting log call)))) → P (call_standing s known log call bytes)
by_standing s known log call bytes P nothing decided stands =
    call_cases (λ (st : Standing). call_standing s known log call bytes ≡ st → P st) s known log call bytes (λ c _. nothing c) (λ recent _ is _. decided recent is)
    (λ well is. stands (record { in_session = well.in_session; takes = well.takes; is = well.true_to; stands = is })) refl

pub stands_by : (s : SiteSetting) (known : Sessions) (log : Log) (call : Call) (bytes : List ℕ) (replies : ℕ → ℕ) (v : Option Verdict) (reply : ℕ)
    → outcome_of replies (call_standing s known log call bytes) v ≡ outcome.Committed reply → Stands s known log call bytes
stands_by s known log call bytes replies v reply =
    by_standing s known log call bytes (λ st. outcome_of replies st v ≡ outcome.Committed reply → Stands s known log call bytes)
    (λ c told. absurd cc) (λ early decided told. absurd (never_by_default replies reply v told)) (λ stands told. stands)

-- ---- what is settled

writes_by : (a b : Bool) → (a && b) ≡ true → a ≡ true
writes_by true b e = refl
writes_by false b e = absurd cc

pub known_by : (o : Option StoredProcedure) (args : List ℕ) → takes_arguments o args ≡ true → (q : StoredProcedure) × (o ≡ Some q)
known_by None args e = absurd cc
known_by (Some q) args e = (q, refl)

-- a run that writes something is ordered
ordered : (position : ℕ) (r : Run) (bytes : List ℕ) (code : Option ℕ) → r.cancel_code ≡ code → writes_something r ≡ true → IsSettled (unless_cancelled position r bytes code) → ⊥
ordered position r bytes (Some code) is writes settled =
    absurd (contradiction writes (ap (λ (o : Option ℕ). not (is_some o) && not (len r.writes == 0)) is))
  where
    contradiction : {b : Bool} → b ≡ true → b ≡ false → ⊥
    contradiction e f = absurd cc
ordered position r bytes None is writes settled = by_count (len r.writes == 0) (sym (ap (λ (o : Option ℕ). not (is_some o) && not (len r.writes == 0)) is) ∙ writes) settled
  where
    by_count : (b : Bool) → not b ≡ true → IsSettled (cond b (Read position r.reply) (Submitted bytes)) → ⊥
    by_count true e h = absurd cc
    by_count false e h = h

-- what is answered where the procedure is there: a refusal, or what a run gives that was admitted
pub by_admission : (s : SiteSetting) (known : Sessions) (entries : List Entry) (asked : Asked) (p : StoredProcedure) (P : CallAnswer (List ℕ) → Type 0) → ((refusal : CallRefusal) → P (answer_of_admission s known entries asked (Err refusal)))
    → (length asked.args ≡ p.args_len → has_zero asked.request ≡ false → P (answer_of_admission s known entries asked (Ok p))) → P (answer_for s known entries asked (Some p))
by_admission s known entries asked p P refused admitted = by_answer (admission asked.args asked.request (Some p)) refl
  where
    some_is : (a b : StoredProcedure) → Some a ≡ Some b → a ≡ b
    some_is a b e = cc

    by_answer : (answer : Result StoredProcedure CallRefusal) → admission asked.args asked.request (Some p) ≡ answer → P (answer_of_admission s known entries asked answer)
    by_answer (Err refusal) h = refused refusal
    by_answer (Ok q) h =
        let is = is_admitted asked.args asked.request (Some p) q h in
        let same : p ≡ q = some_is p q is.found in
        subst (λ (x : StoredProcedure). P (answer_of_admission s known entries asked (Ok x))) same (admitted (is.fits ∙ ap (λ (x : StoredProcedure). x.args_len) (sym same)) is.whole)

-- an answer that is settled comes of a run that isn't
settled_by : (s : SiteSetting) (known : Sessions) (entries : List Entry) (asked : Asked) (p : StoredProcedure) → writes_something (run_in s.setting (items_of entries) (asked_call (items_of entries) p asked)) ≡ true
    → IsSettled (answer_for s known entries asked (Some p)) → ⊥
settled_by s known entries asked p writes =
    by_admission s known entries asked p (λ (answer : CallAnswer (List ℕ)). IsSettled answer → ⊥) (λ refusal settled. settled)
    (λ fits whole. by_cause (session_cause s.origin known asked.request) (first_repeated w.beginning.requests (history w log).certified (asked_call log p asked)))
  where
    w : Setting
    w = s.setting

    log : Log
    log = items_of entries

    by_run : (o : Option ℕ) → IsSettled (unless_repeated (reply_to w entries asked.request) (answer_of_run w log (asked_call log p asked)) o) → ⊥
    by_run (Some position) h = h
    by_run None h =
        let run = run_in w log (asked_call log p asked) in
        ordered (length log) run (entry_bytes (CallEntry (executed w log (asked_call log p asked)))) run.cancel_code refl writes h

    by_cause : (why : Option NothingCause) (o : Option ℕ) → IsSettled (in_session (unless_repeated (reply_to w entries asked.request) (answer_of_run w log (asked_call log p asked)) o) why) → ⊥
    by_cause (Some why) o h = h
    by_cause None o h = by_run o h

-- ---- the run of what was asked

pub same_runs : (w : Setting) (log : Log) (call c : Call) (q : StoredProcedure) (rows : Rows) → call.snapshot ≤ length log → by_number (procedures_after w log call.snapshot) call.procedure ≡ Some q
    → by_number (procedures_after w log c.snapshot) c.procedure ≡ Some q → call.args ≡ c.args → (item : Item) → run_on w (log ++ item ∷ []) call rows ≡ run_on w log c rows
unfolding run_of_call
same_runs w log call c q rows early first second args item =
    ap (λ (ps : Catalogue). or_idle rows (run_of_procedure w.tables (by_number ps call.procedure) call.args rows)) (procedures_grown w log (item ∷ []) call.snapshot early)
    ∙ ap (λ (o : Option StoredProcedure). or_idle rows (run_of_procedure w.tables o call.args rows)) (first ∙ sym second)
    ∙ ap (λ (xs : List ℕ). or_idle rows (run_of_procedure w.tables (by_number (procedures_after w log c.snapshot) c.procedure) xs rows)) args

-- ---- orders

abbrev pub NeverLost : Type 0
NeverLost = (w : Setting) (log : Log) (earlier later number : ℕ) (p : StoredProcedure) → IsLog log → earlier ≤ later → later ≤ length log
    → by_number (procedures_after w log earlier) number ≡ Some p → by_number (procedures_after w log later) number ≡ Some p

abbrev pub OneMoreFits : Type 0
OneMoreFits = (w : Setting) (log : Log) (item : Item) → IsLog log → AllFitLog w log → IsPlaced (length log) item → FitsLog w log item → AllFitLog w (log ++ item ∷ [])

abbrev pub NextFits : Type 0
NextFits = (s : SiteSetting) (known : Sessions) (entries : List Entry) (bytes : List ℕ) → All (λ b. b < 256) bytes
    → ((p : StoredProcedure) → standing s known (items_of entries) bytes ≡ StandsAs (AdditionEntry p) → IsSafe s.setting.tables p)
    → FitsLog s.setting (items_of entries) (item_of (next_entry s known entries bytes))

pub settled_answer : (s : SiteSetting) (order : Order) (asked : Asked) → call_answer s order asked
    ≡ answer_for s (sessions_after s order) (order_entries s order) asked (by_name (procedures_after s.setting (order_log s order) (length (order_entries s order))) asked.name)
unfolding call_answer_behind
settled_answer s order asked = refl

-- entries that go on from others, of which the last is a call that asks what was answered
module _ (s : SiteSetting) (known now : Sessions) (entries later : List Entry) (bytes : List ℕ) (call : Call) (told reply : ℕ) (asked : Asked) (p : StoredProcedure) where
  abbrev w : Setting
  w = s.setting

  abbrev log : Log
  log = items_of entries

  abbrev all : List Entry
  all = entries ++ later

  as_items : items_of all ≡ log ++ items_of later
  as_items = map-append item_of entries later

  pub answered : HaveVerdicts → RunsAlike → CommitMeans → NeverLost → OneMoreFits → NextFits
      → AreFitEntries w entries → IsLog (items_of (with_bytes s now all bytes)) → All (λ b. b < 256) bytes → head_of bytes ≡ Some (CallHead call told)
      → call.procedure ≡ p.number → call.args ≡ asked.args → call.snapshot ≤ length entries
      → IsSettled (answer_for s known entries asked (Some p)) → outcome_behind s now all bytes ≡ outcome.Committed reply → ⊥
  answered verdicts alike means lost more_fits next_fits are is_log are_bytes head number args early settled commits =
      let es = executed w (items_of all) call in
      let by = stands_as_call s now (items_of all) bytes call told head in
      let st = stands_by s now (items_of all) call bytes (replies_to s (with_bytes s now all bytes) bytes) (verdict_of w (items_of (with_bytes s now all bytes)) (length all + 1)) reply
      (sym (ap (λ (x : Standing). outcome_of (replies_to s (with_bytes s now all bytes) bytes) x (verdict_of w (items_of (with_bytes s now all bytes)) (length all + 1))) by) ∙ commits) in
      let stands : standing s now (items_of all) bytes ≡ StandsAs (CallEntry es) = by ∙ st.stands in
      let there = commits_there s now all bytes verdicts es reply stands commits in
      let next : next_entry s now all bytes ≡ CallEntry es = ap (entry_standing w (items_of all)) stands in
      let items : items_of (with_bytes s now all bytes) ≡ (log ++ items_of later) ++ CallItem call ∷ [] =
      map-append item_of all (next_entry s now all bytes ∷ []) ∙ ap (λ (e : Entry). items_of all ++ item_of e ∷ []) next ∙ ap (λ (l : Log). l ++ CallItem call ∷ []) as_items in
      let long_is : IsLog ((log ++ items_of later) ++ CallItem call ∷ []) = subst IsLog items is_log in
      let counted : length all ≡ length (log ++ items_of later) = sym (length-map all item_of) ∙ ap length as_items in
      let commit : verdict_of w ((log ++ items_of later) ++ CallItem call ∷ []) (suc (length (log ++ items_of later))) ≡ Some verdict.Commit =
      subst (λ (n : ℕ). verdict_of w ((log ++ items_of later) ++ CallItem call ∷ []) (suc n) ≡ Some verdict.Commit) counted
      (subst (λ (l : Log). verdict_of w l (suc (length all)) ≡ Some verdict.Commit) items there.0) in
      let early_log : call.snapshot ≤ length log = omega (arith, early, length-map entries item_of) in
      let short_is : IsLog (log ++ CallItem call ∷ []) = is_log_snoc 0 log (CallItem call) are.log (let e : call.snapshot ≤ 0 + length log = omega (arith, early_log) in e) in
      -- the call fits
      let fits_all : FitsLog w (items_of all) (CallItem call) =
      subst (λ (e : Entry). FitsLog w (items_of all) (item_of e)) next (next_fits s now all bytes are_bytes (λ q is. absurd (not_added es q (sym stands ∙ is)))) in
      let grown : procedures_after w (items_of all) call.snapshot ≡ procedures_after w log call.snapshot =
      ap (λ (l : Log). procedures_after w l call.snapshot) as_items ∙ procedures_grown w log (items_of later) call.snapshot early_log in
      let fits : FitsLog w log (CallItem call) = subst (λ (ps : Catalogue). FitsProcedures ps call) grown fits_all in
      let fit_short = more_fits w log (CallItem call) are.log are.items early_log fits in
      -- its run
      let run = runs_alike w log (items_of later) call early_log means alike are.begins short_is long_is fit_short commit in
      let (q, found_all) = known_by (procedure_of w (items_of all) call) call.args st.takes in
      let found : by_number (procedures_after w log call.snapshot) call.procedure ≡ Some q =
      ap (λ (ps : Catalogue). by_number ps call.procedure) (sym grown) ∙ found_all in
      let found_now : by_number (procedures_after w log (length log)) p.number ≡ Some q =
      subst (λ (n : ℕ). by_number (procedures_after w log (length log)) n ≡ Some q) number
      (lost w log call.snapshot (length log) call.procedure q are.log early_log (omega arith) found) in
      let rows : rows_after w (log ++ CallItem call ∷ []) (length log) ≡ rows_after w log (length log) = rows_grown w log (CallItem call ∷ []) (length log) (omega arith) in
      let same = same_runs w log call (asked_call log p asked) q (rows_after w log (length log)) early_log found found_now args (CallItem call) in
      let as_asked : same_on (rows_after w (log ++ CallItem call ∷ []) (length log)) (run_in w (log ++ CallItem call ∷ []) call) ≡ run_in w log (asked_call log p asked) =
      sym run ∙ ap (run_on w (log ++ CallItem call ∷ []) call) rows ∙ same in
      let there_and_here : run_in w (log ++ CallItem call ∷ []) call ≡ run_in w (items_of all) call =
      run_grown w log (CallItem call ∷ []) call early_log ∙ sym (ap (λ (l : Log). run_in w l call) as_items ∙ run_grown w log (items_of later) call early_log) in
      let wrote : writes_something (run_in w (log ++ CallItem call ∷ []) call) ≡ true =
      ap writes_something there_and_here ∙ writes_by (writes_something (run_in w (items_of all) call)) (bytes_eq bytes (entry_bytes (CallEntry es))) st.is in
      settled_by s known entries asked p (sym (ap writes_something as_asked) ∙ wrote) settled
    where
      not_added : (e : ExecutedCall) (q : StoredProcedure) → StandsAs (CallEntry e) ≡ StandsAs (AdditionEntry q) → ⊥
      not_added e q same = absurd cc
