-- The log, one item after another.
use Rattle.std.proofs.Common.{◌≡◌, ◌⊎◌, inl, inr, ◌↔◌, ℕ, zero, suc, ◌+◌, ◌-◌, ◌≤◌, ◌<◌, List, [], ◌∷◌, ◌++◌, length, map, take, get_or, Some, None, option_map, refl, sym, ap, subst, ◌∙◌, arith, Option, false, true}
use Rattle.std.specs.Prelude.{slice_get, Option, true, false}
use Rattle.std.specs.FinMap.{empty}
use Rattle.std.specs.List.{cons_option, take-map}
use Rattle.std.proofs.lemmas.List.{append-nil, length-append, length-take-le, take-append-le, take_all, map-append}
use Rattle.std.proofs.lemmas.List.Sums.{fold-append}
use Rattle.std.proofs.lemmas.Option.{slice_get-get_or, slice_get_within}
use Rattle.std.proofs.Math.ListN.{get_or-append, get_or-map}
use Rattle.std.proofs.Math.Seq.{take-suc}
use Rattle.schema.specs.declared.look.Look.{Look}
use Rattle.schema.specs.Rows.{Rows}
use Rattle.bpf_semantics.specs.Run.{Run}
use Rattle.log_model.specs.declared.request.RequestId.{RequestId}
use Rattle.log_model.specs.declared.verdict.Verdict.{Verdict}
use Rattle.log_model.specs.declared.verdict.Verdict.TheVariants.{Commit, Conflict, Stale, Repeated, Taken}
use Rattle.log_model.specs.Log.{Setting, is_commit, Call, Item, CallItem, AdditionItem, Log, IsPlaced, IsLogFrom, IsLog, by_number, or_idle, run_of_procedure, run_of_call, CertifiedItem, verdict_after, verdict_on_addition, certified_call_after, certified_addition, certified_item, Database, no_database, database_at, database_now, database_after_item, History, start, with_item, if_commits, history, procedures_after, run_in, verdict_of, was_done}
use Rattle.log_model.specs.Verdicts.{IsRepeated, IsRepetition}
use Rattle.certify.specs.Comparisons.{comparisons_after}
use Rattle.plain_replayer.specs.declared.item.PlainItemKind.{PlainItemKind}
use Rattle.plain_replayer.specs.Kind.{item_of}
use Rattle.plain_replayer.specs.Report.{Report, report_by_run, report_of_addition}
use Rattle.plain_replayer.specs.Replay.{IsReportOf, IsReportOfCall, reply_of_item, told_reply, added_by, added_from, procedures_of, procedures_at, certified_of, told_by, report_of_run, run_by, report_after, rows_after_next}
use Rattle.plain_replayer.proofs.CertifyLemmas.{length_map}
use Rattle.plain_replayer.proofs.ProcedureLemmas.{at_within, at_beyond, at_last, at_shorter, added_to, procedures_next}

-- a call without a run has what an idle one has, on whatever rows
reported_run : (w : Setting) (past : List Report) (call : Call) (rows : Rows) (run : Option Run) (request : Option RequestId) (verdict : Verdict) (comparisons : List ℕ) (told : Option ℕ)
    → request ≡ call.request → verdict ≡ (report_of_run w past call (or_idle rows run)).verdict
    → comparisons ≡ (report_of_run w past call (or_idle rows run)).comparisons → told ≡ (report_of_run w past call (or_idle rows run)).told
    → report_by_run request run verdict comparisons told ≡ report_of_run w past call (or_idle rows run)
reported_run w past call rows None request v cs told q e f t = λ i. record { request = q i; reply = 0; looks = []; writes = empty; verdict = e i; comparisons = f i; told = t i }
reported_run w past call rows (Some r) request v cs told q e f t = λ i. record { request = q i; reply = r.reply; looks = r.looks; writes = r.writes; verdict = e i; comparisons = f i; told = t i }

same_looks : (rows : Rows) (run : Option Run) → (or_idle empty run).looks ≡ (or_idle rows run).looks
same_looks rows None = refl
same_looks rows (Some r) = refl

same_reply : (rows : Rows) (run : Option Run) → (or_idle empty run).reply ≡ (or_idle rows run).reply
same_reply rows None = refl
same_reply rows (Some r) = refl

pub said_of_run : (w : Setting) (log : Log) (past : List Report) (call : Call) (rows : Rows) (run : Option Run) (request : Option RequestId) (looks : List Look) (reply : ℕ) (verdict : Verdict) (comparisons : List ℕ) (told : Option ℕ)
    → request ≡ call.request
    → run ≡ run_of_procedure w.tables (by_number (procedures_at w log past call.snapshot) call.procedure) call.args rows
    → looks ≡ (or_idle empty run).looks → reply ≡ (or_idle empty run).reply
    → verdict ≡ verdict_after w.window w.beginning.requests (map certified_of past) call looks → comparisons ≡ comparisons_after w.window w.beginning.requests (map certified_of past) call looks
    → told ≡ told_by past verdict reply
    → report_by_run request run verdict comparisons told ≡ report_of_run w past call (run_by w log past call rows)
unfolding run_of_call
said_of_run w log past call rows run request looks reply verdict comparisons told q is looks_are reply_is e f t =
    let same : looks ≡ (or_idle rows run).looks = looks_are ∙ same_looks rows run in
    let certain : verdict ≡ (report_of_run w past call (or_idle rows run)).verdict = e ∙ ap (verdict_after w.window w.beginning.requests (map certified_of past) call) same in
    reported_run w past call rows run request verdict comparisons told q certain
    (f ∙ ap (comparisons_after w.window w.beginning.requests (map certified_of past) call) same)
    (t ∙ (λ i. told_by past (certain i) ((reply_is ∙ same_reply rows run) i)))
    ∙ ap (λ (r : Option Run). report_of_run w past call (or_idle rows r)) is

commits_then : {X : Type 0} (v : Verdict) (x y : X) → is_commit v ≡ true → x ≡ if_commits v x y
commits_then Commit x y e = refl
commits_then (Conflict position) x y e = absurd cc
commits_then Stale x y e = absurd cc
commits_then (Repeated position) x y e = absurd cc
commits_then (Taken identifier) x y e = absurd cc

pub refused_then : {X : Type 0} (v : Verdict) (x y : X) → is_commit v ≡ false → y ≡ if_commits v x y
refused_then Commit x y e = absurd cc
refused_then (Conflict position) x y e = refl
refused_then Stale x y e = refl
refused_then (Repeated position) x y e = refl
refused_then (Taken identifier) x y e = refl

pub rows_committed : (w : Setting) (log : Log) (past : List Report) (call : Call) (now : Rows) (run : Option Run) (v : Verdict) → is_commit v ≡ true
    → run ≡ run_of_procedure w.tables (by_number (procedures_at w log past call.snapshot) call.procedure) call.args now
    → (or_idle now run).effect ≡ if_commits v (run_by w log past call now).effect now
unfolding run_of_call
rows_committed w log past call now run v committed is =
    ap (λ (r : Option Run). (or_idle now r).effect) is
    ∙ commits_then v (run_by w log past call now).effect now committed

pub rows_refused : (w : Setting) (log : Log) (past : List Report) (call : Call) (now : Rows) (v : Verdict) → is_commit v ≡ false
    → now ≡ if_commits v (run_by w log past call now).effect now
rows_refused w log past call now v refused = refused_then v (run_by w log past call now).effect now refused

pub item_is : {A : Type 0} (kind found : PlainItemKind A) (item : Item) → kind ≡ found → item_of kind ≡ item → item_of found ≡ item
item_is kind found item e v = ap (λ k. item_of k) (sym e) ∙ v

-- ---- one item more

history_one_more : (w : Setting) (past : Log) (item : Item) → history w (past ++ item ∷ []) ≡ with_item w (history w past) item
unfolding history
history_one_more w past item = fold-append (with_item w) (start w) past (item ∷ [])

placed_at : (item : Item) (m n : ℕ) → m ≡ n → IsPlaced m item → IsPlaced n item
placed_at item m n same is = subst (λ (k : ℕ). IsPlaced k item) same is

placed_later : (item : Item) (m n : ℕ) → m ≤ n → IsPlaced m item → IsPlaced n item
placed_later (CallItem call) m n le is = omega arith
placed_later (AdditionItem p) m n le is = tt

split_last : (n : ℕ) (past : Log) (item : Item) → IsLogFrom n (past ++ item ∷ []) → IsLogFrom n past × IsPlaced (n + length past) item
split_last n [] item is = (tt, placed_at item n (n + 0) (omega arith) is.0)
split_last n (first ∷ past) item is =
    let rest = split_last (suc n) past item is.1 in
    ((is.0, rest.0), placed_at item (suc n + length past) (n + suc (length past)) (omega arith) rest.1)

placed_below : (n : ℕ) (log : Log) (before : ℕ) (item : Item) → IsLogFrom n log → slice_get log before ≡ Some item → IsPlaced (n + before) item
placed_below n [] before item is at = absurd cc
placed_below n (first ∷ log) zero item is at =
    let same : first ≡ item = cc in
    placed_at item n (n + 0) (omega arith) (subst (λ (x : Item). IsPlaced n x) same is.0)
placed_below n (first ∷ log) (suc before) item is at =
    placed_at item (suc n + before) (n + suc before) (omega arith) (placed_below (suc n) log before item is.1 at)

-- what stands in a list with one more stood in it, or is the last
last_or_before : {X : Type 0} (xs : List X) (y z : X) (k : ℕ) → slice_get (xs ++ y ∷ []) k ≡ Some z → ((k < length xs) × (slice_get xs k ≡ Some z)) ⊎ ((k ≡ length xs) × (y ≡ z))
last_or_before [] y z zero e = inr (refl, cc)
last_or_before [] y z (suc k) e = absurd cc
last_or_before (x ∷ xs) y z zero e = inl (omega arith, e)
last_or_before (x ∷ xs) y z (suc k) e = elim (last_or_before xs y z k e) [
  | inl old ↦ let lt = old.0 in inl (omega arith, old.1)
  | inr new ↦ inr (ap suc new.0, new.1)
]

get_taken : {X : Type 0} (xs : List X) (n k : ℕ) → k < n → slice_get (take n xs) k ≡ slice_get xs k
get_taken [] zero k lt = absurd (omega arith)
get_taken [] (suc n) k lt = refl
get_taken (x ∷ xs) zero k lt = absurd (omega arith)
get_taken (x ∷ xs) (suc n) zero lt = refl
get_taken (x ∷ xs) (suc n) (suc k) lt = get_taken xs n k (omega arith)

-- what the reports and rows so far say of a history
pub record IsHistory (w : Setting) (log : Log) (reports : List Report) (rows : List Rows) (h : History) : Type 0 where
  certified : map certified_of reports ≡ h.certified
  rows_are : rows ≡ map (λ (d : Database). d.rows) h.databases
  procedures_are : (p : ℕ) → procedures_at w log reports p ≡ (database_at h p).procedures
  count : length h.databases ≡ suc (length reports)

rows_there : (w : Setting) (log : Log) (reports : List Report) (rows : List Rows) (h : History) → IsHistory w log reports rows h → (p : ℕ) → get_or rows p empty ≡ (database_at h p).rows
rows_there w log reports rows h so p = ap (λ (rs : List Rows). get_or rs p empty) so.rows_are ∙ get_or-map (λ (d : Database). d.rows) h.databases p no_database

place_now : (w : Setting) (log : Log) (reports : List Report) (rows : List Rows) (h : History) → IsHistory w log reports rows h → length reports ≡ length h.certified
place_now w log reports rows h so = sym (length_map certified_of reports) ∙ ap length so.certified

rows_now : (w : Setting) (log : Log) (reports : List Report) (rows : List Rows) (h : History) → IsHistory w log reports rows h → get_or rows (length reports) empty ≡ (database_now h).rows
rows_now w log reports rows h so =
    rows_there w log reports rows h so (length reports)
    ∙ ap (λ (n : ℕ). (database_at h n).rows) (place_now w log reports rows h so)

procedures_now : (w : Setting) (log : Log) (reports : List Report) (rows : List Rows) (h : History) → IsHistory w log reports rows h → procedures_of w log reports ≡ (database_now h).procedures
procedures_now w log reports rows h so =
    sym (at_last w log reports)
    ∙ so.procedures_are (length reports)
    ∙ ap (λ (n : ℕ). (database_at h n).procedures) (place_now w log reports rows h so)

certified_next : (w : Setting) (log : Log) (reports : List Report) (rows : List Rows) (h : History) (item : Item) → IsHistory w log reports rows h
    → certified_of (report_after w log reports rows item) ≡ certified_item w h item
unfolding certified_item
certified_next w log reports rows h (CallItem call) so =
    let same : run_by w log reports call (get_or rows call.snapshot empty) ≡ run_of_call w.tables (database_at h call.snapshot).procedures call (database_at h call.snapshot).rows =
    (λ i. run_of_call w.tables (so.procedures_are call.snapshot i) call (rows_there w log reports rows h so call.snapshot i)) in
    (λ i. certified_call_after w.window w.beginning.requests (so.certified i) call (same i).looks (same i).writes)
certified_next w log reports rows h (AdditionItem p) so = λ i. certified_addition (procedures_now w log reports rows h so i) p

rows_next : (w : Setting) (log : Log) (reports : List Report) (rows : List Rows) (h : History) (item : Item) (v : Verdict) → IsHistory w log reports rows h
    → rows_after_next w log reports (get_or rows (length reports) empty) item v ≡ (database_after_item w h item v).rows
unfolding database_after_item
rows_next w log reports rows h (CallItem call) v so =
    let now = rows_now w log reports rows h so in
    (λ i. if_commits v (run_of_call w.tables (so.procedures_are call.snapshot i) call (now i)).effect (now i))
rows_next w log reports rows h (AdditionItem p) v so = rows_now w log reports rows h so

-- what is said of the next item, and the rows after it, say the history after it
history_next : (w : Setting) (log : Log) (reports : List Report) (rows : List Rows) (h : History) (item : Item) (report : Report) (after : Rows) → IsHistory w log reports rows h
    → slice_get log (length reports) ≡ Some item → report ≡ report_after w log reports rows item
    → after ≡ rows_after_next w log reports (get_or rows (length reports) empty) item report.verdict
    → IsHistory w log (reports ++ report ∷ []) (rows ++ after ∷ []) (with_item w h item)
history_next w log reports rows h item report after so stands is after_is =
    let certain : certified_of report ≡ certified_item w h item = ap certified_of is ∙ certified_next w log reports rows h item so in
    let verdict : report.verdict ≡ (certified_item w h item).verdict = ap (λ (c : CertifiedItem). c.verdict) certain in
    let count = so.count in
    let d : Database = database_after_item w h item (certified_item w h item).verdict in
    let rows_is : after ≡ d.rows = after_is ∙ rows_next w log reports rows h item report.verdict so ∙ ap (λ (v : Verdict). (database_after_item w h item v).rows) verdict in
    let procedures_is : d.procedures ≡ procedures_of w log reports ++ cons_option (added_by (Some item) report.verdict) [] =
    added_to w h item (certified_item w h item).verdict
    ∙ (λ i. sym (procedures_now w log reports rows h so) i ++ cons_option (added_by (Some item) (sym verdict i)) []) in
    record {
      certified = map-append certified_of reports (report ∷ []) ∙ (λ i. so.certified i ++ certain i ∷ []);
      rows_are = (λ i. so.rows_are i ++ rows_is i ∷ []) ∙ sym (map-append (λ (d : Database). d.rows) h.databases (d ∷ []));
      procedures_are = procedures_next w log reports report item h.databases d so.procedures_are count stands procedures_is;
      count = (let a = length-append h.databases (d ∷ []) in let b = length-append reports (report ∷ []) in omega arith);
    }

-- what was said of the items so far
pub record IsSoFar (w : Setting) (log past : Log) (reports : List Report) (rows : List Rows) : Type 0 where
  is : IsHistory w log reports rows (history w past)
  pub count : length reports ≡ length past
  count_rows : length rows ≡ suc (length past)
  said : IsLog past → (before : ℕ) (item : Item) (report : Report) → slice_get past before ≡ Some item → slice_get reports before ≡ Some report → report ≡ report_after w log (take before reports) rows item

at_first : (w : Setting) (log : Log) (p : ℕ) → procedures_at w log [] p ≡ (database_at (start w) p).procedures
unfolding added_from
at_first w log zero = append-nil w.beginning.procedures
at_first w log (suc p) = at_beyond w log [] (suc p) (omega arith)

nothing : (w : Setting) (log : Log) → w.beginning.rows ≡ empty → IsSoFar w log [] [] (empty ∷ [])
unfolding history added_from
nothing w log none = record {
  is = record { certified = refl; rows_are = ap (λ (rows : Rows). rows ∷ []) (sym none); procedures_are = at_first w log; count = refl };
  count = refl;
  count_rows = refl;
  said = λ is before item report at. absurd cc;
}

pub none_so_far : (w : Setting) (log : Log) (reports : List Report) (rows : List Rows) → w.beginning.rows ≡ empty → reports ≡ [] → rows ≡ empty ∷ [] → IsSoFar w log [] reports rows
none_so_far w log reports rows none e f = subst (λ (rs : List Report). IsSoFar w log [] rs rows) (sym e) (subst (λ (m : List Rows). IsSoFar w log [] [] m) (sym f) (nothing w log none))

one_said : (w : Setting) (log : Log) (reports : List Report) (rows : List Rows) (next : Report) (after : Rows) (before : ℕ) (item : Item) (report : Report)
    → before ≤ length reports → before < length rows → IsPlaced before item → report ≡ report_after w log (take before reports) rows item
    → report ≡ report_after w log (take before (reports ++ next ∷ [])) (rows ++ after ∷ []) item
one_said w log reports rows next after before (CallItem call) report le low placed e =
    let past : take before (reports ++ next ∷ []) ≡ take before reports = take-append-le before reports (next ∷ []) le in
    e ∙ (λ i. report_of_run w (sym past i) call (run_by w log (sym past i) call (sym (get_or-append rows (after ∷ []) empty call.snapshot (omega arith)) i)))
one_said w log reports rows next after before (AdditionItem p) report le low placed e =
    let past : take before (reports ++ next ∷ []) ≡ take before reports = take-append-le before reports (next ∷ []) le in
    e ∙ (λ i. report_of_addition (verdict_on_addition (procedures_of w log (sym past i)) p))

one_more : (w : Setting) (log past : Log) (reports : List Report) (rows : List Rows) (item : Item) (report : Report) (after : Rows)
    → IsSoFar w log past reports rows → slice_get log (length past) ≡ Some item
    → report ≡ report_after w log reports rows item
    → after ≡ rows_after_next w log reports (get_or rows (length reports) empty) item report.verdict
    → IsSoFar w log (past ++ item ∷ []) (reports ++ report ∷ []) (rows ++ after ∷ [])
one_more w log past reports rows item report after so there e f =
    let count = so.count in
    let count_rows = so.count_rows in
    record {
      is = subst (λ (h : History). IsHistory w log (reports ++ report ∷ []) (rows ++ after ∷ []) h) (sym (history_one_more w past item))
          (history_next w log reports rows (history w past) item report after so.is (ap (slice_get log) count ∙ there) e f);
      count = (let a = length-append reports (report ∷ []) in let b = length-append past (item ∷ []) in omega arith);
      count_rows = (let a = length-append rows (after ∷ []) in let b = length-append past (item ∷ []) in omega arith);
      said = λ is before x r at stands.
          let split = split_last 0 past item is in
          elim (last_or_before past item x before at) [
            | inl old ↦ elim (last_or_before reports report r before stands) [
              | inl was ↦
                  let lt = old.0 in
                  one_said w log reports rows report after before x r (omega arith) (omega arith)
                  (placed_at x (0 + before) before (omega arith) (placed_below 0 past before x split.0 old.1))
                  (so.said split.0 before x r old.1 was.1)
              | inr new ↦ let lt = old.0 in let end = new.0 in absurd (omega arith)
            ]
            | inr last ↦ elim (last_or_before reports report r before stands) [
              | inl was ↦ let lt = was.0 in let end = last.0 in absurd (omega arith)
              | inr new ↦
                  let end = new.0 in
                  let all : reports ≡ take before reports = sym (take_all before reports (omega arith)) in
                  subst (λ (d : Item). r ≡ report_after w log (take before (reports ++ report ∷ [])) (rows ++ after ∷ []) d) last.1
                  (sym new.1 ∙ one_said w log reports rows report after before item report (omega arith) (omega arith)
                  (placed_at item (0 + length past) before (omega arith) split.1)
                  (e ∙ ap (λ (l : List Report). report_after w log l rows item) all))
            ]
          ];
    }

-- one item further in the log
pub next_so_far : (w : Setting) (log : Log) (place : ℕ) (item d : Item) (reports reports_next : List Report) (rows rows_next : List Rows)
    → IsSoFar w log (take place log) reports rows → place < length log → item ≡ get_or log place d
    → reports_next ≡ reports ++ report_after w log reports rows item ∷ []
    → rows_next ≡ rows ++ rows_after_next w log reports (get_or rows (length reports) empty) item (report_after w log reports rows item).verdict ∷ []
    → IsSoFar w log (take (place + 1) log) reports_next rows_next
next_so_far w log place item d reports reports_next rows rows_next so lt is next_is after_is =
    let more : place + 1 ≡ suc place = omega arith in
    let longer : take (place + 1) log ≡ take place log ++ item ∷ [] = ap (λ (n : ℕ). take n log) more ∙ take-suc log place d lt ∙ (λ i. take place log ++ sym is i ∷ []) in
    let count : length (take place log) ≡ place = length-take-le place log (omega arith) in
    let there : slice_get log (length (take place log)) ≡ Some item = ap (slice_get log) count ∙ slice_get-get_or log place d lt ∙ ap (λ (x : Item). Some x) (sym is) in
    let report : Report = report_after w log reports rows item in
    subst (λ (past : Log). IsSoFar w log past reports_next rows_next) (sym longer)
    (subst (λ (rs : List Report). IsSoFar w log (take place log ++ item ∷ []) rs rows_next) (sym next_is)
    (subst (λ (m : List Rows). IsSoFar w log (take place log ++ item ∷ []) (reports ++ report ∷ []) m) (sym after_is)
    (one_more w log (take place log) reports rows item report (rows_after_next w log reports (get_or rows (length reports) empty) item report.verdict) so there refl refl)))

-- ---- the whole log

pub whole_log : (w : Setting) (log : Log) (place : ℕ) (reports : List Report) (rows : List Rows) → length log ≤ place → IsSoFar w log (take place log) reports rows → IsSoFar w log log reports rows
whole_log w log place reports rows past so = subst (λ (l : Log). IsSoFar w log l reports rows) (take_all place log past) so

pub rows_of_history : (w : Setting) (log : Log) (reports : List Report) (rows : List Rows) → IsSoFar w log log reports rows → rows ≡ map (λ (d : Database). d.rows) (history w log).databases
rows_of_history w log reports rows so = let is = so.is in is.rows_are

pub procedures_of_history : (w : Setting) (log : Log) (reports : List Report) (rows : List Rows) → IsSoFar w log log reports rows
    → (p : ℕ) → p ≤ length log → procedures_of w log (take p reports) ≡ procedures_after w log p
procedures_of_history w log reports rows so p le =
    let count = so.count in
    let is = so.is in
    sym (at_within w log reports p (omega arith)) ∙ is.procedures_are p

-- the verdict of the log
verdict_said : (w : Setting) (log : Log) (reports : List Report) (rows : List Rows) → IsSoFar w log log reports rows
    → (before : ℕ) (report : Report) → slice_get reports before ≡ Some report → verdict_of w log (suc before) ≡ Some report.verdict
verdict_said w log reports rows so before report stands =
    let is = so.is in
    ap (λ (cs : List CertifiedItem). option_map (λ (c : CertifiedItem). c.verdict) (slice_get cs before)) (sym is.certified)
    ∙ got reports before report stands
  where
    got : (rs : List Report) (k : ℕ) (r : Report) → slice_get rs k ≡ Some r → option_map (λ (c : CertifiedItem). c.verdict) (slice_get (map certified_of rs) k) ≡ Some r.verdict
    got [] k r e = absurd cc
    got (x ∷ xs) zero r e = ap (option_map (λ (r : Report). r.verdict)) e
    got (x ∷ xs) (suc k) r e = got xs k r e

-- the run that is reported is that of the log
run_said : (w : Setting) (log : Log) (reports : List Report) (rows : List Rows) → IsSoFar w log log reports rows
    → (before : ℕ) (call : Call) → call.snapshot ≤ before → before ≤ length reports → run_by w log (take before reports) call (get_or rows call.snapshot empty) ≡ run_in w log call
run_said w log reports rows so before call low within =
    let is = so.is in
    (λ i. run_of_call w.tables ((at_shorter w log reports call.snapshot before low within ∙ is.procedures_are call.snapshot) i) call (rows_there w log reports rows (history w log) so.is call.snapshot i))

-- of a call, by the run of the log
call_said : (w : Setting) (log : Log) (reports : List Report) (rows : List Rows) → IsSoFar w log log reports rows
    → (before : ℕ) (call : Call) (report : Report) → IsLog log → slice_get log before ≡ Some (CallItem call) → slice_get reports before ≡ Some report
    → report ≡ report_of_run w (take before reports) call (run_in w log call)
call_said w log reports rows so before call report is at stands =
    let low : call.snapshot ≤ 0 + before = placed_below 0 log before (CallItem call) is at in
    let lt = slice_get_within reports before report stands in
    so.said is before (CallItem call) report at stands
    ∙ ap (report_of_run w (take before reports) call) (run_said w log reports rows so before call (omega arith) (omega arith))

-- that a repeated call stands where the verdict says
abbrev IsRepeating : Setting → Type 0
IsRepeating w = (log : Log) (d : ℕ) (call : Call) (position : ℕ) → IsLog log → slice_get log d ≡ Some (CallItem call) → verdict_of w log (suc d) ≡ Some (Repeated position) → IsRepetition w log call position (suc d)

-- where no request was done before the log
pub repeating : (w : Setting) → w.beginning.requests ≡ []
    → ((w : Setting) (log : Log) (d : ℕ) (call : Call) (position : ℕ) → IsLog log → slice_get log d ≡ Some (CallItem call) → (verdict_of w log (suc d) ≡ Some (Repeated position)) ↔ IsRepeated w log call position (suc d))
    → IsRepeating w
repeating w none law log d call position is at v = by ((law w log d call position is at).0 v)
  where
    by : IsRepeated w log call position (suc d) → IsRepetition w log call position (suc d)
    by (inl done) = absurd (let bad : false ≡ true = ap (λ ds. was_done ds call.request) (sym none) ∙ done.0 in cc)
    by (inr repetition) = repetition

get_report : (reports : List Report) (k : ℕ) → k < length reports → (report : Report) × (slice_get reports k ≡ Some report)
get_report [] k lt = absurd (omega arith)
get_report (r ∷ rs) zero lt = (r, refl)
get_report (r ∷ rs) (suc k) lt = get_report rs k (omega arith)

earlier_reply : (w : Setting) (log : Log) (reports : List Report) (rows : List Rows) → IsSoFar w log log reports rows → IsLog log
    → (before : ℕ) (call : Call) (position : ℕ) → before ≤ length reports → IsRepetition w log call position (suc before)
    → option_map (λ (r : Report). r.reply) (slice_get (take before reports) (position - 1)) ≡ told_reply w log call (Repeated position)
earlier_reply w log reports rows so is before call position within r =
    let earlier = r.earlier in
    let place = r.place in
    let same : position - 1 ≡ r.before = omega arith in
    let count = so.count in
    let found = get_report reports r.before (omega arith) in
    ap (λ (k : ℕ). option_map (λ (r : Report). r.reply) (slice_get (take before reports) k)) same
    ∙ ap (option_map (λ (r : Report). r.reply)) (get_taken reports before r.before (omega arith) ∙ found.1)
    ∙ ap (λ (r : Report). Some r.reply) (call_said w log reports rows so r.before r.first found.0 is r.stands found.1)
    ∙ ap (reply_of_item w log) (sym r.stands)
    ∙ ap (λ (n : ℕ). told_reply w log call (Repeated n)) (sym r.place)

told_is : (w : Setting) (log : Log) (reports : List Report) (rows : List Rows) → IsSoFar w log log reports rows → IsLog log → IsRepeating w
    → (before : ℕ) (call : Call) → before ≤ length reports → slice_get log before ≡ Some (CallItem call)
    → (v : Verdict) → verdict_of w log (suc before) ≡ Some v → told_by (take before reports) v (run_in w log call).reply ≡ told_reply w log call v
told_is w log reports rows so is law before call within at Commit e = refl
told_is w log reports rows so is law before call within at (Conflict position) e = refl
told_is w log reports rows so is law before call within at Stale e = refl
told_is w log reports rows so is law before call within at (Repeated position) e =
    earlier_reply w log reports rows so is before call position within (law log before call position is at e)
told_is w log reports rows so is law before call within at (Taken identifier) e = refl

report_of_call : (w : Setting) (log : Log) (reports : List Report) (rows : List Rows) → IsSoFar w log log reports rows → IsRepeating w
    → (before : ℕ) (call : Call) (report : Report) → IsLog log → slice_get log before ≡ Some (CallItem call) → slice_get reports before ≡ Some report → IsReportOfCall w log before call report
report_of_call w log reports rows so law before call report is at stands =
    let so_is = so.is in
    let whole = call_said w log reports rows so before call report is at stands in
    let lt = slice_get_within reports before report stands in
    let verdict = verdict_said w log reports rows so before report stands in
    let same : report.verdict ≡ (report_of_run w (take before reports) call (run_in w log call)).verdict = ap (λ (r : Report). r.verdict) whole in
    record {
      request = ap (λ (r : Report). r.request) whole;
      reply = ap (λ (r : Report). r.reply) whole;
      looks = ap (λ (r : Report). r.looks) whole;
      writes = ap (λ (r : Report). r.writes) whole;
      verdict = verdict;
      comparisons =
          ap (λ (r : Report). r.comparisons) whole
          ∙ ap (λ (cs : List CertifiedItem). comparisons_after w.window w.beginning.requests cs call (run_in w log call).looks)
          (sym (take-map certified_of before reports) ∙ ap (take before) so_is.certified);
      told =
          ap (λ (r : Report). r.told) whole
          ∙ ap (λ (v : Verdict). told_by (take before reports) v (run_in w log call).reply) (sym same)
          ∙ told_is w log reports rows so is law before call (omega arith) at report.verdict verdict;
    }

pub report_of_history : (w : Setting) (log : Log) (reports : List Report) (rows : List Rows) → IsSoFar w log log reports rows → IsRepeating w
    → (before : ℕ) (item : Item) (report : Report) → IsLog log → slice_get log before ≡ Some item → slice_get reports before ≡ Some report → IsReportOf w log before item report
report_of_history w log reports rows so law before (CallItem call) report is at stands = report_of_call w log reports rows so law before call report is at stands
report_of_history w log reports rows so law before (AdditionItem p) report is at stands =
    let said = so.said is before (AdditionItem p) report at stands in
    record {
      verdict = verdict_said w log reports rows so before report stands;
      alone = said ∙ ap (λ (r : Report). report_of_addition r.verdict) (sym said);
    }
