-- The log of an order behind one more byte string.
use Rattle.std.proofs.Common.{◌≡◌, ◌≢◌, ℕ, zero, suc, ◌+◌, ◌≤◌, ◌<◌, List, [], ◌∷◌, ◌++◌, length, slice_get, Option, Some, None, IsSome, IsTrue, fold, refl, sym, ap, subst, ◌∙◌, arith, append_assoc, append-nil}
use Rattle.std.proofs.lemmas.List.{length-append, length-map, map-append}
use Rattle.std.proofs.lemmas.List.Sums.{fold-append}
use Rattle.schema.specs.Rows.{Rows}
use Rattle.bpf_semantics.specs.Run.{Run}
use Rattle.bpf_semantics.specs.Agree.{same_on}
use Rattle.log_model.specs.declared.request.RequestId.{RequestId}
use Rattle.log_model.specs.declared.verdict.Verdict.{Verdict}
use Rattle.log_model.specs.declared.verdict.Verdict.TheVariants as verdict
use Rattle.log_model.specs.Log.{StoredProcedure, Catalogue, Setting, Call, CallItem, AdditionItem, Log, IsLog, IsPlaced, by_number, if_commits, or_idle, procedures_after, rows_after, run_in, run_of_call, run_of_procedure, run_on, same_request, verdict_of}
use Rattle.log_model.specs.Fit.{AllFitLog, BeginsSafely}
use Rattle.log_model.specs.Entries.{Entry, ExecutedCall, CallEntry, AdditionEntry, item_of, items_of, CarryRuns}
use Rattle.log_model.proofs.GrowthLemmas.{is_log_snoc}
use Rattle.dsm_model.specs.World.{numbered}
use Rattle.site_model.specs.Fit.{AreFitEntries}
use Rattle.site_model.specs.declared.outcome.EntryOutcome.{EntryOutcome}
use Rattle.site_model.specs.declared.outcome.EntryOutcome.TheVariants as outcome
use Rattle.site_model.specs.Sessions.{Sessions}
use Rattle.site_model.specs.Standing.{SiteSetting, Standing, StandsAs, IsDecided, OpensSession, IsNothing, standing}
use Rattle.site_model.specs.Order.{replies_to, Followed, Order, before_order, call_of_none, entry_of_none, entry_standing, followed, followed_by, next_entry, order_entries, order_log, outcome_behind, outcome_by, outcome_of, with_bytes}
use Rattle.site_model.proofs.StandingLemmas.{none_unused}

-- ---- a beginning

more_entries : (s : SiteSetting) (f : Followed) (order : Order) → (later : List Entry) × ((fold (followed_by s) f order).entries ≡ f.entries ++ later)
more_entries s f [] = ([], sym (append-nil f.entries))
more_entries s f (bytes ∷ order) =
    let (later, e) = more_entries s (followed_by s f bytes) order in
    let next = next_entry s f.sessions f.entries bytes in
    (next ∷ later, e ∙ append_assoc f.entries (next ∷ []) later)

pub beginning : (s : SiteSetting) (order more : Order) → (later : List Entry) × (order_entries s (order ++ more) ≡ order_entries s order ++ later)
unfolding followed
beginning s order more =
    let (later, e) = more_entries s (fold (followed_by s) (before_order s) order) more in
    (later, ap (λ (f : Followed). f.entries) (fold-append (followed_by s) (before_order s) order more) ∙ e)

-- ---- its calls are placed

abbrev pub ArePlaced : Type 0
ArePlaced = (s : SiteSetting) (known : Sessions) (entries : List Entry) (bytes : List ℕ) → IsPlaced (length entries) (item_of (next_entry s known entries bytes))

pub items_snoc : (entries : List Entry) (e : Entry) → items_of (entries ++ e ∷ []) ≡ items_of entries ++ item_of e ∷ []
items_snoc entries e = map-append item_of entries (e ∷ [])

pub log_next : (s : SiteSetting) (known : Sessions) (entries : List Entry) (bytes : List ℕ) → ArePlaced → IsLog (items_of entries) → IsLog (items_of (with_bytes s known entries bytes))
log_next s known entries bytes placed is =
    subst IsLog (sym (items_snoc entries (next_entry s known entries bytes)))
    (is_log_snoc 0 (items_of entries) (item_of (next_entry s known entries bytes)) is
    (subst (λ (n : ℕ). IsPlaced n (item_of (next_entry s known entries bytes))) (let e : length entries ≡ 0 + length (items_of entries) = omega (arith, length-map entries item_of) in e) (placed s known entries bytes)))

logs_from : (s : SiteSetting) (f : Followed) (order : Order) → ArePlaced → IsLog (items_of f.entries) → IsLog (items_of (fold (followed_by s) f order).entries)
logs_from s f [] placed is = is
logs_from s f (bytes ∷ order) placed is = logs_from s (followed_by s f bytes) order placed (log_next s f.sessions f.entries bytes placed is)

pub order_is_log : (s : SiteSetting) (order : Order) → ArePlaced → IsLog (order_log s order)
unfolding followed
order_is_log s order placed = logs_from s (before_order s) order placed tt

-- ---- what lower laws say

abbrev pub HaveVerdicts : Type 0
HaveVerdicts = (w : Setting) (log : Log) (d : ℕ) → d < length log → IsSome (verdict_of w log (suc d))

abbrev pub RowsGrow : Type 0
RowsGrow = (w : Setting) (log more : Log) (position : ℕ) → position ≤ length log → rows_after w (log ++ more) position ≡ rows_after w log position

abbrev pub ProceduresGrow : Type 0
ProceduresGrow = (w : Setting) (log more : Log) (position : ℕ) → position ≤ length log → procedures_after w (log ++ more) position ≡ procedures_after w log position

abbrev pub RowsNext : Type 0
RowsNext = (w : Setting) (log : Log) (d : ℕ) (call : Call) (v : Verdict) → IsLog log → slice_get log d ≡ Some (CallItem call) → verdict_of w log (suc d) ≡ Some v → rows_after w log (suc d) ≡ if_commits v (run_on w log call (rows_after w log d)).effect (rows_after w log d)

abbrev pub RowsAddition : Type 0
RowsAddition = (w : Setting) (log : Log) (d : ℕ) (p : StoredProcedure) → IsLog log → slice_get log d ≡ Some (AdditionItem p) → rows_after w log (suc d) ≡ rows_after w log d

abbrev pub RunsAlike : Type 0
RunsAlike = (w : Setting) (log : Log) (d : ℕ) (call : Call) → BeginsSafely w → IsLog log → AllFitLog w log → slice_get log d ≡ Some (CallItem call) → verdict_of w log (suc d) ≡ Some verdict.Commit → run_on w log call (rows_after w log d) ≡ same_on (rows_after w log d) (run_in w log call)

abbrev pub RepliesCarried : Type 0
RepliesCarried = (w : Setting) (entries : List Entry) (position : ℕ) (e : ExecutedCall) → CarryRuns w entries → numbered entries position ≡ Some (CallEntry e) → e.reply ≡ (run_in w (items_of entries) e.call).reply

-- ---- the last entry

pub there : {X : Type 0} (xs : List X) (x : X) → slice_get (xs ++ x ∷ []) (length xs) ≡ Some x
there [] x = refl
there (y ∷ xs) x = there xs x

pub item_there : (entries : List Entry) (e : Entry) → slice_get (items_of (entries ++ e ∷ [])) (length entries) ≡ Some (item_of e)
item_there entries e =
    ap (λ (l : Log). slice_get l (length entries)) (items_snoc entries e)
    ∙ ap (λ (n : ℕ). slice_get (items_of entries ++ item_of e ∷ []) n) (sym (length-map entries item_of)) ∙ there (items_of entries) (item_of e)

some_verdict : (o : Option Verdict) → IsSome o → (v : Verdict) × (o ≡ Some v)
some_verdict None h = absurd cc
some_verdict (Some v) h = (v, refl)

-- what is told of what commits alone
abbrev IsCommitted : EntryOutcome → Type 0
IsCommitted (outcome.Committed reply) = Unit {0}
IsCommitted (outcome.Added number) = Unit {0}
IsCommitted _ = ⊥

pub by_commit : (replies : ℕ → ℕ) (c d : EntryOutcome) (v : Verdict) → IsCommitted d → outcome_by replies c (Some v) ≡ d → (v ≡ verdict.Commit) × (c ≡ d)
by_commit replies c d verdict.Commit is e = (refl, e)
by_commit replies c d (verdict.Conflict n) is e = absurd (subst IsCommitted (sym e) is)
by_commit replies c d verdict.Stale is e = absurd (subst IsCommitted (sym e) is)
by_commit replies c d (verdict.Repeated n) is e = absurd (subst IsCommitted (sym e) is)
by_commit replies c d (verdict.Taken i) is e = absurd (subst IsCommitted (sym e) is)

-- what is told with a number, where it commits
pub commits_with : (replies : ℕ → ℕ) (make : ℕ → EntryOutcome) → ((a b : ℕ) → make a ≡ make b → a ≡ b) → (told number : ℕ) (v : Verdict) → IsCommitted (make number)
    → outcome_by replies (make told) (Some v) ≡ make number → (v ≡ verdict.Commit) × (told ≡ number)
commits_with replies make one told number v is e =
    let (commit, same) = by_commit replies (make told) (make number) v is e in
    (commit, one told number same)

commits : (replies : ℕ → ℕ) (told reply : ℕ) (v : Verdict) → outcome_by replies (outcome.Committed told) (Some v) ≡ outcome.Committed reply → (v ≡ verdict.Commit) × (told ≡ reply)
commits replies told reply v = commits_with replies outcome.Committed (λ a b e. cc) told reply v tt

module _ (s : SiteSetting) (known : Sessions) (entries : List Entry) (bytes : List ℕ) where
  pub last_verdict : HaveVerdicts → (v : Verdict) × (verdict_of s.setting (items_of (with_bytes s known entries bytes)) (suc (length entries)) ≡ Some v)
  last_verdict law =
      let long = length-map (with_bytes s known entries bytes) item_of in
      let one : length (with_bytes s known entries bytes) ≡ length entries + 1 = length-append entries (next_entry s known entries bytes ∷ []) in
      some_verdict (verdict_of s.setting (items_of (with_bytes s known entries bytes)) (suc (length entries))) (law s.setting (items_of (with_bytes s known entries bytes)) (length entries) (omega arith))

  pub at_last : (v : Verdict) → verdict_of s.setting (items_of (with_bytes s known entries bytes)) (suc (length entries)) ≡ Some v → (st : Standing) → standing s known (items_of entries) bytes ≡ st → outcome_behind s known entries bytes ≡ outcome_of (replies_to s (with_bytes s known entries bytes) bytes) st (Some v)
  at_last v e st is =
      ap (λ (n : ℕ). outcome_of (replies_to s (with_bytes s known entries bytes) bytes) (standing s known (items_of entries) bytes) (verdict_of s.setting (items_of (with_bytes s known entries bytes)) n)) (let n : length entries + 1 ≡ suc (length entries) = omega arith in n)
      ∙ (λ i. outcome_of (replies_to s (with_bytes s known entries bytes) bytes) (is i) (e i))

  -- a call that commits
  pub commits_there : HaveVerdicts → (e : ExecutedCall) (reply : ℕ) → standing s known (items_of entries) bytes ≡ StandsAs (CallEntry e) → outcome_behind s known entries bytes ≡ outcome.Committed reply → (verdict_of s.setting (items_of (with_bytes s known entries bytes)) (suc (length entries)) ≡ Some verdict.Commit) × (e.reply ≡ reply)
  commits_there law e reply is told =
      let (v, at) = last_verdict law in
      let (commit, same) = commits (replies_to s (with_bytes s known entries bytes) bytes) e.reply reply v (sym (at_last v at (StandsAs (CallEntry e)) is) ∙ told) in
      (at ∙ ap Some commit, same)

  pub entry_is : (e : Entry) → standing s known (items_of entries) bytes ≡ StandsAs e → next_entry s known entries bytes ≡ e
  entry_is e is = ap (entry_standing s.setting (items_of entries)) is

  pub call_there : (e : ExecutedCall) → standing s known (items_of entries) bytes ≡ StandsAs (CallEntry e) → slice_get (items_of (with_bytes s known entries bytes)) (length entries) ≡ Some (CallItem e.call)
  call_there e is = item_there entries (next_entry s known entries bytes) ∙ ap (λ (x : Entry). Some (item_of x)) (entry_is (CallEntry e) is)

  pub rows_before : RowsGrow → rows_after s.setting (items_of (with_bytes s known entries bytes)) (length entries) ≡ rows_after s.setting (items_of entries) (length entries)
  rows_before grow = ap (λ (l : Log). rows_after s.setting l (length entries)) (items_snoc entries (next_entry s known entries bytes)) ∙ grow s.setting (items_of entries) (item_of (next_entry s known entries bytes) ∷ []) (length entries) (omega (arith, length-map entries item_of))

  pub rows_committed : HaveVerdicts → RowsGrow → RowsNext → (e : ExecutedCall) (reply : ℕ) → IsLog (items_of (with_bytes s known entries bytes)) → standing s known (items_of entries) bytes ≡ StandsAs (CallEntry e) → outcome_behind s known entries bytes ≡ outcome.Committed reply
      → rows_after s.setting (items_of (with_bytes s known entries bytes)) (suc (length entries)) ≡ (run_on s.setting (items_of (with_bytes s known entries bytes)) e.call (rows_after s.setting (items_of entries) (length entries))).effect
  rows_committed verdicts grow next e reply log is told =
      next s.setting (items_of (with_bytes s known entries bytes)) (length entries) e.call verdict.Commit log (call_there e is) (commits_there verdicts e reply is told).0
      ∙ ap (λ (rows : Rows). (run_on s.setting (items_of (with_bytes s known entries bytes)) e.call rows).effect) (rows_before grow)

  pub reply_committed : HaveVerdicts → RowsGrow → RunsAlike → RepliesCarried → (e : ExecutedCall) (reply : ℕ) → AreFitEntries s.setting (with_bytes s known entries bytes) → standing s known (items_of entries) bytes ≡ StandsAs (CallEntry e) → outcome_behind s known entries bytes ≡ outcome.Committed reply
      → reply ≡ (run_on s.setting (items_of (with_bytes s known entries bytes)) e.call (rows_after s.setting (items_of entries) (length entries))).reply
  reply_committed verdicts grow alike carried e reply are is told =
      let w = s.setting in
      let log = items_of (with_bytes s known entries bytes) in
      let (commit, same) = commits_there verdicts e reply is told in
      sym same
      ∙ carried w (with_bytes s known entries bytes) (suc (length entries)) e are.runs (there entries (next_entry s known entries bytes) ∙ ap Some (entry_is (CallEntry e) is))
      ∙ sym (ap (λ (r : Run). r.reply) (alike w log (length entries) e.call are.begins are.log are.items (call_there e is) commit))
      ∙ ap (λ (rows : Rows). (run_on w log e.call rows).reply) (rows_before grow)

  -- ---- one that doesn't commit

  pub left_by : (v : Verdict) (effect rows : Rows) → (v ≡ verdict.Commit → effect ≡ rows) → if_commits v effect rows ≡ rows
  left_by verdict.Commit effect rows same = same refl
  left_by (verdict.Conflict n) effect rows same = refl
  left_by verdict.Stale effect rows same = refl
  left_by (verdict.Repeated n) effect rows same = refl
  left_by (verdict.Taken i) effect rows same = refl

  none_runs : ProceduresGrow → (snapshot : ℕ) (request : Option RequestId) (rows : Rows) → snapshot ≤ length (items_of entries) → (e : Entry)
      → (run_on s.setting (items_of (entries ++ e ∷ [])) (call_of_none (procedures_after s.setting (items_of entries) snapshot) snapshot request) rows).effect ≡ rows
  unfolding run_of_call
  none_runs grow snapshot request rows le e =
      let ps = procedures_after s.setting (items_of entries) snapshot in
      ap (λ (o : Option StoredProcedure). (or_idle rows (run_of_procedure s.setting.tables o [] rows)).effect)
      (ap (λ (qs : Catalogue). by_number qs (call_of_none ps snapshot request).procedure)
      (ap (λ (l : Log). procedures_after s.setting l snapshot) (items_snoc entries e) ∙ grow s.setting (items_of entries) (item_of e ∷ []) snapshot le)
      ∙ none_unused ps)

  pub rows_none : HaveVerdicts → RowsGrow → ProceduresGrow → RowsNext → (snapshot : ℕ) (request : Option RequestId) → IsLog (items_of (with_bytes s known entries bytes)) → snapshot ≤ length (items_of entries) → next_entry s known entries bytes ≡ entry_of_none (procedures_after s.setting (items_of entries) snapshot) snapshot request
      → rows_after s.setting (items_of (with_bytes s known entries bytes)) (suc (length entries)) ≡ rows_after s.setting (items_of entries) (length entries)
  rows_none verdicts grow procedures next snapshot request log le is =
      let w = s.setting in
      let whole = items_of (with_bytes s known entries bytes) in
      let call = call_of_none (procedures_after w (items_of entries) snapshot) snapshot request in
      let (v, at) = last_verdict verdicts in
      next w whole (length entries) call v log (item_there entries (next_entry s known entries bytes) ∙ ap (λ (x : Entry). Some (item_of x)) is) at
      ∙ left_by v (run_on w whole call (rows_after w whole (length entries))).effect (rows_after w whole (length entries)) (λ _. none_runs procedures snapshot request (rows_after w whole (length entries)) le (next_entry s known entries bytes))
      ∙ rows_before grow

  pub rows_others : HaveVerdicts → RowsGrow → ProceduresGrow → RowsNext → RowsAddition → ArePlaced → IsLog (items_of (with_bytes s known entries bytes)) → ((reply : ℕ) → outcome_behind s known entries bytes ≢ outcome.Committed reply) → (st : Standing) → standing s known (items_of entries) bytes ≡ st
      → rows_after s.setting (items_of (with_bytes s known entries bytes)) (suc (length entries)) ≡ rows_after s.setting (items_of entries) (length entries)
  rows_others verdicts grow procedures next addition placed log never (StandsAs (CallEntry e)) is =
      let w = s.setting in
      let whole = items_of (with_bytes s known entries bytes) in
      let (v, at) = last_verdict verdicts in
      next w whole (length entries) e.call v log (call_there e is) at
      ∙ left_by v (run_on w whole e.call (rows_after w whole (length entries))).effect (rows_after w whole (length entries))
      (λ commit. absurd (never e.reply (at_last v at (StandsAs (CallEntry e)) is ∙ ap (λ (x : Verdict). outcome_by (replies_to s (with_bytes s known entries bytes) bytes) (outcome.Committed e.reply) (Some x)) commit)))
      ∙ rows_before grow
  rows_others verdicts grow procedures next addition placed log never (StandsAs (AdditionEntry p)) is =
      addition s.setting (items_of (with_bytes s known entries bytes)) (length entries) p log (item_there entries (next_entry s known entries bytes) ∙ ap (λ (x : Entry). Some (item_of x)) (entry_is (AdditionEntry p) is)) ∙ rows_before grow
  rows_others verdicts grow procedures next addition placed log never (IsDecided call) is =
      let same = ap (entry_standing s.setting (items_of entries)) is in
      let le : call.snapshot ≤ length entries = subst (λ (x : Entry). IsPlaced (length entries) (item_of x)) same (placed s known entries bytes) in
      rows_none verdicts grow procedures next call.snapshot call.request log (omega (arith, le, length-map entries item_of)) same
  rows_others verdicts grow procedures next addition placed log never (OpensSession session) is =
      rows_none verdicts grow procedures next (length (items_of entries)) _ log (omega arith) (ap (entry_standing s.setting (items_of entries)) is)
  rows_others verdicts grow procedures next addition placed log never (IsNothing cause) is =
      rows_none verdicts grow procedures next (length (items_of entries)) _ log (omega arith) (ap (entry_standing s.setting (items_of entries)) is)

-- ---- one request

abbrev pub VerdictsGrow : Type 0
VerdictsGrow = (w : Setting) (log more : Log) (d : ℕ) → d < length log → verdict_of w (log ++ more) (suc d) ≡ verdict_of w log (suc d)

abbrev pub CommitOnce : Type 0
CommitOnce = (w : Setting) (log : Log) (d e : ℕ) (a b : Call) → IsLog log → slice_get log d ≡ Some (CallItem a) → slice_get log e ≡ Some (CallItem b)
    → verdict_of w log (suc d) ≡ Some verdict.Commit → verdict_of w log (suc e) ≡ Some verdict.Commit → IsTrue (same_request a.request b.request) → d ≡ e

get_first : {X : Type 0} (xs ys : List X) (k : ℕ) → k < length xs → slice_get (xs ++ ys) k ≡ slice_get xs k
get_first [] ys k lt = absurd (omega arith)
get_first (x ∷ xs) ys zero lt = refl
get_first (x ∷ xs) ys (suc k) lt = get_first xs ys k (omega arith)

-- entries that go on from those behind a byte string, and one byte string more
pub items_go_on : (s : SiteSetting) (known now : Sessions) (xs ys later : List Entry) (a b : List ℕ) → ys ≡ with_bytes s known xs a ++ later
    → items_of (with_bytes s now ys b) ≡ items_of (with_bytes s known xs a) ++ (items_of later ++ item_of (next_entry s now ys b) ∷ [])
items_go_on s known now xs ys later a b goes =
    let item = item_of (next_entry s now ys b) in
    items_snoc ys (next_entry s now ys b)
    ∙ ap (λ (zs : List Entry). items_of zs ++ item ∷ []) goes
    ∙ ap (λ (l : Log). l ++ item ∷ []) (map-append item_of (with_bytes s known xs a) later)
    ∙ append_assoc (items_of (with_bytes s known xs a)) (items_of later) (item ∷ [])

-- of two such calls with one request only one commits
pub once : (s : SiteSetting) (known now : Sessions) (xs ys later : List Entry) (a b : List ℕ) (x y : ExecutedCall) (reply other : ℕ) → HaveVerdicts → VerdictsGrow → CommitOnce → ys ≡ with_bytes s known xs a ++ later
    → IsLog (items_of (with_bytes s now ys b)) → standing s known (items_of xs) a ≡ StandsAs (CallEntry x) → outcome_behind s known xs a ≡ outcome.Committed reply → standing s now (items_of ys) b ≡ StandsAs (CallEntry y)
    → IsTrue (same_request x.call.request y.call.request) → outcome_behind s now ys b ≡ outcome.Committed other → ⊥
once s known now xs ys later a b x y reply other verdicts grow law goes log is told stands same again =
    let w = s.setting in
    let first = items_of (with_bytes s known xs a) in
    let whole = items_of (with_bytes s now ys b) in
    let rest = items_of later ++ item_of (next_entry s now ys b) ∷ [] in
    let split : whole ≡ first ++ rest = items_go_on s known now xs ys later a b goes in
    let one : length (with_bytes s known xs a) ≡ length xs + 1 = length-append xs (next_entry s known xs a ∷ []) in
    let long : length first ≡ length xs + 1 = length-map (with_bytes s known xs a) item_of ∙ one in
    let more : length ys ≡ length (with_bytes s known xs a) + length later = ap length goes ∙ length-append (with_bytes s known xs a) later in
    let early = commits_there s known xs a verdicts x reply is told in
    let late = commits_there s now ys b verdicts y other stands again in
    let here : length xs ≡ length ys =
    law w whole (length xs) (length ys) x.call y.call log
    (ap (λ (l : Log). slice_get l (length xs)) split ∙ get_first first rest (length xs) (omega (arith, long)) ∙ call_there s known xs a x is)
    (call_there s now ys b y stands)
    (ap (λ (l : Log). verdict_of w l (suc (length xs))) split ∙ grow w first rest (length xs) (omega (arith, long)) ∙ early.0)
    late.0 same in
    absurd (omega (arith, here, more, one))
