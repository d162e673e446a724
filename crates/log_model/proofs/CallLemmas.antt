-- What the log came to when one of its items was next.
use Rattle.std.proofs.Common.{◌≡◌, ℕ, zero, suc, ◌+◌, ◌≤◌, ◌<◌, List, [], ◌∷◌, ◌++◌, length, take, get_or, fold, Some, slice_get, option_map, refl, sym, ap, subst, ◌∙◌, arith, append_assoc, append-nil}
use Rattle.std.specs.List.{AllByRecursion}
use Rattle.std.proofs.lemmas.List.{length-append, length-map}
use Rattle.std.proofs.Math.ListN.{get_or-append}
use Rattle.std.proofs.Math.Seq.{get_or-append_seam, take-append_seam}
use Rattle.schema.specs.Rows.{Rows}
use Rattle.bpf_semantics.specs.Run.{Run}
use Rattle.bpf_semantics.specs.Agree.{same_on}
use Rattle.log_model.specs.declared.verdict.Verdict.{Verdict}
use Rattle.log_model.specs.declared.verdict.Verdict.TheVariants.{Commit}
use Rattle.log_model.specs.Log.{StoredProcedure, Setting, Call, Item, CallItem, AdditionItem, Log, IsPlaced, IsLogFrom, IsLog, run_of_call, CertifiedItem, verdict_after, certified_addition, Database, first_database, no_database, History, start, database_at, database_now, with_certified, if_commits, run_at, certified_item, database_after_item, with_item, history, rows_after, procedures_after, verdict_of, run_on, run_in}
use Rattle.log_model.proofs.Laid.{rows_laid_on}
use Rattle.log_model.specs.Fit.{BeginsSafely, FitsProcedures, FitsLog, AllFitLog, IsItem, AreItems}
use Rattle.log_model.specs.Entries.{Entry, CallEntry, AdditionEntry, item_of, items_of, IsCarried, CarryRuns, CertifiedEntries, with_entry, certified_entries_of}
use Rattle.log_model.proofs.RunLemmas.{just, fits_of_call}
use Rattle.log_model.proofs.HistoryLemmas.{IsKept, start_kept, IsNext, item_kept, count_with_item, run_begun, verdict_at, procedures_begun, serial}

-- ---- what stays

-- it goes on with one of these and one of those for each item
pub record Grows (h g : History) : Type 0 where
  pub certified : List CertifiedItem
  pub databases : List Database
  pub certified_is : g.certified ≡ h.certified ++ certified
  pub databases_is : g.databases ≡ h.databases ++ databases

pub grows : (w : Setting) (h : History) (log : Log) → Grows h (fold (with_item w) h log)
grows w h [] = record { certified = []; databases = []; certified_is = sym (append-nil h.certified); databases_is = sym (append-nil h.databases) }
grows w h (item ∷ log) =
    let g = grows w (with_item w h item) log in
    record {
      certified = _ ∷ g.certified;
      databases = _ ∷ g.databases;
      certified_is = g.certified_is ∙ append_assoc h.certified _ g.certified;
      databases_is = g.databases_is ∙ append_assoc h.databases _ g.databases;
    }

abbrev pub Even : History → Type 0
Even h = length h.databases ≡ suc (length h.certified)

pub databases_stay : (h g : History) → Even h → Grows h g → (p : ℕ) → p ≤ length h.certified → database_at g p ≡ database_at h p
databases_stay h g even more p le =
    let inside : p < length h.databases = omega arith in
    ap (λ (l : List Database). get_or l p no_database) more.databases_is ∙ get_or-append h.databases more.databases no_database p inside

-- the last of one more is it
pub last_is : (h : History) (c : CertifiedItem) (d : Database) → Even h → database_now (with_certified h c d) ≡ d
last_is h c d even =
    let count : length (h.certified ++ c ∷ []) ≡ length h.certified + 1 = length-append h.certified (c ∷ []) in
    let seam : length (h.certified ++ c ∷ []) ≡ length h.databases = omega arith in
    ap (λ (k : ℕ). get_or (h.databases ++ d ∷ []) k no_database) seam ∙ get_or-append_seam h.databases d [] no_database

-- ---- one of the items

-- what the log came to before this item, which has so many before it; P holds of it
pub record At (w : Setting) (P : History → Type 0) (g : History) (n : ℕ) (item : Item) : Type 0 where
  pub past : History
  pub kept : P past
  pub count : length past.certified ≡ n
  pub below : IsPlaced n item
  pub later : List CertifiedItem
  pub certified : g.certified ≡ past.certified ++ certified_item w past item ∷ later
  pub databases : (p : ℕ) → p ≤ n → database_at g p ≡ database_at past p
  pub next : database_at g (suc n) ≡ database_after_item w past item (certified_item w past item).verdict

some_item : (c d : Item) → just c ≡ just d → c ≡ d
some_item c d e = cc

first_at : (w : Setting) (P : History → Type 0) (h : History) (n : ℕ) (item : Item) (log : Log) → P h → Even h → length h.certified ≡ n → IsPlaced n item → At w P (fold (with_item w) (with_item w h item) log) n item
first_at w P h n item log kept even count below =
    let g = fold (with_item w) (with_item w h item) log in
    let d = database_after_item w h item (certified_item w h item).verdict in
    let more = grows w (with_item w h item) log in
    let long : length (h.databases ++ database_after_item w h item (certified_item w h item).verdict ∷ []) ≡ length h.databases + 1 = length-append h.databases _ in
    let seam : suc n ≡ length h.databases = omega arith in
    let inside : length h.databases < length (h.databases ++ database_after_item w h item (certified_item w h item).verdict ∷ []) = omega arith in
    record {
      past = h;
      kept = kept;
      count = count;
      below = below;
      later = more.certified;
      certified = more.certified_is ∙ append_assoc h.certified (certified_item w h item ∷ []) more.certified;
      databases = λ p le.
          let old : p < length h.databases = omega arith in
          let new : p < length (h.databases ++ database_after_item w h item (certified_item w h item).verdict ∷ []) = omega arith in
          ap (λ (l : List Database). get_or l p no_database) more.databases_is
          ∙ get_or-append (h.databases ++ database_after_item w h item (certified_item w h item).verdict ∷ []) more.databases no_database p new
          ∙ get_or-append h.databases _ no_database p old;
      next =
          ap (λ (k : ℕ). database_at g k) seam
          ∙ ap (λ (l : List Database). get_or l (length h.databases) no_database) more.databases_is
          ∙ get_or-append (h.databases ++ database_after_item w h item (certified_item w h item).verdict ∷ []) more.databases no_database (length h.databases) inside
          ∙ get_or-append_seam h.databases _ [] no_database;
    }

pub even_with_item : (w : Setting) (h : History) (item : Item) → Even h → Even (with_item w h item)
even_with_item w h item even =
    let more : length (with_item w h item).databases ≡ length h.databases + 1 = length-append h.databases _ in
    let more' : length (with_item w h item).certified ≡ length h.certified + 1 = length-append h.certified _ in
    omega arith

-- of each item, and what the log came to before it
abbrev pub AllFrom : Setting → (History → Item → Type 0) → History → Log → Type 0
AllFrom w Q h [] = Unit {0}
AllFrom w Q h (item ∷ log) = Q h item × AllFrom w Q (with_item w h item) log

-- P stays with each item of which Q holds
abbrev pub Stays : Setting → (History → Type 0) → (History → Item → Type 0) → Type 0
Stays w P Q = (h : History) (item : Item) → Q h item → IsPlaced (length h.certified) item → P h → P (with_item w h item)

placed_as : (m n : ℕ) (item : Item) → m ≡ n → IsPlaced n item → IsPlaced m item
placed_as m n item same = subst (λ (k : ℕ). IsPlaced k item) (sym same)

at_from : (w : Setting) (P : History → Type 0) (Q : History → Item → Type 0) (h : History) (n : ℕ) (log : Log) (d : ℕ) (item : Item) → Stays w P Q → P h → Even h → length h.certified ≡ n → IsLogFrom n log → AllFrom w Q h log
    → slice_get log d ≡ just item → At w P (fold (with_item w) h log) (n + d) item
at_from w P Q h n [] d item stays kept even count below all e = absurd cc
at_from w P Q h n (first ∷ log) zero item stays kept even count below all e =
    let same : first ≡ item = some_item first item e in
    let none : n ≡ n + 0 = omega arith in
    subst (λ (k : ℕ). At w P (fold (with_item w) h (first ∷ log)) k item) none
    (subst (λ (c : Item). At w P (fold (with_item w) h (first ∷ log)) n c) same (first_at w P h n first log kept even count below.0))
at_from w P Q h n (first ∷ log) (suc d) item stays kept even count below all e =
    let more : suc n + d ≡ n + suc d = omega arith in
    subst (λ (k : ℕ). At w P (fold (with_item w) h (first ∷ log)) k item) more
    (at_from w P Q (with_item w h first) (suc n) log d item stays (stays h first all.0 (placed_as (length h.certified) n first count below.0) kept) (even_with_item w h first even) (count_with_item w h first ∙ ap suc count) below.1 all.1 e)

pub count_certified : (w : Setting) (h : History) (log : Log) → length (fold (with_item w) h log).certified ≡ length h.certified + length log
count_certified w h [] = omega arith
count_certified w h (item ∷ log) = count_certified w (with_item w h item) log ∙ (let one = count_with_item w h item in omega arith)

pub count_history : (w : Setting) (log : Log) → length (history w log).certified ≡ length log
unfolding history
count_history w log = count_certified w (start w) log ∙ (let e : 0 + length log ≡ length log = omega arith in e)

-- of each item of the whole log
whole_item : (w : Setting) (h g : History) (item : Item) → Even h → Grows h g → IsPlaced (length h.certified) item → IsNext w g item → IsNext w h item
whole_item w h g (CallItem call) even more le is = subst (λ (d : Database). FitsProcedures d.procedures call) (databases_stay h g even more call.snapshot le) is
whole_item w h g (AdditionItem p) even more le is = is

as_next : (w : Setting) (log : Log) (item : Item) → FitsLog w log item → IsNext w (history w log) item
as_next w log (CallItem call) is = is
as_next w log (AdditionItem p) is = is

forward : (w : Setting) (whole : Log) (h : History) (n : ℕ) (log : Log) → Even h → length h.certified ≡ n → IsLogFrom n log → fold (with_item w) h log ≡ history w whole → AllByRecursion (FitsLog w whole) log → AllFrom w (IsNext w) h log
forward w whole h n [] even count below is items = tt
forward w whole h n (item ∷ log) even count below is items =
    let more : Grows h (history w whole) = subst (λ (x : History). Grows h x) is (grows w h (item ∷ log)) in (
      whole_item w h (history w whole) item even more (placed_as (length h.certified) n item count below.0) (as_next w whole item items.0),
      forward w whole (with_item w h item) (suc n) log (even_with_item w h item even) (count_with_item w h item ∙ ap suc count) below.1 is items.1,
    )

pub items_forward : (w : Setting) (log : Log) → IsLog log → AllFitLog w log → AllFrom w (IsNext w) (start w) log
unfolding history
items_forward w log below items = forward w log (start w) 0 log refl refl below refl items

pub fold_kept : (w : Setting) (h : History) (n : ℕ) (log : Log) → IsKept w h → length h.certified ≡ n → IsLogFrom n log → AllFrom w (IsNext w) h log → IsKept w (fold (with_item w) h log)
fold_kept w h n [] kept count below items = kept
fold_kept w h n (item ∷ log) kept count below items =
    fold_kept w (with_item w h item) (suc n) log (item_kept w h item kept items.0 (placed_as (length h.certified) n item count below.0)) (count_with_item w h item ∙ ap suc count) below.1 items.1

pub history_kept : (w : Setting) (log : Log) → BeginsSafely w → IsLog log → AllFitLog w log → IsKept w (history w log)
unfolding history
history_kept w log safe below items = fold_kept w (start w) 0 log (start_kept w safe) refl below (items_forward w log below items)

abbrev Any : {X : Type 0} → X → Type 0
Any x = Unit {0}

abbrev AnyNext : History → Item → Type 0
AnyNext h item = Unit {0}

any_all : (w : Setting) (h : History) (log : Log) → AllFrom w AnyNext h log
any_all w h [] = tt
any_all w h (item ∷ log) = (tt, any_all w (with_item w h item) log)

any_stays : (w : Setting) → Stays w Any AnyNext
any_stays w h item q le p = tt

pub at : (w : Setting) (log : Log) (d : ℕ) (item : Item) → IsLog log → slice_get log d ≡ just item → At w Any (history w log) d item
unfolding history
at w log d item below e =
    let none : 0 + d ≡ d = omega arith in
    subst (λ (k : ℕ). At w Any (history w log) k item) none (at_from w Any AnyNext (start w) 0 log d item (any_stays w) tt refl refl below (any_all w (start w) log) e)

pub kept_at : (w : Setting) (log : Log) (d : ℕ) (item : Item) → BeginsSafely w → IsLog log → AllFitLog w log → slice_get log d ≡ just item → At w (IsKept w) (history w log) d item
unfolding history
kept_at w log d item safe below items e =
    let none : 0 + d ≡ d = omega arith in
    subst (λ (k : ℕ). At w (IsKept w) (history w log) k item) none
    (at_from w (IsKept w) (IsNext w) (start w) 0 log d item (λ h x is le kept. item_kept w h x kept is le) (start_kept w safe) refl refl below (items_forward w log below items) e)

items_at : (w : Setting) (whole log : Log) (d : ℕ) (item : Item) → AllByRecursion (FitsLog w whole) log → slice_get log d ≡ just item → FitsLog w whole item
items_at w whole [] d item items e = absurd cc
items_at w whole (first ∷ log) zero item items e = subst (FitsLog w whole) (some_item first item e) items.0
items_at w whole (first ∷ log) (suc d) item items e = items_at w whole log d item items.1 e

pub call_at : (w : Setting) (log : Log) (d : ℕ) (call : Call) → AllFitLog w log → slice_get log d ≡ just (CallItem call) → FitsProcedures (procedures_after w log call.snapshot) call
call_at w log d call items e = items_at w log log d (CallItem call) items e

-- ---- the equations

seam : {X : Type 0} (xs : List X) (x : X) (ys : List X) → slice_get (xs ++ x ∷ ys) (length xs) ≡ just x
seam [] x ys = refl
seam (y ∷ xs) x ys = seam xs x ys

pub database_first : (w : Setting) (log : Log) → database_at (history w log) 0 ≡ first_database w.beginning
unfolding history
database_first w log = databases_stay (start w) (fold (with_item w) (start w) log) refl (grows w (start w) log) 0 (omega arith)

pub rows_first : (w : Setting) (log : Log) → rows_after w log 0 ≡ w.beginning.rows
rows_first w log = ap (λ (d : Database). d.rows) (database_first w log)

pub procedures_first : (w : Setting) (log : Log) → procedures_after w log 0 ≡ w.beginning.procedures
procedures_first w log = ap (λ (d : Database). d.procedures) (database_first w log)

-- the run of a call on some rows, and on those of its snapshot
same_run_at : (w : Setting) (log : Log) (d : ℕ) (call : Call) (rows : Rows) → (P : History → Type 0) (a : At w P (history w log) d (CallItem call)) → run_on w log call rows ≡ run_at w a.past call rows
same_run_at w log d call rows P a = ap (λ (x : Database). run_of_call w.tables x.procedures call rows) (a.databases call.snapshot a.below)

same_begun : (w : Setting) (log : Log) (d : ℕ) (call : Call) → (P : History → Type 0) (a : At w P (history w log) d (CallItem call)) → run_in w log call ≡ run_begun w a.past call
same_begun w log d call P a = ap (λ (x : Database). run_of_call w.tables x.procedures call x.rows) (a.databases call.snapshot a.below)

pub now_is : (w : Setting) (log : Log) (d : ℕ) (item : Item) → (P : History → Type 0) (a : At w P (history w log) d item) → database_at (history w log) d ≡ database_now a.past
now_is w log d item P a = a.databases d (omega arith) ∙ ap (λ (k : ℕ). database_at a.past k) (sym a.count)

past_is : (w : Setting) (log : Log) (d : ℕ) (item : Item) → (P : History → Type 0) (a : At w P (history w log) d item) → take d (history w log).certified ≡ a.past.certified
past_is w log d item P a =
    ap (λ (l : List CertifiedItem). take d l) a.certified
    ∙ ap (λ (k : ℕ). take k (a.past.certified ++ certified_item w a.past item ∷ a.later)) (sym a.count)
    ∙ take-append_seam a.past.certified (certified_item w a.past item ∷ a.later)

certified_there : (w : Setting) (log : Log) (d : ℕ) (item : Item) → (P : History → Type 0) (a : At w P (history w log) d item) → slice_get (history w log).certified d ≡ just (certified_item w a.past item)
certified_there w log d item P a =
    ap (λ (l : List CertifiedItem). slice_get l d) a.certified
    ∙ ap (λ (k : ℕ). slice_get (a.past.certified ++ certified_item w a.past item ∷ a.later) k) (sym a.count)
    ∙ seam a.past.certified (certified_item w a.past item) a.later

certified_call : (w : Setting) (h : History) (call : Call) → certified_item w h (CallItem call) ≡ record { request = call.request; writes = (run_begun w h call).writes; verdict = verdict_at w h call }
unfolding certified_item
certified_call w h call = refl

certified_added : (w : Setting) (h : History) (p : StoredProcedure) → certified_item w h (AdditionItem p) ≡ certified_addition (database_now h).procedures p
unfolding certified_item
certified_added w h p = refl

pub certified_is : (w : Setting) (log : Log) (d : ℕ) (call : Call) → IsLog log → slice_get log d ≡ just (CallItem call)
    → slice_get (history w log).certified d ≡ Some (record {
      request = call.request;
      writes = (run_in w log call).writes;
      verdict = verdict_after w.window w.beginning.requests (take d (history w log).certified) call (run_in w log call).looks;
    })
certified_is w log d call below e =
    let a = at w log d (CallItem call) below e in
    certified_there w log d (CallItem call) _ a
    ∙ ap just (certified_call w a.past call)
    ∙ sym (ap (λ (r : Run). just (record { request = call.request; writes = r.writes; verdict = verdict_after w.window w.beginning.requests (take d (history w log).certified) call r.looks })) (same_begun w log d call _ a)
    ∙ ap (λ (l : List CertifiedItem). just (record { request = call.request; writes = (run_begun w a.past call).writes; verdict = verdict_after w.window w.beginning.requests l call (run_begun w a.past call).looks })) (past_is w log d (CallItem call) _ a))

pub addition_is : (w : Setting) (log : Log) (d : ℕ) (p : StoredProcedure) → IsLog log → slice_get log d ≡ just (AdditionItem p)
    → slice_get (history w log).certified d ≡ Some (certified_addition (procedures_after w log d) p)
addition_is w log d p below e =
    let a = at w log d (AdditionItem p) below e in
    certified_there w log d (AdditionItem p) _ a
    ∙ ap just (certified_added w a.past p)
    ∙ sym (ap (λ (x : Database). just (certified_addition x.procedures p)) (now_is w log d (AdditionItem p) _ a))

verdict_there : (w : Setting) (log : Log) (d : ℕ) (item : Item) → (P : History → Type 0) (a : At w P (history w log) d item) → verdict_of w log (suc d) ≡ just (certified_item w a.past item).verdict
verdict_there w log d item P a = ap (option_map (λ (c : CertifiedItem). c.verdict)) (certified_there w log d item P a)

some_verdict : (v u : Verdict) → just v ≡ just u → v ≡ u
some_verdict v u e = cc

after_call : (w : Setting) (h : History) (call : Call) (v : Verdict) → database_after_item w h (CallItem call) v ≡ record { rows = if_commits v (run_at w h call (database_now h).rows).effect (database_now h).rows; procedures = (database_now h).procedures }
unfolding database_after_item
after_call w h call v = refl

after_addition : (w : Setting) (h : History) (p : StoredProcedure) (v : Verdict) → database_after_item w h (AdditionItem p) v ≡ record { rows = (database_now h).rows; procedures = if_commits v ((database_now h).procedures ++ p ∷ []) (database_now h).procedures }
unfolding database_after_item
after_addition w h p v = refl

-- the database after an item, by its verdict
pub next_is : (w : Setting) (log : Log) (d : ℕ) (item : Item) (v : Verdict) → (P : History → Type 0) (a : At w P (history w log) d item) → verdict_of w log (suc d) ≡ just v → database_at (history w log) (suc d) ≡ database_after_item w a.past item v
next_is w log d item v P a verdict =
    let is : (certified_item w a.past item).verdict ≡ v = some_verdict _ _ (sym (verdict_there w log d item P a) ∙ verdict) in
    a.next ∙ ap (database_after_item w a.past item) is

pub rows_next : (w : Setting) (log : Log) (d : ℕ) (call : Call) (v : Verdict) → IsLog log → slice_get log d ≡ just (CallItem call) → verdict_of w log (suc d) ≡ just v
    → rows_after w log (suc d) ≡ if_commits v (run_on w log call (rows_after w log d)).effect (rows_after w log d)
rows_next w log d call v below e verdict =
    let a = at w log d (CallItem call) below e in
    ap (λ (x : Database). x.rows) (next_is w log d (CallItem call) v _ a verdict ∙ after_call w a.past call v)
    ∙ ap (λ (x : Database). if_commits v (run_at w a.past call x.rows).effect x.rows) (sym (now_is w log d (CallItem call) _ a))
    ∙ ap (λ (r : Run). if_commits v r.effect (rows_after w log d)) (sym (same_run_at w log d call (rows_after w log d) _ a))

pub procedures_next : (w : Setting) (log : Log) (d : ℕ) (call : Call) → IsLog log → slice_get log d ≡ just (CallItem call) → procedures_after w log (suc d) ≡ procedures_after w log d
procedures_next w log d call below e =
    let a = at w log d (CallItem call) below e in
    ap (λ (x : Database). x.procedures) (a.next ∙ after_call w a.past call (certified_item w a.past (CallItem call)).verdict) ∙ ap (λ (x : Database). x.procedures) (sym (now_is w log d (CallItem call) _ a))

pub rows_after_addition : (w : Setting) (log : Log) (d : ℕ) (p : StoredProcedure) → IsLog log → slice_get log d ≡ just (AdditionItem p) → rows_after w log (suc d) ≡ rows_after w log d
rows_after_addition w log d p below e =
    let a = at w log d (AdditionItem p) below e in
    ap (λ (x : Database). x.rows) (a.next ∙ after_addition w a.past p (certified_item w a.past (AdditionItem p)).verdict) ∙ ap (λ (x : Database). x.rows) (sym (now_is w log d (AdditionItem p) _ a))

pub procedures_after_addition : (w : Setting) (log : Log) (d : ℕ) (p : StoredProcedure) (v : Verdict) → IsLog log → slice_get log d ≡ just (AdditionItem p) → verdict_of w log (suc d) ≡ just v
    → procedures_after w log (suc d) ≡ if_commits v (procedures_after w log d ++ p ∷ []) (procedures_after w log d)
procedures_after_addition w log d p v below e verdict =
    let a = at w log d (AdditionItem p) below e in
    ap (λ (x : Database). x.procedures) (next_is w log d (AdditionItem p) v _ a verdict ∙ after_addition w a.past p v)
    ∙ ap (λ (x : Database). if_commits v (x.procedures ++ p ∷ []) x.procedures) (sym (now_is w log d (AdditionItem p) _ a))

-- ---- the runs of those that commit

pub serial_where_fit : (w : Setting) (log : Log) (d : ℕ) (call : Call) → BeginsSafely w → IsLog log → AllFitLog w log → slice_get log d ≡ just (CallItem call) → verdict_of w log (suc d) ≡ just Commit
    → run_on w log call (rows_after w log d) ≡ same_on (rows_after w log d) (run_in w log call)
serial_where_fit w log d call safe below items e verdict =
    let a = kept_at w log d (CallItem call) safe below items e in
    let is : verdict_at w a.past call ≡ Commit = some_verdict _ _ (sym (verdict_there w log d (CallItem call) _ a ∙ ap (λ (c : CertifiedItem). just c.verdict) (certified_call w a.past call)) ∙ verdict) in
    let within : call.snapshot ≤ length a.past.certified = let b = a.below in let c = a.count in omega arith in
    let one : FitsProcedures (procedures_begun a.past call) call = subst (λ (x : Database). FitsProcedures x.procedures call) (a.databases call.snapshot a.below) (call_at w log d call items e) in
    same_run_at w log d call (rows_after w log d) _ a
    ∙ ap (λ (x : Database). run_at w a.past call x.rows) (now_is w log d (CallItem call) _ a)
    ∙ serial w a.past call a.kept one within is
    ∙ sym (ap (λ (x : Database). same_on x.rows (run_in w log call)) (now_is w log d (CallItem call) _ a) ∙ ap (same_on (database_now a.past).rows) (same_begun w log d call _ a))

-- ---- items fit their log

fits_item : (w : Setting) (log : Log) (item : Item) → IsItem w log item → FitsLog w log item
fits_item w log (CallItem call) is = fits_of_call (procedures_after w log call.snapshot) call is
fits_item w log (AdditionItem p) is = is

all_fit_in : (w : Setting) (whole log : Log) → AllByRecursion (IsItem w whole) log → AllByRecursion (FitsLog w whole) log
all_fit_in w whole [] items = tt
all_fit_in w whole (item ∷ log) items = (fits_item w whole item items.0, all_fit_in w whole log items.1)

pub items_fit : (w : Setting) (log : Log) → AreItems w log → AllFitLog w log
items_fit w log items = all_fit_in w log log items

pub serial_run : (w : Setting) (log : Log) (d : ℕ) (call : Call) → BeginsSafely w → IsLog log → AreItems w log → slice_get log d ≡ just (CallItem call) → verdict_of w log (suc d) ≡ just Commit
    → run_on w log call (rows_after w log d) ≡ same_on (rows_after w log d) (run_in w log call)
serial_run w log d call safe below items e verdict = serial_where_fit w log d call safe below (items_fit w log items) e verdict

-- ---- by what was shipped alone

abbrev so_far : Setting → History → CertifiedEntries
so_far w h = record { done = w.beginning.requests; certified = h.certified; procedures = (database_now h).procedures }

-- looks and writes are those of the run, by what the whole log came to
abbrev CarriedIn : Setting → History → Entry → Type 0
CarriedIn w g (CallEntry e) = (e.looks ≡ (run_begun w g e.call).looks) × (e.writes ≡ (run_begun w g e.call).writes)
CarriedIn w g (AdditionEntry p) = Unit {0}

one_entry : (w : Setting) (h g : History) (e : Entry) → Even h → Grows h g → IsPlaced (length h.certified) (item_of e) → CarriedIn w g e → with_entry w.window (so_far w h) e ≡ so_far w (with_item w h (item_of e))
one_entry w h g (CallEntry e) even more le carry =
    let stays : run_begun w g e.call ≡ run_begun w h e.call = ap (λ (x : Database). run_of_call w.tables x.procedures e.call x.rows) (databases_stay h g even more e.call.snapshot le) in
    let looks : e.looks ≡ (run_begun w h e.call).looks = carry.0 ∙ ap (λ (r : Run). r.looks) stays in
    let writes : e.writes ≡ (run_begun w h e.call).writes = carry.1 ∙ ap (λ (r : Run). r.writes) stays in
    let last = last_is h (certified_item w h (CallItem e.call)) (database_after_item w h (CallItem e.call) (certified_item w h (CallItem e.call)).verdict) even in
    ap (λ l. record { done = w.beginning.requests; certified = h.certified ++ record { request = e.call.request; writes = e.writes; verdict = verdict_after w.window w.beginning.requests h.certified e.call l } ∷ []; procedures = (database_now h).procedures }) looks
    ∙ ap (λ x. record { done = w.beginning.requests; certified = h.certified ++ record { request = e.call.request; writes = x; verdict = verdict_at w h e.call } ∷ []; procedures = (database_now h).procedures }) writes
    ∙ ap (λ (c : CertifiedItem). record { done = w.beginning.requests; certified = h.certified ++ c ∷ []; procedures = (database_now h).procedures }) (sym (certified_call w h e.call))
    ∙ ap (λ (x : Database). record { done = w.beginning.requests; certified = h.certified ++ certified_item w h (CallItem e.call) ∷ []; procedures = x.procedures }) (sym (last ∙ after_call w h e.call (certified_item w h (CallItem e.call)).verdict))
one_entry w h g (AdditionEntry p) even more le carry =
    let last = last_is h (certified_item w h (AdditionItem p)) (database_after_item w h (AdditionItem p) (certified_item w h (AdditionItem p)).verdict) even in
    ap (λ (c : CertifiedItem). record { done = w.beginning.requests; certified = h.certified ++ c ∷ []; procedures = if_commits c.verdict ((database_now h).procedures ++ p ∷ []) (database_now h).procedures }) (sym (certified_added w h p))
    ∙ ap (λ (x : Database). record { done = w.beginning.requests; certified = h.certified ++ certified_item w h (AdditionItem p) ∷ []; procedures = x.procedures }) (sym (last ∙ after_addition w h p (certified_item w h (AdditionItem p)).verdict))

certified_from : (w : Setting) (h : History) (n : ℕ) (entries : List Entry) (g : History) → Even h → length h.certified ≡ n → IsLogFrom n (items_of entries)
    → fold (with_item w) h (items_of entries) ≡ g → AllByRecursion (CarriedIn w g) entries → fold (with_entry w.window) (so_far w h) entries ≡ so_far w g
certified_from w h n [] g even count below is carry = ap (so_far w) is
certified_from w h n (e ∷ entries) g even count below is carry =
    let more : Grows h g = subst (λ (x : History). Grows h x) is (grows w h (items_of (e ∷ entries))) in
    ap (λ (x : CertifiedEntries). fold (with_entry w.window) x entries) (one_entry w h g e even more (placed_as (length h.certified) n (item_of e) count below.0) carry.0)
    ∙ certified_from w (with_item w h (item_of e)) (suc n) entries g (even_with_item w h (item_of e) even) (count_with_item w h (item_of e) ∙ ap suc count) below.1 is carry.1

carried_one : (w : Setting) (log : Log) (e : Entry) → IsCarried w log e → CarriedIn w (history w log) e
carried_one w log (CallEntry e) h = (h.looks, h.writes)
carried_one w log (AdditionEntry p) h = tt

carried : (w : Setting) (log : Log) (entries : List Entry) → AllByRecursion (IsCarried w log) entries → AllByRecursion (CarriedIn w (history w log)) entries
carried w log [] h = tt
carried w log (e ∷ entries) h = (carried_one w log e h.0, carried w log entries h.1)

certified_whole : (w : Setting) (entries : List Entry) → IsLog (items_of entries) → CarryRuns w entries → certified_entries_of w.window w.beginning entries ≡ so_far w (history w (items_of entries))
unfolding history certified_entries_of
certified_whole w entries below carry = certified_from w (start w) 0 entries (history w (items_of entries)) refl refl below refl (carried w (items_of entries) entries carry)

pub certified_by_entries : (w : Setting) (entries : List Entry) → IsLog (items_of entries) → CarryRuns w entries → (certified_entries_of w.window w.beginning entries).certified ≡ (history w (items_of entries)).certified
certified_by_entries w entries below carry = ap (λ (x : CertifiedEntries). x.certified) (certified_whole w entries below carry)

pub procedures_by_entries : (w : Setting) (entries : List Entry) → IsLog (items_of entries) → CarryRuns w entries → (certified_entries_of w.window w.beginning entries).procedures ≡ procedures_after w (items_of entries) (length entries)
procedures_by_entries w entries below carry =
    ap (λ (x : CertifiedEntries). x.procedures) (certified_whole w entries below carry)
    ∙ ap (λ (k : ℕ). procedures_after w (items_of entries) k) (count_history w (items_of entries) ∙ length-map entries item_of)

pub rows_by_entries : (w : Setting) (entries : List Entry) (p : ℕ) → BeginsSafely w → IsLog (items_of entries) → AllFitLog w (items_of entries) → CarryRuns w entries → p ≤ length entries
    → rows_laid_on w.beginning.rows (certified_entries_of w.window w.beginning entries).certified p ≡ rows_after w (items_of entries) p
rows_by_entries w entries p safe below items carry le =
    let count = count_history w (items_of entries) in
    let many : length (items_of entries) ≡ length entries = length-map entries item_of in
    let le : p ≤ length (history w (items_of entries)).certified = omega arith in
    ap (λ (l : List CertifiedItem). rows_laid_on w.beginning.rows l p) (certified_by_entries w entries below carry)
    ∙ sym ((history_kept w (items_of entries) safe below items).laid_on p le)
