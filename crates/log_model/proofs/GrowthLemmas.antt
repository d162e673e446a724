-- A log that grows keeps what it had come to.
use Rattle.std.proofs.Common.{◌≡◌, ℕ, zero, suc, ◌+◌, ◌-◌, ◌≤◌, ◌<◌, true, false, cond, nat_eq, List, [], ◌∷◌, ◌++◌, length, fold, Some, slice_get, option_map, refl, sym, ap, subst, ◌∙◌, arith}
use Rattle.std.specs.List.{AllByRecursion}
use Rattle.std.proofs.lemmas.List.Sums.{fold-append}
use Rattle.schema.specs.Rows.{AreRows}
use Rattle.log_model.specs.declared.verdict.Verdict.{Verdict}
use Rattle.log_model.specs.Log.{by_number, Setting, Call, Log, IsLogFrom, IsLog, History, start, history, rows_after, verdict_of, verdict_in, moment_of, moment_at, run_of_call, run_in, StoredProcedure, Catalogue, verdict_on_addition, if_commits, Item, CallItem, AdditionItem, IsPlaced, CertifiedItem, Database, database_at, with_item, procedures_after}
use Rattle.log_model.specs.Fit.{BeginsSafely, IsCall, AreSafe, IsCallOf, IsItem, AreItems, FitsProcedures, FitsLog, AllFitLog}
use Rattle.log_model.proofs.CallLemmas.{Grows, grows, Even, count_history, history_kept, databases_stay, even_with_item, items_fit, procedures_next, procedures_after_addition}
use Rattle.log_model.specs.declared.verdict.Verdict.TheVariants.{Commit, Conflict, Stale, Repeated, Taken}
use Rattle.log_model.proofs.AdditionLemmas.{addition_verdict}
use Rattle.log_model.proofs.RunLemmas.{just}

even_fold : (w : Setting) (h : History) (log : Log) → Even h → Even (fold (with_item w) h log)
even_fold w h [] even = even
even_fold w h (item ∷ log) even = even_fold w (with_item w h item) log (even_with_item w h item even)

pub even_history : (w : Setting) (log : Log) → Even (history w log)
unfolding history
even_history w log = even_fold w (start w) log refl

pub grown : (w : Setting) (log more : Log) → Grows (history w log) (history w (log ++ more))
unfolding history
grown w log more = subst (λ (g : History). Grows (fold (with_item w) (start w) log) g) (sym (fold-append (with_item w) (start w) log more)) (grows w (fold (with_item w) (start w) log) more)

pub database_grown : (w : Setting) (log more : Log) (p : ℕ) → p ≤ length log → database_at (history w (log ++ more)) p ≡ database_at (history w log) p
database_grown w log more p le =
    let count = count_history w log in
    databases_stay (history w log) (history w (log ++ more)) (even_history w log) (grown w log more) p (omega arith)

pub rows_grown : (w : Setting) (log more : Log) (p : ℕ) → p ≤ length log → rows_after w (log ++ more) p ≡ rows_after w log p
rows_grown w log more p le = ap (λ (d : Database). d.rows) (database_grown w log more p le)

pub procedures_grown : (w : Setting) (log more : Log) (p : ℕ) → p ≤ length log → procedures_after w (log ++ more) p ≡ procedures_after w log p
procedures_grown w log more p le = ap (λ (d : Database). d.procedures) (database_grown w log more p le)

pub get_before : {X : Type 0} (xs ys : List X) (k : ℕ) → k < length xs → slice_get (xs ++ ys) k ≡ slice_get xs k
get_before [] ys k lt = absurd (omega arith)
get_before (x ∷ xs) ys zero lt = refl
get_before (x ∷ xs) ys (suc k) lt = get_before xs ys k (omega arith)

pub verdict_grown : (w : Setting) (log more : Log) (d : ℕ) → d < length log → verdict_of w (log ++ more) (suc d) ≡ verdict_of w log (suc d)
verdict_grown w log more d lt =
    let count = count_history w log in
    let g = grown w log more in
    ap (λ (l : List CertifiedItem). verdict_in l (suc d)) g.certified_is ∙ ap (option_map (λ (c : CertifiedItem). c.verdict)) (get_before (history w log).certified g.certified d (omega arith))

pub moment_grown : (w : Setting) (log more : Log) (call : Call) (k : ℕ) → call.snapshot ≤ length log → moment_at w (log ++ more) call k ≡ moment_at w log call k
unfolding moment_at
moment_grown w log more call k le = ap (λ (d : Database). moment_of w.tables (by_number d.procedures call.procedure) call.args d.rows k) (database_grown w log more call.snapshot le)

pub rows_where_fit : (w : Setting) (log : Log) (p : ℕ) → BeginsSafely w → IsLog log → AllFitLog w log → p ≤ length log → AreRows w.tables (rows_after w log p)
rows_where_fit w log p safe below items le = let count = count_history w log in (history_kept w log safe below items).fit p (omega arith)

pub rows_fit : (w : Setting) (log : Log) (p : ℕ) → BeginsSafely w → IsLog log → AreItems w log → p ≤ length log → AreRows w.tables (rows_after w log p)
rows_fit w log p safe below items le = rows_where_fit w log p safe below (items_fit w log items) le

pub procedures_safe : (w : Setting) (log : Log) (p : ℕ) → BeginsSafely w → IsLog log → AreItems w log → p ≤ length log → AreSafe w.tables (procedures_after w log p)
procedures_safe w log p safe below items le = let count = count_history w log in (history_kept w log safe below (items_fit w log items)).safe p (omega arith)

-- ---- one more item

pub is_log_snoc : (n : ℕ) (log : Log) (item : Item) → IsLogFrom n log → IsPlaced (n + length log) item → IsLogFrom n (log ++ item ∷ [])
is_log_snoc n [] item below le = (subst (λ (k : ℕ). IsPlaced k item) (let e : n + 0 ≡ n = omega arith in e) le, tt)
is_log_snoc n (first ∷ log) item below le =
    (below.0, is_log_snoc (suc n) log item below.1 (subst (λ (k : ℕ). IsPlaced k item) (let e : n + suc (length log) ≡ suc n + length log = omega arith in e) le))

pub is_call_grown : (w : Setting) (log more : Log) (call : Call) → call.snapshot ≤ length log → IsCall w log call → IsCall w (log ++ more) call
is_call_grown w log more call le is = subst (λ (ps : Catalogue). IsCallOf ps call) (sym (procedures_grown w log more call.snapshot le)) is

pub is_call_before : (w : Setting) (log more : Log) (call : Call) → call.snapshot ≤ length log → IsCall w (log ++ more) call → IsCall w log call
is_call_before w log more call le is = subst (λ (ps : Catalogue). IsCallOf ps call) (procedures_grown w log more call.snapshot le) is

is_item_grown : (w : Setting) (log more : Log) (n : ℕ) (item : Item) → IsPlaced n item → n ≤ length log → IsItem w log item → IsItem w (log ++ more) item
is_item_grown w log more n (CallItem call) below le is = is_call_grown w log more call (omega arith) is
is_item_grown w log more n (AdditionItem p) below le is = is

-- what holds of each item of a log holds of them in a longer one, where that is so of one item
all_grown : (P : Log → Item → Type 0) (log more : Log) → ((n : ℕ) (item : Item) → IsPlaced n item → n ≤ length log → P log item → P (log ++ more) item)
    → (n : ℕ) (items : Log) → IsLogFrom n items → n + length items ≤ length log → AllByRecursion (P log) items → AllByRecursion (P (log ++ more)) items
all_grown P log more one n [] below le all = tt
all_grown P log more one n (item ∷ items) below le all =
    (one n item below.0 (omega arith) all.0, all_grown P log more one (suc n) items below.1 (omega arith) all.1)

all_snoc : (P : Item → Type 0) (items : Log) (item : Item) → AllByRecursion P items → P item → AllByRecursion P (items ++ item ∷ [])
all_snoc P [] item all is = (is, tt)
all_snoc P (first ∷ items) item all is = (all.0, all_snoc P items item all.1 is)

pub are_items_snoc : (w : Setting) (log : Log) (item : Item) → IsLog log → AreItems w log → IsPlaced (length log) item → IsItem w log item → AreItems w (log ++ item ∷ [])
are_items_snoc w log item below items le is =
    all_snoc (IsItem w (log ++ item ∷ [])) log item (all_grown (IsItem w) log (item ∷ []) (is_item_grown w log (item ∷ [])) 0 log below (omega arith) items) (is_item_grown w log (item ∷ []) (length log) item le (omega arith) is)

-- the same of what fits
fits_grown : (w : Setting) (log more : Log) (n : ℕ) (item : Item) → IsPlaced n item → n ≤ length log → FitsLog w log item → FitsLog w (log ++ more) item
fits_grown w log more n (CallItem call) below le is = subst (λ (ps : Catalogue). FitsProcedures ps call) (sym (procedures_grown w log more call.snapshot (omega arith))) is
fits_grown w log more n (AdditionItem p) below le is = is

pub all_fit_snoc : (w : Setting) (log : Log) (item : Item) → IsLog log → AllFitLog w log → IsPlaced (length log) item → FitsLog w log item → AllFitLog w (log ++ item ∷ [])
all_fit_snoc w log item below items le is =
    all_snoc (FitsLog w (log ++ item ∷ [])) log item (all_grown (FitsLog w) log (item ∷ []) (fits_grown w log (item ∷ [])) 0 log below (omega arith) items) (fits_grown w log (item ∷ []) (length log) item le (omega arith) is)

-- there is a verdict on each item, and on no number beyond
pub verdict_within : (w : Setting) (log : Log) (d : ℕ) (v : Verdict) → verdict_of w log (suc d) ≡ Some v → d < length log
verdict_within w log d v e =
    let count = count_history w log in
    let lt : d < length (history w log).certified = within (history w log).certified d v e in
    omega arith
  where
    within : (cs : List CertifiedItem) (d : ℕ) (v : Verdict) → option_map (λ c. c.verdict) (slice_get cs d) ≡ Some v → d < length cs
    within [] d v e = absurd cc
    within (c ∷ cs) zero v e = omega arith
    within (c ∷ cs) (suc d) v e = let lt = within cs d v e in omega arith

-- the run of a call stays as the log grows
pub run_grown : (w : Setting) (log more : Log) (call : Call) → call.snapshot ≤ length log → run_in w (log ++ more) call ≡ run_in w log call
run_grown w log more call le = ap (λ (d : Database). run_of_call w.tables d.procedures call d.rows) (database_grown w log more call.snapshot le)

-- ---- what is found among the procedures stays

found_first : (ps : Catalogue) (p q : StoredProcedure) (number : ℕ) → by_number ps number ≡ Some q → by_number (ps ++ p ∷ []) number ≡ Some q
found_first [] p q number e = absurd cc
found_first (x ∷ ps) p q number e = elim (nat_eq x.number number) as (λ b. cond b (just x) (by_number ps number) ≡ just q → cond b (just x) (by_number (ps ++ p ∷ []) number) ≡ just q) [
  | true ↦ λ f. f
  | false ↦ λ f. found_first ps p q number f
] e

found_after : (ps : Catalogue) (p q : StoredProcedure) (number : ℕ) (v : Verdict) → by_number ps number ≡ Some q → by_number (if_commits v (ps ++ p ∷ []) ps) number ≡ Some q
found_after ps p q number Commit e = found_first ps p q number e
found_after ps p q number (Conflict n) e = e
found_after ps p q number Stale e = e
found_after ps p q number (Repeated n) e = e
found_after ps p q number (Taken n) e = e

there : (log : Log) (k : ℕ) → k < length log → (item : Item) × (slice_get log k ≡ Some item)
there [] k lt = absurd (omega arith)
there (x ∷ log) zero lt = (x, refl)
there (x ∷ log) (suc k) lt = there log k (omega arith)

stays_by_item : (w : Setting) (log : Log) (d number : ℕ) (q : StoredProcedure) (item : Item) → IsLog log → slice_get log d ≡ Some item → by_number (procedures_after w log d) number ≡ Some q → by_number (procedures_after w log (suc d)) number ≡ Some q
stays_by_item w log d number q (CallItem call) below at e = ap (λ (ps : Catalogue). by_number ps number) (procedures_next w log d call below at) ∙ e
stays_by_item w log d number q (AdditionItem p) below at e =
    ap (λ (ps : Catalogue). by_number ps number) (procedures_after_addition w log d p (verdict_on_addition (procedures_after w log d) p) below at (addition_verdict w log d p below at))
    ∙ found_after (procedures_after w log d) p q number (verdict_on_addition (procedures_after w log d) p) e

stays_so_far : (w : Setting) (log : Log) (s n number : ℕ) (q : StoredProcedure) → IsLog log → s + n ≤ length log → by_number (procedures_after w log s) number ≡ Some q → by_number (procedures_after w log (s + n)) number ≡ Some q
stays_so_far w log s zero number q below le e = ap (λ (k : ℕ). by_number (procedures_after w log k) number) (let same : s + 0 ≡ s = omega arith in same) ∙ e
stays_so_far w log s (suc n) number q below le e =
    let before = stays_so_far w log s n number q below (omega arith) e in
    let item = there log (s + n) (omega arith) in
    ap (λ (k : ℕ). by_number (procedures_after w log k) number) (let same : s + suc n ≡ suc (s + n) = omega arith in same) ∙ stays_by_item w log (s + n) number q item.0 below item.1 before

pub procedure_stays : (w : Setting) (log : Log) (s t number : ℕ) (q : StoredProcedure) → IsLog log → s ≤ t → t ≤ length log → by_number (procedures_after w log s) number ≡ Some q → by_number (procedures_after w log t) number ≡ Some q
procedure_stays w log s t number q below le within e =
    let back : s + (t - s) ≡ t = omega arith in
    ap (λ (k : ℕ). by_number (procedures_after w log k) number) (sym back) ∙ stays_so_far w log s (t - s) number q below (omega arith) e
