-- What the log comes to, item by item.
use Rattle.std.proofs.Common.{◌≡◌, ℕ, suc, ◌+◌, ◌≤◌, ◌<◌, true, false, cond, List, [], ◌∷◌, ◌++◌, length, take, drop, nat_eq, get_or, None, refl, sym, ap, subst, ◌∙◌, arith, inl, inr, ◌⊎◌, eq-or-lt_of_le}
use Rattle.std.specs.FinMap.{empty}
use Rattle.std.proofs.lemmas.List.{length-append, take-append-le, take-append-drop}
use Rattle.std.proofs.lemmas.List.Elements.{All-from_recursion}
use Rattle.std.proofs.Math.ListN.{get_or-append}
use Rattle.std.proofs.Math.Seq.{get_or-append_seam, take-length}
use Rattle.schema.specs.Schema.{Tables}
use Rattle.schema.specs.Rows.{Rows, Writes, AreRows}
use Rattle.schema.proofs.RowsLemmas.{after_writes-empty}
use Rattle.bpf_semantics.specs.Run.{Run}
use Rattle.bpf_semantics.specs.Agree.{same_on, AreElsewhere, after_each}
use Rattle.log_model.specs.declared.verdict.Verdict.{Verdict}
use Rattle.log_model.specs.declared.verdict.Verdict.TheVariants.{Commit, Conflict, Stale, Repeated, Taken}
use Rattle.log_model.specs.Log.{StoredProcedure, Catalogue, Setting, Call, Item, CallItem, AdditionItem, IsPlaced, by_number, CertifiedItem, verdict_after, Database, no_database, History, start, database_at, database_now, with_certified, if_commits, run_at, certified_item, database_after_item, with_item}
use Rattle.log_model.proofs.Laid.{installed_writes, rows_laid_on}
use Rattle.log_model.specs.Fit.{IsSafe, AreSafe, BeginsSafely, FitsProcedures}
use Rattle.log_model.proofs.RunLemmas.{just, same_run, effect_fits}
use Rattle.log_model.proofs.VerdictLemmas.{committed_apart, installed_writes-append, after_each-append}

-- ---- one more item

-- as long as each other, the databases one longer; the rows of each the schema's, and the installed write sets laid on in
-- order; its procedures safe
pub record IsKept (w : Setting) (h : History) : Type 0 where
  pub even : length h.databases ≡ suc (length h.certified)
  pub fit : (p : ℕ) → p ≤ length h.certified → AreRows w.tables (database_at h p).rows
  pub laid_on : (p : ℕ) → p ≤ length h.certified → (database_at h p).rows ≡ rows_laid_on w.beginning.rows h.certified p
  pub safe : (p : ℕ) → p ≤ length h.certified → AreSafe w.tables (database_at h p).procedures

pub start_kept : (w : Setting) → BeginsSafely w → IsKept w (start w)
start_kept w safe = record {
  even = refl;
  fit = λ p le. let same : p ≡ 0 = omega arith in subst (λ (k : ℕ). AreRows w.tables (database_at (start w) k).rows) (sym same) safe.rows;
  laid_on = λ p le. let same : p ≡ 0 = omega arith in subst (λ (k : ℕ). (database_at (start w) k).rows ≡ rows_laid_on w.beginning.rows [] k) (sym same) refl;
  safe = λ p le. let same : p ≡ 0 = omega arith in subst (λ (k : ℕ). AreSafe w.tables (database_at (start w) k).procedures) (sym same) safe.procedures;
}

-- what a run saw, and what it wrote
abbrev pub run_begun : Setting → History → Call → Run
run_begun w h call = run_at w h call (database_at h call.snapshot).rows

abbrev pub verdict_at : Setting → History → Call → Verdict
verdict_at w h call = verdict_after w.window w.beginning.requests h.certified call (run_begun w h call).looks

abbrev pub procedures_begun : History → Call → Catalogue
procedures_begun h call = (database_at h call.snapshot).procedures

-- the rows now are those of a snapshot, with the write sets installed since then laid on
pub rows_since : (w : Setting) (h : History) (s : ℕ) → IsKept w h → s ≤ length h.certified → (database_now h).rows ≡ after_each (installed_writes (drop s h.certified)) (database_at h s).rows
rows_since w h s kept le =
    let now : (database_now h).rows ≡ after_each (installed_writes h.certified) w.beginning.rows =
    kept.laid_on (length h.certified) (omega arith) ∙ ap (λ (l : List CertifiedItem). after_each (installed_writes l) w.beginning.rows) (take-length h.certified) in
    let parts : installed_writes h.certified ≡ installed_writes (take s h.certified) ++ installed_writes (drop s h.certified) =
    ap installed_writes (sym (take-append-drop s h.certified)) ∙ installed_writes-append (take s h.certified) (drop s h.certified) in
    now
    ∙ ap (λ (l : List Writes). after_each l w.beginning.rows) parts
    ∙ after_each-append (installed_writes (take s h.certified)) (installed_writes (drop s h.certified)) w.beginning.rows
    ∙ ap (after_each (installed_writes (drop s h.certified))) (sym (kept.laid_on s le))

-- the run of a call that commits is the same on the rows now, but for its effect
pub serial : (w : Setting) (h : History) (call : Call) → IsKept w h → FitsProcedures (procedures_begun h call) call → call.snapshot ≤ length h.certified → verdict_at w h call ≡ Commit
    → run_at w h call (database_now h).rows ≡ same_on (database_now h).rows (run_begun w h call)
serial w h call kept c le commit =
    let apart = All-from_recursion (AreElsewhere (run_begun w h call).looks) (installed_writes (drop call.snapshot h.certified)) (committed_apart w.window w.beginning.requests h.certified call (run_begun w h call).looks commit) in
    subst (λ (rows : Rows). run_at w h call rows ≡ same_on rows (run_begun w h call)) (sym (rows_since w h call.snapshot kept le))
    (same_run w.tables (procedures_begun h call) call (database_at h call.snapshot).rows (installed_writes (drop call.snapshot h.certified)) (kept.safe call.snapshot le) c (kept.fit call.snapshot le) apart)

-- what a call leaves: its writes laid on where it commits
left_by : (w : Setting) (h : History) (call : Call) → IsKept w h → FitsProcedures (procedures_begun h call) call → call.snapshot ≤ length h.certified → (v : Verdict) → verdict_at w h call ≡ v
    → if_commits v (run_at w h call (database_now h).rows).effect (database_now h).rows ≡ after_each (installed_writes (record { request = call.request; writes = (run_begun w h call).writes; verdict = v } ∷ [])) (database_now h).rows
left_by w h call kept c le Commit e = ap (λ (r : Run). r.effect) (serial w h call kept c le e)
left_by w h call kept c le (Conflict n) e = refl
left_by w h call kept c le Stale e = refl
left_by w h call kept c le (Repeated n) e = refl
left_by w h call kept c le (Taken n) e = refl

fits_after : (w : Setting) (h : History) (call : Call) → IsKept w h → FitsProcedures (procedures_begun h call) call → call.snapshot ≤ length h.certified → (v : Verdict) → AreRows w.tables (if_commits v (run_at w h call (database_now h).rows).effect (database_now h).rows)
fits_after w h call kept c le Commit = effect_fits w.tables (procedures_begun h call) call (database_now h).rows (kept.safe call.snapshot le) c (kept.fit (length h.certified) (omega arith))
fits_after w h call kept c le (Conflict n) = kept.fit (length h.certified) (omega arith)
fits_after w h call kept c le Stale = kept.fit (length h.certified) (omega arith)
fits_after w h call kept c le (Repeated n) = kept.fit (length h.certified) (omega arith)
fits_after w h call kept c le (Taken n) = kept.fit (length h.certified) (omega arith)

-- a history with one more, whose rows are what its installed write sets give
snoc_kept : (w : Setting) (h : History) (c : CertifiedItem) (d : Database) → IsKept w h → AreRows w.tables d.rows → d.rows ≡ after_each (installed_writes (c ∷ [])) (database_now h).rows → AreSafe w.tables d.procedures → IsKept w (with_certified h c d)
snoc_kept w h c d kept fits is safe =
    let count : length (h.certified ++ c ∷ []) ≡ length h.certified + 1 = length-append h.certified (c ∷ []) in
    let count_databases : length (h.databases ++ d ∷ []) ≡ length h.databases + 1 = length-append h.databases (d ∷ []) in
    let even = kept.even in
    let last : database_at (with_certified h c d) (suc (length h.certified)) ≡ d =
    ap (λ (k : ℕ). get_or (h.databases ++ d ∷ []) k no_database) (sym even) ∙ get_or-append_seam h.databases d [] no_database in
    let before = λ (p : ℕ) (lt : p ≤ length h.certified). let inside : p < length h.databases = omega arith in get_or-append h.databases (d ∷ []) no_database p inside in
    let all : rows_laid_on w.beginning.rows (h.certified ++ c ∷ []) (suc (length h.certified)) ≡ d.rows =
    ap (λ (l : List CertifiedItem). after_each (installed_writes l) w.beginning.rows) (ap (λ (k : ℕ). take k (h.certified ++ c ∷ [])) (let e : suc (length h.certified) ≡ length (h.certified ++ c ∷ []) = omega arith in e) ∙ take-length (h.certified ++ c ∷ []))
    ∙ ap (λ (l : List Writes). after_each l w.beginning.rows) (installed_writes-append h.certified (c ∷ []))
    ∙ after_each-append (installed_writes h.certified) (installed_writes (c ∷ [])) w.beginning.rows
    ∙ ap (after_each (installed_writes (c ∷ []))) (sym (kept.laid_on (length h.certified) (omega arith) ∙ ap (λ (l : List CertifiedItem). after_each (installed_writes l) w.beginning.rows) (take-length h.certified)))
    ∙ sym is in
    let either = λ (p : ℕ) (le : p ≤ length (h.certified ++ c ∷ [])). cases p (length h.certified) (omega arith) in
    record {
      even = omega arith;
      fit = λ p le. elim (either p le) [
        | inl old ↦ subst (λ (x : Database). AreRows w.tables x.rows) (sym (before p old)) (kept.fit p old)
        | inr new ↦ subst (λ (k : ℕ). AreRows w.tables (database_at (with_certified h c d) k).rows) (sym new) (subst (λ (x : Database). AreRows w.tables x.rows) (sym last) fits)
      ];
      laid_on = λ p le. elim (either p le) [
        | inl old ↦ ap (λ (x : Database). x.rows) (before p old) ∙ kept.laid_on p old ∙ ap (λ (l : List CertifiedItem). after_each (installed_writes l) w.beginning.rows) (sym (take-append-le p h.certified (c ∷ []) old))
        | inr new ↦ subst (λ (k : ℕ). (database_at (with_certified h c d) k).rows ≡ rows_laid_on w.beginning.rows (h.certified ++ c ∷ []) k) (sym new) (ap (λ (x : Database). x.rows) last ∙ sym all)
      ];
      safe = λ p le. elim (either p le) [
        | inl old ↦ subst (λ (x : Database). AreSafe w.tables x.procedures) (sym (before p old)) (kept.safe p old)
        | inr new ↦ subst (λ (k : ℕ). AreSafe w.tables (database_at (with_certified h c d) k).procedures) (sym new) (subst (λ (x : Database). AreSafe w.tables x.procedures) (sym last) safe)
      ];
    }
  where
    cases : (p n : ℕ) → p ≤ n + 1 → (p ≤ n) ⊎ (p ≡ suc n)
    cases p n le = elim (eq-or-lt_of_le le) [ inl e ↦ inr (omega arith) | inr lt ↦ inl (omega arith) ]

call_kept : (w : Setting) (h : History) (call : Call) → IsKept w h → FitsProcedures (procedures_begun h call) call → call.snapshot ≤ length h.certified → IsKept w (with_item w h (CallItem call))
unfolding certified_item database_after_item
call_kept w h call kept c le =
    snoc_kept w h (record { request = call.request; writes = (run_begun w h call).writes; verdict = verdict_at w h call })
    (record { rows = if_commits (verdict_at w h call) (run_at w h call (database_now h).rows).effect (database_now h).rows; procedures = (database_now h).procedures }) kept
    (fits_after w h call kept c le (verdict_at w h call)) (left_by w h call kept c le (verdict_at w h call) refl) (kept.safe (length h.certified) (omega arith))

-- ---- an addition

some_procedure : (a b : StoredProcedure) → just a ≡ just b → a ≡ b
some_procedure a b e = cc

-- what is found among procedures and one more was found before, or is it
pub found_with : (ps : Catalogue) (p q : StoredProcedure) (number : ℕ) → by_number (ps ++ p ∷ []) number ≡ just q → (by_number ps number ≡ just q) ⊎ (p ≡ q)
found_with [] p q number e = elim (nat_eq p.number number) as (λ b. cond b (just p) None ≡ just q → (by_number [] number ≡ just q) ⊎ (p ≡ q)) [
  | true ↦ λ f. inr (some_procedure p q f)
  | false ↦ λ f. absurd cc
] e
found_with (x ∷ ps) p q number e = elim (nat_eq x.number number) as (λ b. cond b (just x) (by_number (ps ++ p ∷ []) number) ≡ just q → (cond b (just x) (by_number ps number) ≡ just q) ⊎ (p ≡ q)) [
  | true ↦ λ f. inl f
  | false ↦ λ f. found_with ps p q number f
] e

safe_with : (tables : Tables) (ps : Catalogue) (p : StoredProcedure) → AreSafe tables ps → IsSafe tables p → AreSafe tables (ps ++ p ∷ [])
safe_with tables ps p safe one number q e = elim (found_with ps p q number e) [
  | inl old ↦ safe number q old
  | inr new ↦ subst (IsSafe tables) new one
]

safe_after : (tables : Tables) (ps : Catalogue) (p : StoredProcedure) → AreSafe tables ps → IsSafe tables p → (v : Verdict) → AreSafe tables (if_commits v (ps ++ p ∷ []) ps)
safe_after tables ps p safe one Commit = safe_with tables ps p safe one
safe_after tables ps p safe one (Conflict n) = safe
safe_after tables ps p safe one Stale = safe
safe_after tables ps p safe one (Repeated n) = safe
safe_after tables ps p safe one (Taken n) = safe

empty_left : (rows : Rows) (v : Verdict) → rows ≡ after_each (installed_writes (record { request = None; writes = empty; verdict = v } ∷ [])) rows
empty_left rows Commit = sym (after_writes-empty rows)
empty_left rows (Conflict n) = refl
empty_left rows Stale = refl
empty_left rows (Repeated n) = refl
empty_left rows (Taken n) = refl

addition_kept : (w : Setting) (h : History) (p : StoredProcedure) → IsKept w h → IsSafe w.tables p → IsKept w (with_item w h (AdditionItem p))
unfolding certified_item database_after_item
addition_kept w h p kept safe =
    let v = (certified_item w h (AdditionItem p)).verdict in
    snoc_kept w h (certified_item w h (AdditionItem p)) (database_after_item w h (AdditionItem p) (certified_item w h (AdditionItem p)).verdict) kept
    (kept.fit (length h.certified) (omega arith))
    (empty_left (database_now h).rows (certified_item w h (AdditionItem p)).verdict)
    (safe_after w.tables (database_now h).procedures p (kept.safe (length h.certified) (omega arith)) safe (certified_item w h (AdditionItem p)).verdict)

-- ---- an item

-- a call that fits the procedures of its snapshot, or a safe addition
abbrev pub IsNext : Setting → History → Item → Type 0
IsNext w h (CallItem call) = FitsProcedures (procedures_begun h call) call
IsNext w h (AdditionItem p) = IsSafe w.tables p

pub item_kept : (w : Setting) (h : History) (item : Item) → IsKept w h → IsNext w h item → IsPlaced (length h.certified) item → IsKept w (with_item w h item)
item_kept w h (CallItem call) kept is le = call_kept w h call kept is le
item_kept w h (AdditionItem p) kept is le = addition_kept w h p kept is

pub count_with_item : (w : Setting) (h : History) (item : Item) → length (with_item w h item).certified ≡ suc (length h.certified)
count_with_item w h item = length-append h.certified _ ∙ (let e : length h.certified + 1 ≡ suc (length h.certified) = omega arith in e)
