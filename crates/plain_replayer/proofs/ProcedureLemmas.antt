-- The procedures after some items, one item after another.
use Rattle.std.proofs.Common.{◌≡◌, inl, inr, ℕ, suc, ◌+◌, ◌≤◌, ◌<◌, Bool, true, false, List, [], ◌∷◌, ◌++◌, length, take, drop, get_or, nat_le, Option, Some, None, refl, sym, ap, ◌∙◌, cond, arith}
use Rattle.std.specs.Prelude.{slice_get}
use Rattle.std.specs.List.{find, cons_option}
use Rattle.std.specs.Option.{option_or}
use Rattle.std.proofs.lemmas.List.{append-nil, append_assoc, drop_all, length-append, take-append-le, take_all, take-take, get_or_past, get_or_at, length-take-le}
use Rattle.std.proofs.lemmas.List.Folds.{find-append}
use Rattle.std.proofs.lemmas.Bool.{cases_lt}
use Rattle.std.proofs.lemmas.Bool.Decides.{nat_tests}
use Rattle.std.proofs.Math.ListN.{get_or-append}
use Rattle.std.proofs.Math.Seq.{drop-cons}
use Rattle.log_model.specs.declared.verdict.Verdict.{Verdict}
use Rattle.log_model.specs.declared.verdict.Verdict.TheVariants.{Commit, Conflict, Stale, Repeated, Taken}
use Rattle.log_model.specs.Log.{StoredProcedure, Catalogue, by_number, Setting, Call, Item, CallItem, AdditionItem, Log, History, Database, no_database, database_now, database_after_item}
use Rattle.plain_replayer.specs.Report.{Report}
use Rattle.plain_replayer.specs.Replay.{added_by, added_from, passes, procedures_of, procedures_at}

-- ---- the search

-- what items add from a place on
pub added_here : (log : Log) (n : ℕ) (reports : List Report) (i : ℕ) (report d : Report) → i < length reports → report ≡ get_or reports i d
    → added_from log n (drop i reports) ≡ cons_option (added_by (slice_get log n) report.verdict) (added_from log (n + 1) (drop (i + 1) reports))
unfolding added_from
added_here log n reports i report d lt is =
    let later : suc i ≡ i + 1 = omega arith in
    ap (added_from log n) (drop-cons reports i d lt)
    ∙ (λ j. cons_option (added_by (slice_get log n) (sym is j).verdict) (added_from log (n + 1) (drop (later j) reports)))

pub none_added : (log : Log) (n : ℕ) (reports : List Report) (i : ℕ) → length reports ≤ i → added_from log n (drop i reports) ≡ []
unfolding added_from
none_added log n reports i past = ap (added_from log n) (drop_all i reports past)

pub found_here : (test : StoredProcedure → Bool) (o : Option StoredProcedure) (later : Catalogue) → passes test o ≡ true → find test (cons_option o later) ≡ o
found_here test None later e = absurd cc
found_here test (Some p) later e = ap (λ b. cond b (Some p) (find test later)) e

pub found_later : (test : StoredProcedure → Bool) (o : Option StoredProcedure) (later : Catalogue) → passes test o ≡ false → find test (cons_option o later) ≡ find test later
found_later test None later e = refl
found_later test (Some p) later e = ap (λ b. cond b (Some p) (find test later)) e

pub in_first : (test : StoredProcedure → Bool) (xs ys : Catalogue) (p : StoredProcedure) → Some p ≡ find test xs → Some p ≡ find test (xs ++ ys)
in_first test xs ys p e = sym (find-append test xs ys ∙ ap (λ (o : Option StoredProcedure). option_or o (find test ys)) (sym e))

pub in_second : (test : StoredProcedure → Bool) (xs ys : Catalogue) (o : Option StoredProcedure) → None ≡ find test xs → o ≡ find test ys → o ≡ find test (xs ++ ys)
in_second test xs ys o e f = f ∙ sym (find-append test xs ys ∙ ap (λ (o : Option StoredProcedure). option_or o (find test ys)) (sym e))

-- the search goes on
pub search_on : (test : StoredProcedure → Bool) (log : Log) (reports : List Report) (place : ℕ) (report d : Report) (o : Option StoredProcedure) (verdict : Verdict) (has : Bool)
    → place < length reports → report ≡ get_or reports place d → verdict ≡ report.verdict → o ≡ added_by (slice_get log place) verdict → has ≡ passes test o → has ≡ false
    → find test (added_from log place (drop place reports)) ≡ find test (added_from log (place + 1) (drop (place + 1) reports))
search_on test log reports place report d o verdict has lt is said added tested failed =
    ap (find test) (added_here log place reports place report d lt is)
    ∙ (λ i. find test (cons_option ((ap (added_by (slice_get log place)) (sym said) ∙ sym added) i) (added_from log (place + 1) (drop (place + 1) reports))))
    ∙ found_later test o (added_from log (place + 1) (drop (place + 1) reports)) (sym tested ∙ failed)

-- and ends here
pub search_ends : (test : StoredProcedure → Bool) (log : Log) (reports : List Report) (place : ℕ) (report d : Report) (o : Option StoredProcedure) (verdict : Verdict) (has : Bool)
    → place < length reports → report ≡ get_or reports place d → verdict ≡ report.verdict → o ≡ added_by (slice_get log place) verdict → has ≡ passes test o → has ≡ true
    → find test (added_from log place (drop place reports)) ≡ o
search_ends test log reports place report d o verdict has lt is said added tested passed =
    ap (find test) (added_here log place reports place report d lt is)
    ∙ (λ i. find test (cons_option ((ap (added_by (slice_get log place)) (sym said) ∙ sym added) i) (added_from log (place + 1) (drop (place + 1) reports))))
    ∙ found_here test o (added_from log (place + 1) (drop (place + 1) reports)) (sym tested ∙ passed)

-- ---- at a position

is_within : (m n : ℕ) → m ≤ n → nat_le m n ≡ true
is_within m n h = grind (arith, nat_tests)

is_beyond : (m n : ℕ) → n < m → nat_le m n ≡ false
is_beyond m n h = grind (arith, nat_tests)

pub at_within : (w : Setting) (log : Log) (reports : List Report) (p : ℕ) → p ≤ length reports → procedures_at w log reports p ≡ procedures_of w log (take p reports)
at_within w log reports p h = ap (λ b. cond b (procedures_of w log (take p reports)) []) (is_within p (length reports) h)

pub at_beyond : (w : Setting) (log : Log) (reports : List Report) (p : ℕ) → length reports < p → procedures_at w log reports p ≡ []
at_beyond w log reports p h = ap (λ b. cond b (procedures_of w log (take p reports)) []) (is_beyond p (length reports) h)

pub at_last : (w : Setting) (log : Log) (reports : List Report) → procedures_at w log reports (length reports) ≡ procedures_of w log reports
at_last w log reports =
    at_within w log reports (length reports) (omega arith)
    ∙ ap (procedures_of w log) (take_all (length reports) reports (omega arith))

pub of_snapshot : (w : Setting) (log : Log) (past before : List Report) (snapshot : ℕ) (call : Call) (number : ℕ) → before ≡ take snapshot past → snapshot ≡ call.snapshot → snapshot ≤ length past
    → number ≡ call.procedure → by_number (procedures_of w log before) number ≡ by_number (procedures_at w log past call.snapshot) call.procedure
of_snapshot w log past before snapshot call number front at within same =
    (λ i. by_number (procedures_of w log ((front ∙ ap (λ (s : ℕ). take s past) at) i)) (same i))
    ∙ ap (λ (ps : Catalogue). by_number ps call.procedure) (sym (at_within w log past call.snapshot (omega arith)))

pub none_at_snapshot : (w : Setting) (log : Log) (past : List Report) (snapshot : ℕ) (call : Call) → snapshot ≡ call.snapshot → length past < snapshot
    → None ≡ by_number (procedures_at w log past call.snapshot) call.procedure
none_at_snapshot w log past snapshot call at beyond = ap (λ (ps : Catalogue). by_number ps call.procedure) (sym (at_beyond w log past call.snapshot (omega arith)))

-- what is said of items in between doesn't matter
pub at_shorter : (w : Setting) (log : Log) (reports : List Report) (p n : ℕ) → p ≤ n → n ≤ length reports → procedures_at w log (take n reports) p ≡ procedures_at w log reports p
at_shorter w log reports p n below within =
    let count : length (take n reports) ≡ n = length-take-le n reports within in
    at_within w log (take n reports) p (omega arith)
    ∙ ap (procedures_of w log) (take-take p n reports below)
    ∙ sym (at_within w log reports p (omega arith))

-- ---- one more item

cons-append : (o : Option StoredProcedure) (xs ys : Catalogue) → cons_option o (xs ++ ys) ≡ cons_option o xs ++ ys
cons-append None xs ys = refl
cons-append (Some p) xs ys = refl

added-append : (log : Log) (n : ℕ) (reports : List Report) (r : Report)
    → added_from log n (reports ++ r ∷ []) ≡ added_from log n reports ++ cons_option (added_by (slice_get log (n + length reports)) r.verdict) []
unfolding added_from
added-append log n [] r = let same : n ≡ n + 0 = omega arith in ap (λ (k : ℕ). cons_option (added_by (slice_get log k) r.verdict) []) same
added-append log n (x ∷ xs) r =
    let same : n + 1 + length xs ≡ n + suc (length xs) = omega arith in
    ap (cons_option (added_by (slice_get log n) x.verdict)) (added-append log (n + 1) xs r)
    ∙ cons-append (added_by (slice_get log n) x.verdict) (added_from log (n + 1) xs) (cons_option (added_by (slice_get log (n + 1 + length xs)) r.verdict) [])
    ∙ ap (λ (k : ℕ). cons_option (added_by (slice_get log n) x.verdict) (added_from log (n + 1) xs) ++ cons_option (added_by (slice_get log k) r.verdict) []) same

procedures-append : (w : Setting) (log : Log) (reports : List Report) (r : Report) (item : Item) → slice_get log (length reports) ≡ Some item
    → procedures_of w log (reports ++ r ∷ []) ≡ procedures_of w log reports ++ cons_option (added_by (Some item) r.verdict) []
procedures-append w log reports r item is =
    let same : 0 + length reports ≡ length reports = omega arith in
    ap (λ (ps : Catalogue). w.beginning.procedures ++ ps) (added-append log 0 reports r ∙ (λ i. added_from log 0 reports ++ cons_option (added_by ((ap (slice_get log) same ∙ is) i) r.verdict) []))
    ∙ sym (append_assoc w.beginning.procedures (added_from log 0 reports) (cons_option (added_by (Some item) r.verdict) []))

pub added_to : (w : Setting) (h : History) (item : Item) (v : Verdict) → (database_after_item w h item v).procedures ≡ (database_now h).procedures ++ cons_option (added_by (Some item) v) []
unfolding database_after_item
added_to w h (CallItem call) v = sym (append-nil (database_now h).procedures)
added_to w h (AdditionItem p) Commit = refl
added_to w h (AdditionItem p) (Conflict position) = sym (append-nil (database_now h).procedures)
added_to w h (AdditionItem p) Stale = sym (append-nil (database_now h).procedures)
added_to w h (AdditionItem p) (Repeated position) = sym (append-nil (database_now h).procedures)
added_to w h (AdditionItem p) (Taken identifier) = sym (append-nil (database_now h).procedures)

pub procedures_next : (w : Setting) (log : Log) (reports : List Report) (r : Report) (item : Item) (databases : List Database) (d : Database)
    → ((p : ℕ) → procedures_at w log reports p ≡ (get_or databases p no_database).procedures)
    → length databases ≡ suc (length reports) → slice_get log (length reports) ≡ Some item
    → d.procedures ≡ procedures_of w log reports ++ cons_option (added_by (Some item) r.verdict) []
    → (p : ℕ) → procedures_at w log (reports ++ r ∷ []) p ≡ (get_or (databases ++ d ∷ []) p no_database).procedures
procedures_next w log reports r item databases d so count is after p =
    let grown : length (reports ++ r ∷ []) ≡ length reports + 1 = length-append reports (r ∷ []) in
    let longer : length (databases ++ d ∷ []) ≡ length databases + 1 = length-append databases (d ∷ []) in
    elim (cases_lt p (suc (length reports))) [
      | inl below ↦
          at_within w log (reports ++ r ∷ []) p (omega arith)
          ∙ ap (procedures_of w log) (take-append-le p reports (r ∷ []) (omega arith))
          ∙ sym (at_within w log reports p (omega arith))
          ∙ so p
          ∙ ap (λ (e : Database). e.procedures) (sym (get_or-append databases (d ∷ []) no_database p (omega arith)))
      | inr past ↦ elim (cases_lt (suc (length reports)) p) [
        | inl beyond ↦
            at_beyond w log (reports ++ r ∷ []) p (omega arith)
            ∙ ap (λ (e : Database). e.procedures) (sym (get_or_past (databases ++ d ∷ []) p no_database (omega arith)))
        | inr last ↦
            at_within w log (reports ++ r ∷ []) p (omega arith)
            ∙ ap (procedures_of w log) (take_all p (reports ++ r ∷ []) (omega arith))
            ∙ procedures-append w log reports r item is
            ∙ sym after
            ∙ ap (λ (e : Database). e.procedures) (sym (get_or_at databases d [] no_database p (omega arith)))
      ]
    ]
