-- Verdicts and comparisons, item by item.
use Rattle.std.proofs.Common.{◌≡◌, inl, inr, ℕ, suc, ◌+◌, ◌-◌, ◌≤◌, ◌<◌, Bool, true, false, List, [], ◌∷◌, ◌++◌, length, map, drop, min, get_or, nat_le, Option, Some, None, refl, sym, ap, ◌∙◌, cond, arith}
use Rattle.std.specs.Prelude.{is_some}
use Rattle.std.proofs.lemmas.List.{drop_all}
use Rattle.std.proofs.Math.Seq.{drop-cons}
use Rattle.std.proofs.lemmas.Bool.{cases_lt}
use Rattle.schema.specs.declared.look.Look.{Look}
use Rattle.log_model.specs.declared.verdict.Verdict.TheVariants.{Stale}
use Rattle.log_model.specs.Log.{CertifiedItem, Call, conflicts, first_position, first_repeated, unless_conflict}
use Rattle.certify.specs.Comparisons.{comparisons_from, comparisons_after}
use Rattle.plain_replayer.specs.Report.{Report}
use Rattle.plain_replayer.specs.Replay.{certified_of, comparison_at, comparisons_on_new, verdict_on_new}

pub drop_min : {A : Type 0} (n : ℕ) (xs : List A) → drop (min n (length xs)) xs ≡ drop n xs
drop_min n xs = elim (cases_lt n (length xs)) [
  | inl below ↦ let same : min n (length xs) ≡ n = omega arith in ap (λ (k : ℕ). drop k xs) same
  | inr past ↦ drop_all (min n (length xs)) xs (omega arith) ∙ sym (drop_all n xs past)
]

pub length_map : {A B : Type 0} (f : A → B) (xs : List A) → length (map f xs) ≡ length xs
length_map f [] = refl
length_map f (x ∷ xs) = ap suc (length_map f xs)

-- the items from a place on
pub from_place : (reports : List Report) (i : ℕ) (report d : Report) → i < length reports → report ≡ get_or reports i d → map certified_of (drop i reports) ≡ certified_of report ∷ map certified_of (drop (i + 1) reports)
from_place reports i report d lt is =
    let later : suc i ≡ i + 1 = omega arith in
    ap (map certified_of) (drop-cons reports i d lt)
    ∙ (λ j. certified_of (sym is j) ∷ map certified_of (drop (later j) reports))

-- ---- the first that passes a test

pub found_here : (test : CertifiedItem → Bool) (position : ℕ) (reports : List Report) (i : ℕ) (report d : Report) → i < length reports → report ≡ get_or reports i d → test (certified_of report) ≡ true → first_position test position (map certified_of (drop i reports)) ≡ Some position
unfolding first_position
found_here test position reports i report d lt is passes =
    ap (first_position test position) (from_place reports i report d lt is)
    ∙ ap (λ b. cond b (Some position) (first_position test (position + 1) (map certified_of (drop (i + 1) reports)))) passes

pub found_later : (test : CertifiedItem → Bool) (position : ℕ) (reports : List Report) (i : ℕ) (report d : Report) → i < length reports → report ≡ get_or reports i d → test (certified_of report) ≡ false → first_position test position (map certified_of (drop i reports)) ≡ first_position test (position + 1) (map certified_of (drop (i + 1) reports))
unfolding first_position
found_later test position reports i report d lt is fails =
    ap (first_position test position) (from_place reports i report d lt is)
    ∙ ap (λ b. cond b (Some position) (first_position test (position + 1) (map certified_of (drop (i + 1) reports)))) fails

pub not_found : (test : CertifiedItem → Bool) (position : ℕ) (reports : List Report) (i : ℕ) → length reports ≤ i → first_position test position (map certified_of (drop i reports)) ≡ None
unfolding first_position
not_found test position reports i past = ap (λ (l : List Report). first_position test position (map certified_of l)) (drop_all i reports past)

-- ---- the comparisons up to the first that conflicts

pub compared_last : (looks : List Look) (position : ℕ) (c : CertifiedItem) (later : List CertifiedItem) → conflicts looks c ≡ true → comparisons_from looks position (c ∷ later) ≡ comparison_at looks position c ++ []
unfolding comparisons_from
compared_last looks position c later is = ap (λ b. comparison_at looks position c ++ cond b [] (comparisons_from looks (position + 1) later)) is

pub compared_on : (looks : List Look) (position : ℕ) (c : CertifiedItem) (later : List CertifiedItem) → conflicts looks c ≡ false → comparisons_from looks position (c ∷ later) ≡ comparison_at looks position c ++ comparisons_from looks (position + 1) later
unfolding comparisons_from
compared_on looks position c later is = ap (λ b. comparison_at looks position c ++ cond b [] (comparisons_from looks (position + 1) later)) is

pub none_compared : (looks : List Look) (position : ℕ) (reports : List Report) (i : ℕ) → length reports ≤ i → comparisons_from looks position (map certified_of (drop i reports)) ≡ []
unfolding comparisons_from
none_compared looks position reports i past = ap (λ (l : List Report). comparisons_from looks position (map certified_of l)) (drop_all i reports past)

-- ---- a call that is repeated, one that is stale, and one that is neither

pub stale_verdict : (window : ℕ) (past : List CertifiedItem) (call : Call) (looks : List Look) (snapshot : ℕ) → snapshot ≡ call.snapshot
    → nat_le (length past - snapshot) window ≡ false → Stale ≡ verdict_on_new window past call looks
stale_verdict window past call looks snapshot at is =
    sym (ap (λ (s : ℕ). cond (nat_le (length past - s) window) (unless_conflict (first_position (conflicts looks) (s + 1) (drop s past))) Stale) (sym at)
    ∙ ap (λ b. cond b (unless_conflict (first_position (conflicts looks) (snapshot + 1) (drop snapshot past))) Stale) is)

pub recent_verdict : (window : ℕ) (past : List CertifiedItem) (call : Call) (looks : List Look) (snapshot : ℕ) → snapshot ≡ call.snapshot
    → nat_le (length past - snapshot) window ≡ true → unless_conflict (first_position (conflicts looks) (snapshot + 1) (drop snapshot past)) ≡ verdict_on_new window past call looks
recent_verdict window past call looks snapshot at is =
    sym (ap (λ (s : ℕ). cond (nat_le (length past - s) window) (unless_conflict (first_position (conflicts looks) (s + 1) (drop s past))) Stale) (sym at)
    ∙ ap (λ b. cond b (unless_conflict (first_position (conflicts looks) (snapshot + 1) (drop snapshot past))) Stale) is)

pub stale_comparisons : (window : ℕ) (past : List CertifiedItem) (call : Call) (looks : List Look) (snapshot : ℕ) → snapshot ≡ call.snapshot
    → nat_le (length past - snapshot) window ≡ false → [] ≡ comparisons_on_new window past call looks
stale_comparisons window past call looks snapshot at is =
    sym (ap (λ (s : ℕ). cond (nat_le (length past - s) window) (comparisons_from looks (s + 1) (drop s past)) []) (sym at)
    ∙ ap (λ b. cond b (comparisons_from looks (snapshot + 1) (drop snapshot past)) []) is)

pub recent_comparisons : (window : ℕ) (past : List CertifiedItem) (call : Call) (looks : List Look) (snapshot : ℕ) → snapshot ≡ call.snapshot
    → nat_le (length past - snapshot) window ≡ true → comparisons_from looks (snapshot + 1) (drop snapshot past) ≡ comparisons_on_new window past call looks
recent_comparisons window past call looks snapshot at is =
    sym (ap (λ (s : ℕ). cond (nat_le (length past - s) window) (comparisons_from looks (s + 1) (drop s past)) []) (sym at)
    ∙ ap (λ b. cond b (comparisons_from looks (snapshot + 1) (drop snapshot past)) []) is)

-- by the position of the call that is repeated
pub comparisons_by_first : (window : ℕ) (past : List CertifiedItem) (call : Call) (looks : List Look) (first : Option ℕ) → first ≡ first_repeated [] past call
    → cond (is_some first) [] (comparisons_on_new window past call looks) ≡ comparisons_after window [] past call looks
unfolding comparisons_after
comparisons_by_first window past call looks first found = ap (λ (o : Option ℕ). cond (is_some o) [] (comparisons_on_new window past call looks)) found
