-- How much of a log commits, counted position by position.
use Rattle.std.proofs.Common.{◌≡◌, ℕ, zero, suc, ◌+◌, ◌≤◌, ◌<◌, Bool, true, false, cond, List, [], ◌∷◌, length, take, get_or, slice_get, Some, None, option_map, refl, sym, ap, ◌∙◌, arith}
use Rattle.std.specs.Prelude.{count_by}
use Rattle.std.proofs.lemmas.List.{take_all}
use Rattle.std.proofs.lemmas.List.Sums.{count_by_more_yes, count_by_more_no}
use Rattle.log_model.specs.declared.verdict.Verdict.{Verdict}
use Rattle.log_model.specs.Log.{Setting, Log, CertifiedItem, is_commit, verdict_of, history}
use Rattle.locked_replica.specs.Commits.{commits_of}

abbrev commits : CertifiedItem → Bool
commits c = is_commit c.verdict

-- of the first so many
abbrev pub commits_before : Setting → Log → ℕ → ℕ
commits_before w log n = count_by commits (take n (history w log).certified)

there : (cs : List CertifiedItem) (k : ℕ) (v : Verdict) → option_map (λ c. c.verdict) (slice_get cs k) ≡ Some v → (k < length cs) × ((d : CertifiedItem) → (get_or cs k d).verdict ≡ v)
there [] k v e = absurd cc
there (c ∷ cs) zero v e = (omega arith, λ d. cc)
there (c ∷ cs) (suc k) v e = let rest = there cs k v e in (omega (arith, rest.0), rest.1)

beyond : (cs : List CertifiedItem) (k : ℕ) → option_map (λ c. c.verdict) (slice_get cs k) ≡ None → length cs ≤ k
beyond [] k e = omega arith
beyond (c ∷ cs) zero e = absurd cc
beyond (c ∷ cs) (suc k) e = let rest = beyond cs k e in omega arith

placed : (w : Setting) (log : Log) (k : ℕ) (v : Verdict) → verdict_of w log (k + 1) ≡ Some v → (k < length (history w log).certified) × ((d : CertifiedItem) → (get_or (history w log).certified k d).verdict ≡ v)
placed w log k v e = let next : k + 1 ≡ suc k = omega arith in there (history w log).certified k v (ap (verdict_of w log) (sym next) ∙ e)

first_of : (cs : List CertifiedItem) → 0 < length cs → CertifiedItem
first_of [] lt = absurd (omega arith)
first_of (c ∷ cs) lt = c

one_by : (b : Bool) (n m count one : ℕ) → count ≡ n → one ≡ cond b 1 0 → (b ≡ true → m ≡ n + 1) → (b ≡ false → m ≡ n) → count + one ≡ m
one_by true n m count one is of_one up same = let y = up refl in omega arith
one_by false n m count one is of_one up same = let y = same refl in omega arith

-- one more
pub counted : (w : Setting) (log : Log) (k count one : ℕ) (v : Verdict) → count ≡ commits_before w log k → verdict_of w log (k + 1) ≡ Some v → one ≡ cond (is_commit v) 1 0 → count + one ≡ commits_before w log (k + 1)
counted w log k count one v is e of_one =
    let at = placed w log k v e in
    let cs = (history w log).certified in
    let d = first_of cs (let lt = at.0 in omega arith) in
    let same : commits (get_or cs k d) ≡ is_commit v = ap is_commit (at.1 d) in
    one_by (is_commit v) (commits_before w log k) (commits_before w log (k + 1)) count one is of_one
    (λ b. count_by_more_yes commits cs k d at.0 (same ∙ b)) (λ b. count_by_more_no commits cs k d at.0 (same ∙ b))

-- all of them
pub all_counted : (w : Setting) (log : Log) (n count : ℕ) → count ≡ commits_before w log n → verdict_of w log (suc n) ≡ None → count ≡ commits_of w log
all_counted w log n count is none =
    is ∙ ap (count_by commits) (take_all n (history w log).certified (beyond (history w log).certified n none))
