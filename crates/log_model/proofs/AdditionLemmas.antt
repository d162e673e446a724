-- What becomes of an addition.
use Rattle.std.proofs.Common.{◌≡◌, ◌↔◌, ℕ, suc, cond, is_some, Option, Some, None, IsSome, slice_get, option_map, refl, sym, ap, ◌∙◌}
use Rattle.log_model.specs.declared.verdict.Identifier.TheVariants.{Name, Number}
use Rattle.log_model.specs.declared.verdict.Verdict.{Verdict}
use Rattle.log_model.specs.declared.verdict.Verdict.TheVariants.{Commit, Taken}
use Rattle.log_model.specs.Log.{StoredProcedure, Setting, AdditionItem, Log, IsLog, CertifiedItem, by_number, by_name, verdict_on_addition, procedures_after, verdict_of}
use Rattle.log_model.proofs.RunLemmas.{just}
use Rattle.log_model.proofs.CallLemmas.{addition_is}

pub addition_verdict : (w : Setting) (log : Log) (d : ℕ) (p : StoredProcedure) → IsLog log → slice_get log d ≡ Some (AdditionItem p) → verdict_of w log (suc d) ≡ Some (verdict_on_addition (procedures_after w log d) p)
addition_verdict w log d p below e = ap (option_map (λ (c : CertifiedItem). c.verdict)) (addition_is w log d p below e)

abbrev by_tests : Option StoredProcedure → Option StoredProcedure → Verdict
by_tests named numbered = cond (is_some named) (Taken Name) (cond (is_some numbered) (Taken Number) Commit)

name_is : (a b : Option StoredProcedure) → just (by_tests a b) ≡ just (Taken Name) ↔ IsSome a
name_is (Some p) b = (λ e. refl, λ h. refl)
name_is None (Some q) = (λ e. absurd cc, λ h. absurd cc)
name_is None None = (λ e. absurd cc, λ h. absurd cc)

number_is : (a b : Option StoredProcedure) → just (by_tests a b) ≡ just (Taken Number) ↔ ((a ≡ None) × IsSome b)
number_is (Some p) b = (λ e. absurd cc, λ h. absurd (let x = h.0 in cc))
number_is None (Some q) = (λ e. (refl, refl), λ h. refl)
number_is None None = (λ e. absurd cc, λ h. absurd (let x = h.1 in cc))

commit_is : (a b : Option StoredProcedure) → just (by_tests a b) ≡ just Commit ↔ ((a ≡ None) × (b ≡ None))
commit_is (Some p) b = (λ e. absurd cc, λ h. absurd (let x = h.0 in cc))
commit_is None (Some q) = (λ e. absurd cc, λ h. absurd (let x = h.1 in cc))
commit_is None None = (λ e. (refl, refl), λ h. refl)

pub name_taken : (w : Setting) (log : Log) (d : ℕ) (p : StoredProcedure) → IsLog log → slice_get log d ≡ Some (AdditionItem p) → (verdict_of w log (suc d) ≡ Some (Taken Name)) ↔ IsSome (by_name (procedures_after w log d) p.name)
name_taken w log d p below e =
    let known = addition_verdict w log d p below e in
    let is = name_is (by_name (procedures_after w log d) p.name) (by_number (procedures_after w log d) p.number) in
    (λ v. is.0 (sym known ∙ v), λ h. known ∙ is.1 h)

pub number_taken : (w : Setting) (log : Log) (d : ℕ) (p : StoredProcedure) → IsLog log → slice_get log d ≡ Some (AdditionItem p) → (verdict_of w log (suc d) ≡ Some (Taken Number)) ↔ ((by_name (procedures_after w log d) p.name ≡ None) × IsSome (by_number (procedures_after w log d) p.number))
number_taken w log d p below e =
    let known = addition_verdict w log d p below e in
    let is = number_is (by_name (procedures_after w log d) p.name) (by_number (procedures_after w log d) p.number) in
    (λ v. is.0 (sym known ∙ v), λ h. known ∙ is.1 h)

pub addition_commits : (w : Setting) (log : Log) (d : ℕ) (p : StoredProcedure) → IsLog log → slice_get log d ≡ Some (AdditionItem p) → (verdict_of w log (suc d) ≡ Some Commit) ↔ ((by_name (procedures_after w log d) p.name ≡ None) × (by_number (procedures_after w log d) p.number ≡ None))
addition_commits w log d p below e =
    let known = addition_verdict w log d p below e in
    let is = commit_is (by_name (procedures_after w log d) p.name) (by_number (procedures_after w log d) p.number) in
    (λ v. is.0 (sym known ∙ v), λ h. known ∙ is.1 h)
