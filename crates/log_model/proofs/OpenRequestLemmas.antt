-- The request that a call is begun with.
use Rattle.std.proofs.Common.{◌≡◌, ◌⊎◌, inl, inr, ◌↔◌, ℕ, Bool, true, false, ◌&&◌, ◌||◌, cond, nat_eq, Some, None, IsTrue, refl, ap, ◌∙◌, arith}
use Rattle.std.proofs.lemmas.Bool.Decides.{nat_tests}
use Rattle.log_model.specs.declared.request.RequestId.{RequestId}
use Rattle.log_model.specs.OpenRequest.{given_request, has_zero}

zero_in : (m n : ℕ) → (nat_eq m 0 || nat_eq n 0) ≡ true → (m ≡ 0) ⊎ (n ≡ 0)
zero_in m n e = elim (nat_eq m 0) as (λ (b : Bool). nat_eq m 0 ≡ b → (b || nat_eq n 0) ≡ true → (m ≡ 0) ⊎ (n ≡ 0)) [
  | true ↦ λ f g. inl (is_zero m f)
  | false ↦ λ f g. inr (is_zero n g)
] refl e
  where
    is_zero : (k : ℕ) → nat_eq k 0 ≡ true → k ≡ 0
    is_zero k f = grind (arith, nat_tests)

in_zero : (m n : ℕ) → (m ≡ 0) ⊎ (n ≡ 0) → (nat_eq m 0 || nat_eq n 0) ≡ true
in_zero m n (inl e) = ap (λ (k : ℕ). nat_eq k 0 || nat_eq n 0) e
in_zero m n (inr e) = ap (λ (k : ℕ). nat_eq m 0 || nat_eq k 0) e ∙ or_true (nat_eq m 0)
  where
    or_true : (b : Bool) → (b || true) ≡ true
    or_true true = refl
    or_true false = refl

pub zero_in_words : (request : RequestId) → IsTrue (has_zero (Some request)) ↔ ((request.session ≡ 0) ⊎ (request.sequence ≡ 0))
zero_in_words request = (zero_in request.session request.sequence, in_zero request.session request.sequence)

none_by : (m n : ℕ) → given_request m n ≡ None → (m ≡ 0) × (n ≡ 0)
none_by m n e = elim (nat_eq m 0) as (λ (b : Bool). nat_eq m 0 ≡ b → cond (b && nat_eq n 0) None (Some (both m n)) ≡ None → (m ≡ 0) × (n ≡ 0)) [
  | false ↦ λ f g. absurd cc
  | true ↦ λ f g. elim (nat_eq n 0) as (λ (b : Bool). nat_eq n 0 ≡ b → cond b None (Some (both m n)) ≡ None → (m ≡ 0) × (n ≡ 0)) [
    | false ↦ λ h k. absurd cc
    | true ↦ λ h k. (is_zero m f, is_zero n h)
  ] refl g
] refl e
  where
    both : ℕ → ℕ → RequestId
    both m n = record { session = m; sequence = n }

    is_zero : (k : ℕ) → nat_eq k 0 ≡ true → k ≡ 0
    is_zero k f = grind (arith, nat_tests)

by_none : (m n : ℕ) → (m ≡ 0) × (n ≡ 0) → given_request m n ≡ None
by_none m n (e, f) = ap (λ (k : ℕ). given_request k n) e ∙ ap (given_request 0) f

pub none_in_words : (m n : ℕ) → (given_request m n ≡ None) ↔ ((m ≡ 0) × (n ≡ 0))
none_in_words m n = (none_by m n, by_none m n)

pub given_in_words : (m n : ℕ) (request : RequestId) → given_request m n ≡ Some request → request ≡ record { session = m; sequence = n }
given_in_words m n request e = by (nat_eq m 0 && nat_eq n 0) e
  where
    by : (b : Bool) → cond b None (Some (record { session = m; sequence = n })) ≡ Some request → request ≡ record { session = m; sequence = n }
    by true f = absurd cc
    by false f = cc
