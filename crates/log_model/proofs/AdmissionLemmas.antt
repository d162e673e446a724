-- The cases of an admission.
use Rattle.std.proofs.Common.{◌≡◌, ◌≢◌, ℕ, Bool, true, false, not, cond, List, length, nat_eq, Option, Some, None, Result, Ok, Err, refl, ap, ◌∙◌, arith}
use Rattle.std.proofs.lemmas.Bool.Decides.{nat_tests}
use Rattle.log_model.specs.declared.request.RequestId.{RequestId}
use Rattle.log_model.specs.declared.refusal.CallRefusal.{CallRefusal}
use Rattle.log_model.specs.declared.refusal.CallRefusal.TheVariants.{NoProcedure, ArgumentsLength, ZeroInRequest}
use Rattle.log_model.specs.OpenRequest.{has_zero}
use Rattle.log_model.specs.Log.{StoredProcedure}
use Rattle.log_model.specs.Admission.{admission}

pub data AdmissionCase (args : List ℕ) (request : Option RequestId) (o : Option StoredProcedure) : Type 0 where
  Unknown : o ≡ None → admission args request o ≡ Err NoProcedure → AdmissionCase args request o
  Unfit : (p : StoredProcedure) → o ≡ Some p → length args ≢ p.args_len → admission args request o ≡ Err ArgumentsLength → AdmissionCase args request o
  Zero : (p : StoredProcedure) → o ≡ Some p → length args ≡ p.args_len → has_zero request ≡ true → admission args request o ≡ Err ZeroInRequest → AdmissionCase args request o
  Admitted : (p : StoredProcedure) → o ≡ Some p → length args ≡ p.args_len → has_zero request ≡ false → admission args request o ≡ Ok p → AdmissionCase args request o

abbrev Answer : Type 0
Answer = Result StoredProcedure CallRefusal

other_length : (m n : ℕ) → not (nat_eq n m) ≡ true → m ≢ n
other_length m n e = grind (arith, nat_tests)

same_length : (m n : ℕ) → not (nat_eq n m) ≡ false → m ≡ n
same_length m n e = grind (arith, nat_tests)

is_other : (m n : ℕ) → m ≢ n → not (nat_eq n m) ≡ true
is_other m n e = grind (arith, nat_tests)

is_same : (m n : ℕ) → m ≡ n → not (nat_eq n m) ≡ false
is_same m n e = grind (arith, nat_tests)

-- a procedure that is there
tested : Bool → Bool → StoredProcedure → Answer
tested a b p = cond a (Err ArgumentsLength) (cond b (Err ZeroInRequest) (Ok p))

tests : (args : List ℕ) (request : Option RequestId) (p : StoredProcedure) (a b : Bool) → not (nat_eq p.args_len (length args)) ≡ a → has_zero request ≡ b
    → admission args request (Some p) ≡ tested a b p
unfolding tested
tests args request p a b e f = ap (λ x. tested x (has_zero request) p) e ∙ ap (λ x. tested a x p) f

pub unfit : (args : List ℕ) (request : Option RequestId) (p : StoredProcedure) → length args ≢ p.args_len → admission args request (Some p) ≡ Err ArgumentsLength
unfolding tested
unfit args request p other = tests args request p true (has_zero request) (is_other (length args) p.args_len other) refl

pub zero_in : (args : List ℕ) (request : Option RequestId) (p : StoredProcedure) → length args ≡ p.args_len → has_zero request ≡ true → admission args request (Some p) ≡ Err ZeroInRequest
unfolding tested
zero_in args request p same has = tests args request p false true (is_same (length args) p.args_len same) has

pub admitted : (args : List ℕ) (request : Option RequestId) (p : StoredProcedure) → length args ≡ p.args_len → has_zero request ≡ false → admission args request (Some p) ≡ Ok p
unfolding tested
admitted args request p same has = tests args request p false false (is_same (length args) p.args_len same) has

pub admission_case : (args : List ℕ) (request : Option RequestId) (o : Option StoredProcedure) → AdmissionCase args request o
admission_case args request None = Unknown refl refl
admission_case args request (Some p) = by_length (not (nat_eq p.args_len (length args))) refl
  where
    by_request : (b : Bool) → has_zero request ≡ b → length args ≡ p.args_len → AdmissionCase args request (Some p)
    by_request true e same = Zero p refl same e (zero_in args request p same e)
    by_request false e same = Admitted p refl same e (admitted args request p same e)

    by_length : (a : Bool) → not (nat_eq p.args_len (length args)) ≡ a → AdmissionCase args request (Some p)
    by_length true e = Unfit p refl (other_length (length args) p.args_len e) (unfit args request p (other_length (length args) p.args_len e))
    by_length false e = by_request (has_zero request) refl (same_length (length args) p.args_len e)

-- ---- back from the answer

pub is_unknown : (args : List ℕ) (request : Option RequestId) (o : Option StoredProcedure) → admission args request o ≡ Err NoProcedure → o ≡ None
is_unknown args request o e = elim (admission_case args request o) [
  | Unknown f g ↦ f
  | Unfit p f other g ↦ absurd cc
  | Zero p f same zero g ↦ absurd cc
  | Admitted p f same zero g ↦ absurd cc
]

pub is_unfit : (args : List ℕ) (request : Option RequestId) (o : Option StoredProcedure) → admission args request o ≡ Err ArgumentsLength
    → (p : StoredProcedure) × (o ≡ Some p) × (length args ≢ p.args_len)
is_unfit args request o e = elim (admission_case args request o) [
  | Unknown f g ↦ absurd cc
  | Unfit p f other g ↦ (p, f, other)
  | Zero p f same zero g ↦ absurd cc
  | Admitted p f same zero g ↦ absurd cc
]

pub has_a_zero : (args : List ℕ) (request : Option RequestId) (o : Option StoredProcedure) → admission args request o ≡ Err ZeroInRequest
    → (p : StoredProcedure) × (o ≡ Some p) × (length args ≡ p.args_len) × (has_zero request ≡ true)
has_a_zero args request o e = elim (admission_case args request o) [
  | Unknown f g ↦ absurd cc
  | Unfit p f other g ↦ absurd cc
  | Zero p f same zero g ↦ (p, f, same, zero)
  | Admitted p f same zero g ↦ absurd cc
]

-- what an admitted call has
pub record IsAdmitted (args : List ℕ) (request : Option RequestId) (o : Option StoredProcedure) (p : StoredProcedure) : Type 0 where
  pub found : o ≡ Some p
  pub fits : length args ≡ p.args_len
  pub whole : has_zero request ≡ false

ok_is : (p q : StoredProcedure) (answer : Answer) → answer ≡ Ok p → answer ≡ Ok q → p ≡ q
ok_is p q answer e f = cc

pub is_admitted : (args : List ℕ) (request : Option RequestId) (o : Option StoredProcedure) (q : StoredProcedure) → admission args request o ≡ Ok q → IsAdmitted args request o q
is_admitted args request o q e = elim (admission_case args request o) [
  | Unknown f g ↦ absurd cc
  | Unfit p f other g ↦ absurd cc
  | Zero p f same zero g ↦ absurd cc
  | Admitted p f same zero g ↦ let is = ok_is p q (admission args request o) g e in record { found = f ∙ ap Some is; fits = same ∙ ap (λ (p : StoredProcedure). p.args_len) is; whole = zero }
]

-- the procedure that was found is the one that the call runs
pub admits : (args : List ℕ) (request : Option RequestId) (p q : StoredProcedure) → admission args request (Some p) ≡ Ok q → admission args request (Some p) ≡ Ok p
admits args request p q e = e ∙ ap Ok (one q p (is_admitted args request (Some p) q e).found)
  where
    one : (a b : StoredProcedure) → Some b ≡ Some a → a ≡ b
    one a b e = cc
