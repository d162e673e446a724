-- The first refused slot.
use Rattle.std.proofs.Common.{◌≡◌, ℕ, zero, suc, ◌+◌, ◌<◌, ◌≤◌, length, Option, Some, None, Ok, Err, refl, sym, ap, ◌∙◌, arith, inl, inr}
use Rattle.std.proofs.lemmas.Bool.{cases_lt}
use Rattle.std.proofs.lemmas.Option.{slice_get_past}
use Rattle.bpf_verify.specs.Refusal.{Cause}
use Rattle.bpf_code.specs.declared.instruction.Instruction.{Instruction}
use Rattle.bpf_code.specs.Program.{Program, instruction_at}
use Rattle.bpf_verify.specs.declared.refusal.Refusal.{Refusal}
use Rattle.bpf_verify.specs.declared.refusal.Refusal.TheVariants.{At}
use Rattle.bpf_verify.specs.Flow.{Procedure, cause_if, state_at, cause_at, IsAccepted, IsRefused}
use Rattle.script.specs.declared.cause.FaultCause.TheVariants.{Refused}
use Rattle.script.specs.Settings.{unless_refused, verified}
use Rattle.script.specs.Acceptance.{at_slot_or, refusal_from, refusal_of}

none_refused : (p : Procedure) (slot n : ℕ) → IsAccepted p → refusal_from p slot n ≡ None
unfolding refusal_from
none_refused p slot zero accepted = refl
none_refused p slot (suc n) accepted = ap (λ (c : Option Cause). at_slot_or slot c (refusal_from p (suc slot) n)) (accepted slot) ∙ none_refused p (suc slot) n accepted

-- an accepted procedure isn't refused
refusal_of-accepted : (p : Procedure) → IsAccepted p → refusal_of p ≡ None
refusal_of-accepted p accepted = none_refused p 0 (length p.program) accepted

first_from : (p : Procedure) (from n slot : ℕ) (cause : Cause) → from ≤ slot → slot < from + n → IsRefused p slot cause → refusal_from p from n ≡ Some (At slot cause)
unfolding refusal_from
first_from p from zero slot cause low high refused = absurd (omega arith)
first_from p from (suc n) slot cause low high refused = elim (cases_lt from slot) [
  | inl l ↦ ap (λ (c : Option Cause). at_slot_or from c (refusal_from p (suc from) n)) (refused.1 from l) ∙ first_from p (suc from) n slot cause (omega (arith, l)) (omega arith) refused
  | inr l ↦ let same : from ≡ slot = omega (arith, l) in
      ap (λ (k : ℕ). at_slot_or k (cause_at p k) (refusal_from p (suc from) n)) same ∙ ap (λ (c : Option Cause). at_slot_or slot c (refusal_from p (suc from) n)) refused.0
]

past_end : (p : Program) (j : ℕ) → length p ≤ j → instruction_at p j ≡ None
past_end p j h = rw (slice_get_past p j h)

no_cause : (p : Procedure) (slot : ℕ) → length p.program ≤ slot → cause_at p slot ≡ None
no_cause p slot past = ap (λ (i : Option Instruction). cause_if p.tables p.args_len i (state_at p slot)) (past_end p.program slot past)

-- a refused procedure is refused for this
refusal_of-refused : (p : Procedure) (slot : ℕ) (cause : Cause) → IsRefused p slot cause → refusal_of p ≡ Some (At slot cause)
refusal_of-refused p slot cause refused = elim (cases_lt slot (length p.program)) [
  | inl l ↦ first_from p 0 (length p.program) slot cause (omega arith) (omega (arith, l)) refused
  | inr l ↦ absurd (let none = sym refused.0 ∙ no_cause p slot (omega (arith, l)) in cc)
]

pub verified_accepted : (p : Procedure) → IsAccepted p → verified p ≡ Ok p
verified_accepted p accepted = ap (unless_refused p) (refusal_of-accepted p accepted)

pub verified_refused : (p : Procedure) (slot : ℕ) (cause : Cause) → IsRefused p slot cause → verified p ≡ Err (Refused (At slot cause))
verified_refused p slot cause refused = ap (unless_refused p) (refusal_of-refused p slot cause refused)

-- where no slot is refused, none of these has a cause
none_from : (p : Procedure) (from n slot : ℕ) → refusal_from p from n ≡ None → from ≤ slot → slot < from + n → cause_at p slot ≡ None
unfolding refusal_from
none_from p from zero slot e low high = absurd (omega arith)
none_from p from (suc n) slot e low high = by_cause (λ rest behind. none_from p (suc from) n slot rest (omega (arith, behind)) (omega arith)) (cause_at p from) refl e
  where
    by_cause : (refusal_from p (suc from) n ≡ None → from < slot → cause_at p slot ≡ None) → (c : Option Cause) → cause_at p from ≡ c → at_slot_or from c (refusal_from p (suc from) n) ≡ None → cause_at p slot ≡ None
    by_cause rest (Some cause) is later = absurd cc
    by_cause rest None is later = elim (cases_lt from slot) [
      | inl l ↦ rest later l
      | inr l ↦ let same : from ≡ slot = omega (arith, l) in ap (cause_at p) (sym same) ∙ is
    ]

-- what is verified is the procedure itself, and is accepted
pub accepted_where_verified : (p q : Procedure) → verified p ≡ Ok q → (q ≡ p) × IsAccepted p
accepted_where_verified p q = by_refusal (refusal_of p) refl
  where
    by_refusal : (r : Option Refusal) → refusal_of p ≡ r → unless_refused p r ≡ Ok q → (q ≡ p) × IsAccepted p
    by_refusal (Some refusal) is e = absurd cc
    by_refusal None is e = (
      let same : p ≡ q = cc in sym same,
      λ slot. elim (cases_lt slot (length p.program)) [
        | inl l ↦ none_from p 0 (length p.program) slot is (omega arith) (omega (arith, l))
        | inr l ↦ no_cause p slot (omega (arith, l))
      ],
    )
