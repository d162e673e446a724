-- Whether a program is accepted, and if not, why.
use Rattle.std.specs.Prelude.{ℕ, zero, suc, length, Option, Some, None}
use Rattle.bpf_verify.specs.Refusal.{Cause}
use Rattle.bpf_verify.specs.declared.refusal.Refusal.{Refusal}
use Rattle.bpf_verify.specs.declared.refusal.Refusal.TheVariants.{At}
use Rattle.bpf_verify.specs.Flow.{Procedure, cause_at}

abbrev pub at_slot_or : ℕ → Option Cause → Option Refusal → Option Refusal
at_slot_or slot (Some cause) later = Some (At slot cause)
at_slot_or slot None later = later

-- the lowest of so many slots from this one on whose instruction is refused, and its lowest cause
unfoldable pub refusal_from : Procedure → ℕ → ℕ → Option Refusal
refusal_from p slot zero = None
refusal_from p slot (suc n) = at_slot_or slot (cause_at p slot) (refusal_from p (suc slot) n)

-- why a procedure isn't accepted; None where it is
abbrev pub refusal_of : Procedure → Option Refusal
refusal_of p = refusal_from p 0 (length p.program)
