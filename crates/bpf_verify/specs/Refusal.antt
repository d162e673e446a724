-- Why a procedure isn't accepted, and how that is printed: `V4 slot 1`.
use Rattle.std.specs.Prelude.{ℕ, List, ◌++◌, codes}
use Rattle.std.specs.Fmt.{decimal}
pub use Rattle.abs_step.specs.declared.cause.Cause.{Cause}
use Rattle.abs_step.specs.Number.{cause_number}
use Rattle.bpf_verify.specs.declared.refusal.Refusal.{Refusal}
use Rattle.bpf_verify.specs.declared.refusal.Refusal.TheVariants.{At, NoMemory}
use Rattle.bpf_verify.specs.Flow.{Procedure, IsRefused}

-- memory may run out in place of any answer
abbrev pub RefusedBy : Procedure → Refusal → Type 0
RefusedBy p (At slot cause) = IsRefused p slot cause
RefusedBy p NoMemory = Unit {0}

abbrev pub numbered_text : ℕ → ℕ → List ℕ
numbered_text number slot = codes "V" ++ decimal number ++ codes " slot " ++ decimal slot

abbrev pub refusal_text : Refusal → List ℕ
refusal_text (At slot cause) = numbered_text (cause_number cause) slot
refusal_text NoMemory = numbered_text 12 0
