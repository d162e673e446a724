-- What is told of a script that ends before its end.
use Rattle.std.proofs.Common.{◌≡◌, ◌⊎◌, inl, inr, ℕ, List, Option, Some, None, IfSome, refl}
use Rattle.script.specs.Telling.{FAILED, status_of_cause}
use Rattle.script.specs.declared.cause.FaultCause.{FaultCause}
use Rattle.script.specs.declared.cause.FaultCause.TheVariants.{Line, Place, Table, Program, Refused, Procedure, NoMemory, Row, Request, Session}

-- of bytes, where they are known
pub if_known : (a : Option (List ℕ)) (P : List ℕ → Type 0) → ((bytes : List ℕ) → a ≡ Some bytes → P bytes) → IfSome a P
if_known None P h = tt
if_known (Some bytes) P h = h bytes refl

-- a fault is a want of memory, or the script's
pub memory_or_not : (cause : FaultCause) (status : ℕ) → status ≡ status_of_cause cause → (status ≡ FAILED) ⊎ (status ≡ 1)
memory_or_not (Line fault) status e = inr e
memory_or_not Place status e = inr e
memory_or_not (Table fault) status e = inr e
memory_or_not (Program fault) status e = inr e
memory_or_not (Refused refusal) status e = inr e
memory_or_not (Procedure fault) status e = inr e
memory_or_not NoMemory status e = inl e
memory_or_not (Row fault) status e = inr e
memory_or_not (Request fault) status e = inr e
memory_or_not Session status e = inr e
