-- What is known of the place's cell says what was seen.
use Rattle.std.proofs.Common.{◌≡◌, List, [], ◌∷◌, ◌++◌, Option, Some, sym, ap, ◌∙◌}
use Rattle.log_entry.specs.declared.entry.Entry.{Entry as LogEntry}
use Rattle.order_log.specs.declared.log.Attempt.{Attempt}
use Rattle.order_log.specs.declared.log.Attempt.TheVariants.{Taken, Passed, NoMemory}
use Rattle.order_log.specs.Attempts.{IsAttempt, IsPlacing}

some_is : {X : Type 0} (x y : X) → Some x ≡ Some y → x ≡ y
some_is x y e = cc

pub known_after : {A : Type 0} (entry : LogEntry A) (attempt : Attempt A) (known : Option (LogEntry A)) → IsPlacing entry attempt known → (x : LogEntry A) × (known ≡ Some x)
known_after entry Taken known is = (entry, is)
known_after entry (Passed back) known is = is.1
known_after entry NoMemory known is = absurd is

pub attempt_of : {A : Type 0} (old new : List (LogEntry A)) (entry x : LogEntry A) (attempt : Attempt A) (known : Option (LogEntry A)) → IsPlacing entry attempt known → known ≡ Some x → new ≡ old ++ x ∷ []
    → IsAttempt old entry attempt new
attempt_of {A} old new entry x Taken known is has grown = grown ∙ ap (λ (y : LogEntry A). old ++ y ∷ []) (some_is x entry (sym has ∙ is))
attempt_of old new entry x (Passed back) known is has grown = (is.0, (x, grown))
attempt_of old new entry x NoMemory known is has grown = absurd is
