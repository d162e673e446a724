-- What came of an entry at the place after what was seen.
use Rattle.std.specs.Prelude.{◌≡◌, List, [], ◌∷◌, ◌++◌, Option, Some}
use Rattle.log_entry.specs.declared.entry.Entry.{Entry as LogEntry}
use Rattle.order_log.specs.declared.log.Attempt.{Attempt}
use Rattle.order_log.specs.declared.log.Attempt.TheVariants.{Taken, Passed, NoMemory}

abbrev pub IsAttempt : {A : Type 0} → List (LogEntry A) → LogEntry A → Attempt A → List (LogEntry A) → Type 0
IsAttempt old entry Taken new = new ≡ old ++ entry ∷ []
IsAttempt {A} old entry (Passed back) new = (back.value ≡ entry) × ((other : LogEntry A) × (new ≡ old ++ other ∷ []))
IsAttempt old entry NoMemory new = new ≡ old

-- what is then known of the place's cell
abbrev pub IsPlacing : {A : Type 0} → LogEntry A → Attempt A → Option (LogEntry A) → Type 0
IsPlacing entry Taken known = known ≡ Some entry
IsPlacing {A} entry (Passed back) known = (back.value ≡ entry) × ((other : LogEntry A) × (known ≡ Some other))
IsPlacing entry NoMemory known = ⊥
