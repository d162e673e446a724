-- An entry, and what is known of it by the entries that it was made over.
use Rattle.std.specs.Prelude.{◌≡◌, ℕ, ◌≤◌, List, [], ◌∷◌, ◌++◌, length, take}
use Rattle.log_entry.specs.declared.entry.Entry.{Entry as LogEntry}
use Rattle.log_entry.specs.declared.entry.Entry.TheVariants.{Call, Addition}

-- how many entries a call's run saw; an addition needs none
abbrev pub snapshot_of : {A : Type 0} → LogEntry A → ℕ
snapshot_of (Call e) = e.call.snapshot
snapshot_of (Addition p) = 0

-- the entry comes after these with its fact
abbrev pub HasFactAfter : {A : Type 0} → (List (LogEntry A) → LogEntry A → Type 0) → List (LogEntry A) → LogEntry A → Type 0
HasFactAfter shows before e = (snapshot_of e ≤ length before) × shows (take (snapshot_of e) before) e

-- the last entry of the list comes after the others with its fact
unfoldable pub HasFact : {A : Type 0} → (List (LogEntry A) → LogEntry A → Type 0) → List (LogEntry A) → Type 0
HasFact {A} shows entries =
    (before : List (LogEntry A)) × (e : LogEntry A) × (entries ≡ before ++ e ∷ []) × HasFactAfter shows before e
