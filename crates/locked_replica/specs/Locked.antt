-- A replica beside what was delivered to it.
use Rattle.std.specs.Prelude.{◌≡◌, ◌<◌, ◌≤◌, true, false, List, [], ◌∷◌, ◌++◌, length, Some, refl}
use Rattle.std.specs.Coded.{Coded, code_by, coded×, coded_list}
use Rattle.schema.specs.Schema.{AreTables}
use Rattle.log_model.specs.Log.{Setting, verdict_of}
use Rattle.log_model.specs.Entries.{items_of}
use Rattle.log_entry.specs.declared.entry.Entry.{Entry as LogEntry}
use Rattle.order_log.specs.Codes.{entry_code}
use Rattle.replica.specs.Codes.{replica_code}
use Rattle.replica.specs.Replica.{Replica, AreEntriesOf, FollowsLog, entries_of}
use Rattle.locked_replica.specs.declared.answers.Delivery.{Delivery}
use Rattle.locked_replica.specs.declared.answers.Delivery.TheVariants.{Delivered, Nothing, Stopped}
use Rattle.locked_replica.specs.declared.answers.Found.{Found}
use Rattle.locked_replica.specs.declared.answers.Found.TheVariants as found

pub record LockedState (A : Type 0) : Type 0 where
  pub replica : Replica
  pub entries : List (LogEntry A)

abbrev pub locked_code : {A : Type 0} → Coded (LockedState A)
locked_code {A} = code_by (Replica × List (LogEntry A)) (coded× replica_code (coded_list entry_code))
    (λ l. (l.replica, l.entries)) (λ c. record { replica = c.0; entries = c.1 }) (λ _. refl)

-- the replica follows the log of what was delivered, and the setting's tables are those of a schema
pub record Keeps {A : Type 0} (w : Setting) (l : LockedState A) : Type 0 where
  pub schema : AreTables w.tables
  pub follows : FollowsLog w l.replica (entries_of l.entries)

-- what came of a delivery: one more entry, with the verdict of the log; or the log showed none, and nothing has changed, the
-- replica not having stopped; or it has stopped where it was, and if it had before nothing has changed
abbrev pub Delivers : {A : Type 0} → Setting → LockedState A → Delivery → LockedState A → Type 0
Delivers {A} w old (Delivered verdict) new =
    (old.replica.stopped ≡ false) × ((e : LogEntry A) × (new.entries ≡ old.entries ++ e ∷ [])) × (new.replica.stopped ≡ false)
    × (verdict_of w (items_of (entries_of new.entries)) (length new.entries) ≡ Some verdict)
Delivers w old Nothing new = (new ≡ old) × (old.replica.stopped ≡ false)
Delivers w old Stopped new = (new.entries ≡ old.entries) × (new.replica.stopped ≡ true) × (old.replica.stopped ≡ true → new ≡ old)

-- what is known of the last of some entries at a replica: its verdict, the entries being a log's; or the replica has stopped
-- before it, or hasn't come so far yet
abbrev pub Finds : {A : Type 0} → Setting → LockedState A → List (LogEntry A) → Found → Type 0
Finds w l seen (found.Verdict verdict) =
    (length seen ≤ length l.entries) × AreEntriesOf w (entries_of seen)
    × (verdict_of w (items_of (entries_of seen)) (length seen) ≡ Some verdict)
Finds w l seen found.Stopped = (length l.entries < length seen) × (l.replica.stopped ≡ true)
Finds w l seen found.NotYet = (length l.entries < length seen) × (l.replica.stopped ≡ false)
