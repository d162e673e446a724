-- What a caller at a node hears.
use Rattle.std.specs.Prelude.{◌≡◌, ◌≢◌, ◌↔◌, ◌≤◌, ℕ, List, length, slice_get, Option, Some, None}
use Rattle.std.specs.declared.alloc.Global.{Global}
use Rattle.log_model.specs.declared.verdict.Verdict.{Verdict}
use Rattle.log_model.specs.Log.{Setting, verdict_of}
use Rattle.log_model.specs.Entries.{items_of}
use Rattle.log_entry.specs.declared.entry.Entry.{Entry as LogEntry}
pub use Rattle.replica.specs.Replica.{AreEntriesOf, entries_of}
use Rattle.locked_replica.specs.Commits.{commits_of}
use Rattle.node_calls.specs.Asked.{AskedCall}
use Rattle.node_calls.specs.Answer.{IsAnswer}
use Rattle.node_calls.specs.declared.answer.Answer.{Answer}
use Rattle.node_calls.specs.declared.answer.Answer.TheVariants.{NoReplica}
pub use Rattle.served_replicas.specs.Replicas.{IsNoReplica}

-- what a caller hears: that there is no such replica exactly where there is none, and else an answer to what was asked
pub record IsHeard {A : Type 0} (w : Setting) (replicas replica : ℕ) (a : AskedCall) (said : Answer) (seen : Option (List (LogEntry A))) : Type 0 where
  pub no_replica : (said ≡ NoReplica) ↔ IsNoReplica replicas replica
  pub none : said ≡ NoReplica → seen ≡ None
  pub answer : said ≢ NoReplica → IsAnswer w a said seen

-- what is heard at a place is heard of what was asked at that place
abbrev pub AreHeardOf : {A : Type 0} → Setting → ℕ → ℕ → List AskedCall → List (Answer × Option (List (LogEntry A))) → Type 0
AreHeardOf {A} w replicas replica asked heard =
    (place : ℕ) (a : AskedCall) (h : Answer × Option (List (LogEntry A))) → slice_get asked place ≡ Some a → slice_get heard place ≡ Some h
    → IsHeard w replicas replica a h.0 h.1

-- as much is heard as was asked, each at its place
pub record AreHeard {A : Type 0} (w : Setting) (replicas replica : ℕ) (asked : List AskedCall) (heard : List (Answer × Option (List (LogEntry A)))) : Type 0 where
  pub count : length heard ≡ length asked
  pub each : AreHeardOf w replicas replica asked heard

-- what is seen of a node's log
abbrev pub Entries : Type 0
Entries = List (LogEntry Global)

-- these entries are a log's and reach to this position, and the verdict there is this
pub record IsVerdictAt (w : Setting) (position : ℕ) (v : Verdict) (delivered : Entries) : Type 0 where
  pub entries : AreEntriesOf w (entries_of delivered)
  pub reached : position ≤ length delivered
  pub verdict : verdict_of w (items_of (entries_of delivered)) position ≡ Some v

-- a replica has ended with these entries, which are a log's: at this position, and so many of them commit
pub record IsEndAt (w : Setting) (delivered : Entries) (position commits : ℕ) : Type 0 where
  pub entries : AreEntriesOf w (entries_of delivered)
  pub reached : position ≡ length delivered
  pub committed : commits ≡ commits_of w (items_of (entries_of delivered))
