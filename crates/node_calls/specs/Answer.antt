-- What a call is answered, and what was seen of the log then.
use Rattle.std.specs.Prelude.{◌≡◌, ◌⊎◌, ℕ, suc, ◌-◌, ◌≤◌, false, IsTrue, List, [], ◌∷◌, ◌++◌, length, take, slice_get, Option, Some, None, Err}
use Rattle.std.specs.FinMap.{len}
use Rattle.log_model.specs.declared.request.RequestId.{RequestId}
use Rattle.log_model.specs.declared.verdict.Verdict.{Verdict}
use Rattle.log_model.specs.declared.verdict.Verdict.TheVariants as verdict
use Rattle.log_model.specs.Log.{Setting, Call, CallItem, was_done, reply_done, verdict_of, run_in}
use Rattle.log_model.specs.Fit.{IsCall}
use Rattle.log_model.specs.Entries.{ExecutedCall}
use Rattle.log_entry.specs.declared.entry.Entry.{Entry as LogEntry}
use Rattle.log_entry.specs.declared.entry.Entry.TheVariants as entry
use Rattle.log_model.specs.OpenRequest.{has_zero}
use Rattle.log_model.specs.Admission.{admission}
use Rattle.replica.specs.Replica.{AreEntriesOf, entries_of}
use Rattle.locked_replica.specs.Ordered.{IsOrderedCall}
use Rattle.locked_replica.specs.Begun.{procedure_now}
use Rattle.node_calls.specs.Running.{node_call, log_seen}
use Rattle.locked_replica.specs.declared.answers.Found.{Found}
use Rattle.locked_replica.specs.declared.answers.Found.TheVariants as found
use Rattle.node_calls.specs.Asked.{AskedCall}
use Rattle.node_calls.specs.Ran.{LooksTooLate}
use Rattle.node_calls.specs.declared.answer.Answer.{Answer}
use Rattle.node_calls.specs.declared.answer.Answer.TheVariants.{Committed, Read, Cancelled, Conflict, Stale, Repeated, Behind, NoMemory, Full, Stopped, Refused}

-- the call that is asked for, on the rows after so many entries
abbrev pub asked_call : AskedCall → ℕ → Call
asked_call a snapshot = node_call a.procedure a.args snapshot a.request

-- the entry is the last that was seen, at this position; its call saw so many of those before it
pub record IsAppended {A : Type 0} (w : Setting) (e : ExecutedCall) (position : ℕ) (seen : List (LogEntry A)) : Type 0 where
  pub before : List (LogEntry A)
  pub list : seen ≡ before ++ entry.Call e ∷ []
  pub place : position ≡ length seen
  pub snapshot : e.call.snapshot ≤ length before
  pub ordered : IsOrderedCall w (entries_of (take e.call.snapshot before)) e

-- the call that is asked for is ordered at this position: its entry, which carries its run, is the last that was seen, and it
-- saw no less than is asked for. It has no request, or a whole one
pub record IsOrderedAt {A : Type 0} (w : Setting) (a : AskedCall) (position : ℕ) (seen : List (LogEntry A)) : Type 0 where
  pub entry : ExecutedCall
  pub appended : IsAppended w entry position seen
  pub call : entry.call ≡ asked_call a entry.call.snapshot
  pub least : a.least ≤ entry.call.snapshot
  pub whole : has_zero a.request ≡ false

-- what was seen are entries of a log, and this is its verdict on the last of them
pub record IsVerdict {A : Type 0} (w : Setting) (position : ℕ) (seen : List (LogEntry A)) (v : Verdict) : Type 0 where
  pub entries : AreEntriesOf w (entries_of seen)
  pub verdict : verdict_of w (log_seen seen) position ≡ Some v

-- a call stands at this position of what was seen, with this reply
pub record IsReplyAt {A : Type 0} (seen : List (LogEntry A)) (position reply : ℕ) : Type 0 where
  pub before : ℕ
  pub place : position ≡ suc before
  pub e : ExecutedCall
  pub stands : slice_get seen before ≡ Some (entry.Call e)
  pub replied : reply ≡ e.reply

-- a request was done at this position: before the log, which is 0, or by a call that stands there
abbrev pub WasDoneAt : {A : Type 0} → Setting → List (LogEntry A) → Option RequestId → ℕ → Type 0
WasDoneAt w seen request position =
    ((position ≡ 0) × IsTrue (was_done w.beginning.requests request))
    ⊎ ((1 ≤ position) × (position ≤ length seen) × ((call : Call) × (slice_get (log_seen seen) (position - 1) ≡ Some (CallItem call))))

-- a request was done at this position, with this reply: before the log, which is 0, or by the call there
abbrev pub IsReplyTo : {A : Type 0} → Setting → List (LogEntry A) → Option RequestId → ℕ → ℕ → Type 0
IsReplyTo w seen request position reply =
    ((position ≡ 0) × (reply_done w.beginning.requests request ≡ Some reply)) ⊎ IsReplyAt seen position reply

-- what was seen are entries of a log, no fewer than is asked for
pub record IsBegunAfter {A : Type 0} (w : Setting) (a : AskedCall) (seen : List (LogEntry A)) : Type 0 where
  pub entries : AreEntriesOf w (entries_of seen)
  pub least : a.least ≤ length seen

-- the call that is asked for is one on the rows after what was seen, with no request or a whole one
pub record IsCallAfter {A : Type 0} (w : Setting) (a : AskedCall) (seen : List (LogEntry A)) (snapshot : ℕ) : Type 0 where
  pub begun : IsBegunAfter w a seen
  pub place : snapshot ≡ length seen
  pub is_call : IsCall w (log_seen seen) (asked_call a (length seen))
  pub whole : has_zero a.request ≡ false

-- the call, with no request or a whole one, began, and looked at rows when too much had come since
pub record IsLate {A : Type 0} (w : Setting) (a : AskedCall) (seen : List (LogEntry A)) : Type 0 where
  pub before : List (LogEntry A)
  pub begun : IsBegunAfter w a before
  pub late : LooksTooLate w before (asked_call a (length before)) seen
  pub whole : has_zero a.request ≡ false

-- what each answer says, with what was seen of the log. An answer that isn't listed with or without that never comes
abbrev pub IsAnswer : {A : Type 0} → Setting → AskedCall → Answer → Option (List (LogEntry A)) → Type 0
IsAnswer w a (Committed position reply) (Some seen) = (o : IsOrderedAt w a position seen) × IsVerdict w position seen verdict.Commit × (reply ≡ o.entry.reply)
IsAnswer w a (Conflict position other) (Some seen) = IsOrderedAt w a position seen × IsVerdict w position seen (verdict.Conflict other)
IsAnswer w a (Repeated position earlier reply) (Some seen) = IsOrderedAt w a position seen × IsVerdict w position seen (verdict.Repeated earlier) × IsReplyTo w seen a.request earlier reply
IsAnswer w a Stale (Some seen) = ((position : ℕ) × IsOrderedAt w a position seen × IsVerdict w position seen verdict.Stale) ⊎ IsLate w a seen
IsAnswer w a (Stopped position) (Some seen) = IsOrderedAt w a position seen
IsAnswer w a (Read snapshot reply) (Some seen) =
    IsCallAfter w a seen snapshot × ((run_in w (log_seen seen) (asked_call a snapshot)).cancel_code ≡ None)
    × (len (run_in w (log_seen seen) (asked_call a snapshot)).writes ≡ 0) × (reply ≡ (run_in w (log_seen seen) (asked_call a snapshot)).reply)
IsAnswer w a (Cancelled snapshot code) (Some seen) = IsCallAfter w a seen snapshot × ((run_in w (log_seen seen) (asked_call a snapshot)).cancel_code ≡ Some code)
IsAnswer w a Behind None = 1 ≤ a.least
IsAnswer w a (Refused refusal) (Some seen) =
    IsBegunAfter w a seen × (admission a.args a.request (procedure_now w seen a.procedure) ≡ Err refusal)
IsAnswer w a NoMemory None = Unit {0}
IsAnswer w a Full None = Unit {0}
IsAnswer w a answer seen = ⊥

-- what became of the last entry that was seen, where that is known for good
abbrev pub IsFinal : {A : Type 0} → Setting → List (LogEntry A) → Found → Type 0
IsFinal w seen (found.Verdict v) = IsVerdict w (length seen) seen v
IsFinal w seen found.Stopped = Unit {0}
IsFinal w seen found.NotYet = ⊥
