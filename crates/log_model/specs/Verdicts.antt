-- What a verdict means, in words of the log alone.
use Rattle.std.specs.Prelude.{◌≡◌, ◌⊎◌, ℕ, suc, ◌<◌, ◌≤◌, List, slice_get, Some, IsTrue, IsSome}
use Rattle.std.specs.FinMap.{get}
use Rattle.schema.specs.declared.look.Look.{Look}
use Rattle.schema.specs.Rows.{Key, any_covers}
use Rattle.log_model.specs.declared.verdict.Verdict.TheVariants.{Commit}
use Rattle.log_model.specs.Log.{Setting, Call, CallItem, Log, same_request, was_done, verdict_of, run_in}

-- the call at this position committed, and its run wrote a key in one of the looks
pub record WroteWhatWasRead (w : Setting) (log : Log) (looks : List Look) (position : ℕ) : Type 0 where
  pub before : ℕ
  pub place : position ≡ suc before
  pub call : Call
  pub stands : slice_get log before ≡ Some (CallItem call)
  pub committed : verdict_of w log position ≡ Some Commit
  pub key : Key
  pub looked_at : IsTrue (any_covers looks key)
  pub written : IsSome (get (run_in w log call).writes key)

-- it did so since the snapshot of a call that stands at a later position
pub record IsConflict (w : Setting) (log : Log) (call : Call) (position later : ℕ) : Type 0 where
  pub since : call.snapshot < position
  pub earlier : position < later
  pub wrote : WroteWhatWasRead w log (run_in w log call).looks position

-- and is the first that did
pub record IsLeastConflict (w : Setting) (log : Log) (call : Call) (position later : ℕ) : Type 0 where
  pub is : IsConflict w log call position later
  pub least : (other : ℕ) → IsConflict w log call other later → position ≤ other

-- the call at this position committed, and carries the request of one that stands at a later position
pub record IsRepetition (w : Setting) (log : Log) (call : Call) (position later : ℕ) : Type 0 where
  pub earlier : position < later
  pub before : ℕ
  pub place : position ≡ suc before
  pub first : Call
  pub stands : slice_get log before ≡ Some (CallItem first)
  pub committed : verdict_of w log position ≡ Some Commit
  pub same : IsTrue (same_request call.request first.request)

-- the request of a call was done before the log
abbrev pub IsDoneBefore : Setting → Call → Type 0
IsDoneBefore w call = IsTrue (was_done w.beginning.requests call.request)

-- its request was done at this position: before the log, which is 0, or by a call that it repeats
abbrev pub IsRepeated : Setting → Log → Call → ℕ → ℕ → Type 0
IsRepeated w log call position later = (IsDoneBefore w call × (position ≡ 0)) ⊎ IsRepetition w log call position later

-- its request wasn't done before the log, nor by a call before this position
pub record IsNew (w : Setting) (log : Log) (call : Call) (later : ℕ) : Type 0 where
  pub not_before : IsDoneBefore w call → ⊥
  pub first : (position : ℕ) → IsRepetition w log call position later → ⊥
