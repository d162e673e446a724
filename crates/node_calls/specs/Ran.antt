-- What comes of running a call.
use Rattle.std.specs.Prelude.{◌≡◌, ◌+◌, ◌<◌, true, List, length}
use mathlib.Core.List.{IsPrefix}
use Rattle.log_model.specs.Log.{Setting, Call}
use Rattle.log_model.specs.Fit.{IsCall}
use Rattle.log_entry.specs.declared.entry.Entry.{Entry as LogEntry}
use Rattle.log_model.specs.OpenCall.{OpenCall, makes_look}
use Rattle.world_calls.specs.OpenCall.{IsCompletion, stays_open}
use Rattle.node_calls.specs.Running.{RunningState, log_seen}
use Rattle.node_calls.specs.declared.run.Ran.{Ran as RanCall}
use Rattle.node_calls.specs.declared.run.Ran.TheVariants.{Ended, Stale, NoMemory}
use Rattle.node_calls.specs.declared.run.Advance.{Advance}
use Rattle.node_calls.specs.declared.run.Advance.TheVariants as advance

-- some instruction of a call's run on the rows after these entries looks at rows, and so much more was seen that they are out
-- of the window
pub record LooksTooLate {A : Type 0} (w : Setting) (entries : List (LogEntry A)) (call : Call) (seen : List (LogEntry A)) : Type 0 where
  pub is_call : IsCall w (log_seen entries) call
  pub place : OpenCall
  pub own : place.call ≡ call
  pub looks : makes_look w (log_seen entries) place ≡ true
  pub begins : IsPrefix entries seen
  pub late : length entries + w.window < length seen

-- one instruction further, or no further
abbrev pub IsAdvance : {J : _} {A : Type 0} → Setting → RunningState A → Advance J A → RunningState A → Type 0
IsAdvance w old advance.Open new = (stays_open new.last ≡ true) × (new.entries ≡ old.entries) × (new.progress.call ≡ old.progress.call)
IsAdvance w old (advance.Stale seen) new = LooksTooLate w old.entries old.progress.call seen
IsAdvance w old advance.NoMemory new = Unit {0}

-- a call that saw these entries is at its end, with what comes of its run; or it was too late; or it found no memory
abbrev pub IsRan : {J : _} {A : Type 0} → Setting → List (LogEntry A) → Call → RanCall J A → Type 0
IsRan w entries call (Ended completion seen) = (seen ≡ entries) × IsCall w (log_seen entries) call × IsCompletion w (log_seen entries) call completion
IsRan w entries call (Stale seen) = LooksTooLate w entries call seen
IsRan w entries call NoMemory = Unit {0}
