-- What is known of every world that steps lead to.
use Rattle.std.specs.Prelude.{◌≡◌, ◌≢◌, ◌⊎◌, ℕ, suc, ◌+◌, ◌<◌, ◌≤◌, ◌==◌, if◌then◌else◌, List, [], ◌∷◌, length, slice_get, All, Option, Some, None}
use Rattle.bpf_semantics.specs.State.{State}
use Rattle.bpf_semantics.specs.Step.{Going, Ended, Stuck}
use Rattle.bpf_semantics.specs.Path.{longest_path}
use Rattle.log_model.specs.declared.request.RequestId.{RequestId}
use Rattle.log_model.specs.declared.verdict.Verdict.{Verdict}
use Rattle.log_model.specs.declared.verdict.Verdict.TheVariants.{Commit, Repeated}
use Rattle.log_model.specs.Log.{Setting, reply_done, Call, Item, CallItem, Log, IsLog, rows_after, verdict_of, run_on, run_in, moment_at}
use Rattle.log_model.specs.Fit.{IsCall, IsSafe, AreItems}
use Rattle.dsm_model.specs.World.{World, Replica, Step, Begin, max_calls, numbered, open_call, Add, call_count}
use Rattle.log_model.specs.OpenCall.{OpenCall}
use Rattle.program_checks.specs.ProgramCheck.{Passed}
use Rattle.dsm_model.specs.declared.outcome.Outcome.{Outcome}
use Rattle.dsm_model.specs.declared.outcome.Outcome.TheVariants.{Added}

-- arguments are bytes; a program that is added, since it passed its check, is safe. Of one that was accepted that is so
abbrev pub IsGiven : Setting → Step → Outcome → Type 0
IsGiven w (Begin r procedure args request) outcome = All (λ b. b < 256) args
IsGiven w (Add name number args_len (Passed program)) (Added position) =
    IsSafe w.tables (record { name = name; number = number; program = program; args_len = args_len })
IsGiven w _ _ = Unit {0}

-- of each step with its outcome
abbrev pub AreGiven : Setting → List Step → List Outcome → Type 0
AreGiven w (step ∷ steps) (outcome ∷ outcomes) = IsGiven w step outcome × AreGiven w steps outcomes
AreGiven w _ _ = Unit {0}

-- a call of a procedure of its snapshot whose replica has come no less far than its snapshot, and that hasn't run past its end
pub record IsOpenCall (w : Setting) (world : World) (o : OpenCall) : Type 0 where
  pub is_call : IsCall w world.log o.call
  pub replica : Replica
  pub stands : numbered world.replicas o.replica ≡ Some replica
  pub begun : o.call.snapshot ≤ replica.position
  pub turns : o.turns ≤ (run_in w world.log o.call).steps

abbrev pub open_count : List (Option OpenCall) → ℕ
open_count [] = 0
open_count (None ∷ rest) = open_count rest
open_count (Some o ∷ rest) = 1 + open_count rest

pub record IsWorld (w : Setting) (world : World) : Type 0 where
  pub log : IsLog world.log
  pub items : AreItems w world.log
  pub positions : (r : ℕ) (replica : Replica) → numbered world.replicas r ≡ Some replica → replica.position ≤ length world.log
  pub open_calls : (c : ℕ) (o : OpenCall) → open_call world c ≡ Some o → IsOpenCall w world o
  pub numbers : (c : ℕ) (o : OpenCall) → open_call world c ≡ Some o → o.call.number ≡ c
  pub calls_limit : call_count world ≤ max_calls
  pub log_limit : length world.log + open_count world.calls ≤ call_count world

-- an open call goes on well: it has come as many steps of its run as it has turns, or that run's end; it isn't stuck, so
-- that what it has come to has a step or is an end; it has run no more than the longest path, and after so many instructions
-- its run has ended, with the reply of the run on the rows of its snapshot
pub record IsSound (w : Setting) (log : Log) (o : OpenCall) : Type 0 where
  pub is_call : IsCall w log o.call
  pub so_far : ((s : State) × (moment_at w log o.call o.turns ≡ Going s) × (s.steps ≡ o.turns))
      ⊎ ((s : State) × (moment_at w log o.call o.turns ≡ Ended (run_in w log o.call).reply s) × (o.turns ≡ (run_in w log o.call).steps))
  pub not_stuck : moment_at w log o.call (o.turns + 1) ≢ Stuck
  pub within : o.turns ≤ longest_path is_call.procedure.program
  pub end : State
  pub ends : moment_at w log o.call (longest_path is_call.procedure.program) ≡ Ended (run_in w log o.call).reply end

-- the call at this position has this reply where it runs on the rows just before it
pub record IsSerialReply (w : Setting) (log : Log) (position reply : ℕ) : Type 0 where
  pub before : ℕ
  pub place : position ≡ suc before
  pub call : Call
  pub stands : slice_get log before ≡ Some (CallItem call)
  pub serial : (run_on w log call (rows_after w log before)).reply ≡ reply

-- the reply of the call at a position, by its run on the rows of its snapshot
abbrev pub reply_of : Setting → Log → Option Item → Option ℕ
reply_of w log (Some (CallItem call)) = Some (run_in w log call).reply
reply_of w log _ = None

abbrev pub request_of_item : Option Item → Option RequestId
request_of_item (Some (CallItem call)) = call.request
request_of_item _ = None

abbrev pub told_by : Setting → Log → ℕ → Option Verdict → Option ℕ
told_by w log position (Some Commit) = reply_of w log (numbered log position)
told_by w log position (Some (Repeated earlier)) =
    if earlier == 0 then reply_done w.beginning.requests (request_of_item (numbered log position)) else reply_of w log (numbered log earlier)
told_by w log position _ = None

-- the reply that a delivery of this position tells: its call's own where that commits. Where the call is repeated, the reply is
-- that of the call that it repeats, or of its request where this was done before the log
abbrev pub told_reply : Setting → Log → ℕ → Option ℕ
told_reply w log position = told_by w log position (verdict_of w log position)
