-- A call that isn't over: how it goes along its run on the rows of its snapshot, and what comes of it.
use Rattle.std.specs.Prelude.{◌≡◌, ◌≢◌, ℕ, ◌+◌, ◌<◌, ◌≤◌, Bool, true, false, ◌&&◌, Option, Some, None, List}
use Rattle.std.specs.FinMap.{len}
use Rattle.schema.specs.Rows.{Rows, AreRows, AreWrites}
use Rattle.bpf_verify.specs.Flow.{Procedure}
use Rattle.bpf_vm.specs.declared.turn.Turn.{Turn}
use Rattle.bpf_vm.specs.declared.turn.Turn.TheVariants.{More, Exit, Stale, NoMemory}
use Rattle.bpf_vm.specs.Turns.{MachineState}
use Rattle.bpf_vm.specs.Run.{Effects, IsAcceptedProcedure, HasRun, HasEnded, own_effects}
use Rattle.log_model.specs.Log.{Setting, Call, Log, StoredProcedure, by_number, procedures_after, rows_after, run_in, moment_at, procedure_of}
use Rattle.log_model.specs.Entries.{CarriesRun}
use Rattle.log_model.specs.Fit.{IsCall}
use Rattle.log_model.specs.OpenCall.{OpenCall, makes_look, at_row_helper}
use Rattle.catalogue.specs.Catalogue.{accepted_of}
use Rattle.world_calls.specs.declared.open_call.CallStart.{CallStart}
use Rattle.world_calls.specs.declared.open_call.OpenCall.{OpenCall as OpenCallState}
use Rattle.world_calls.specs.declared.completion.Completion.{Completion}
use Rattle.world_calls.specs.declared.completion.Completion.TheVariants.{Cancelled, Read, Wrote}

-- ---- as the world's definitions see it

abbrev pub call_of : {A : Type 0} → OpenCallState A → Call
call_of c = record { number = c.number; procedure = c.procedure; args = c.args; snapshot = c.snapshot; request = c.request }

abbrev pub open_call_of : {A : Type 0} → OpenCallState A → OpenCall
open_call_of c = record { replica = c.replica; call = call_of c; turns = c.turns }

-- ---- along its run

-- by what its last turn answered: it has run so many instructions of the run, or is at the run's end
abbrev pub HasCome : Procedure → List ℕ → Rows → ℕ → Turn → MachineState → Effects → Type 0
HasCome p args rows turns More m effects = HasRun p args rows turns m effects
HasCome p args rows turns (Exit reply) m effects = HasEnded p args rows turns reply effects
HasCome p args rows turns _ m effects = ⊥

-- a call of an accepted procedure of the setting's catalogue that has come as many instructions of its run on the rows of its
-- snapshot as it has turns
pub record Follows {A : Type 0} (w : Setting) (log : Log) (c : OpenCallState A) : Type 0 where
  pub is_call : IsCall w log (call_of c)
  pub accepted : IsAcceptedProcedure (accepted_of w.tables is_call.procedure)
  pub rows : AreRows w.tables (rows_after w log c.snapshot)
  pub so_far : HasCome (accepted_of w.tables is_call.procedure) c.args (rows_after w log c.snapshot) c.turns c.machine.last c.machine
      (own_effects c.own)

-- it can go on with its own program, and with a store that answers from the rows of its snapshot
pub record CanGoOn {A : Type 0} (w : Setting) (log : Log) (accepted : Procedure) (answers_from : Rows → Type 0)
    (c : OpenCallState A) : Type 0 where
  pub follows : Follows w log c
  pub program : accepted ≡ accepted_of w.tables follows.is_call.procedure
  pub answers : answers_from (rows_after w log c.snapshot)

-- ---- its beginning

-- a call that has run nothing yet
abbrev pub call_before_its_run : CallStart → List ℕ → OpenCall
call_before_its_run start args = record {
  replica = start.replica;
  call = record { number = start.number; procedure = start.procedure; args = args; snapshot = start.snapshot; request = start.request };
  turns = 0;
}

-- it follows its run in each setting and log where its procedure has this program at its snapshot, and the rows there fit the
-- tables
abbrev pub FollowsInItsLogs : {A : Type 0} → Procedure → CallStart → OpenCallState A → Type 0
FollowsInItsLogs accepted start c =
    (w : Setting) (log : Log) (p : StoredProcedure) → by_number (procedures_after w log start.snapshot) start.procedure ≡ Some p
    → accepted ≡ accepted_of w.tables p → AreRows w.tables (rows_after w log start.snapshot) → Follows w log c

-- ---- a turn

-- the next instruction looks at rows that are kept no longer
abbrev pub looks_at_gone : Setting → Log → Bool → OpenCall → Bool
looks_at_gone w log gone o = makes_look w log o && gone

-- what a turn answers and leaves, by the run on the rows of the snapshot and whether the store has them no more
abbrev pub IsTurn : Setting → Log → Bool → OpenCall → Turn → OpenCall → Type 0
IsTurn w log gone o More after =
    (looks_at_gone w log gone o ≡ false) × (o.turns + 1 < (run_in w log o.call).steps) × (after ≡ record o { turns = o.turns + 1 })
IsTurn w log gone o (Exit reply) after =
    (looks_at_gone w log gone o ≡ false) × ((run_in w log o.call).steps ≤ o.turns + 1) × (reply ≡ (run_in w log o.call).reply)
    × (after ≡ record o { turns = (run_in w log o.call).steps })
IsTurn w log gone o Stale after = looks_at_gone w log gone o ≡ true
IsTurn w log gone o NoMemory after =
    (looks_at_gone w log gone o ≡ false)
    × (at_row_helper (procedure_of w log o.call) (moment_at w log o.call o.turns) ≡ true)

-- so many turns further
abbrev pub further : ℕ → OpenCall → OpenCall
further count o = record o { turns = o.turns + count }

-- so many turns that answer that there is more
abbrev pub AreMoreTurns : Setting → Log → Bool → ℕ → OpenCall → Type 0
AreMoreTurns w log gone count o = (j : ℕ) → j < count → IsTurn w log gone (further j o) More (further (j + 1) o)

-- so many turns that answer that there is more, and then one that answers this
abbrev pub AreTurns : Setting → Log → Bool → ℕ → OpenCall → Turn → OpenCall → Type 0
AreTurns w log gone before o turn after = AreMoreTurns w log gone before o × IsTurn w log gone (further before o) turn after

-- a turn after which the call isn't over
abbrev pub stays_open : Turn → Bool
stays_open More = true
stays_open (Exit _) = true
stays_open _ = false

-- ---- the end

-- where the call is by its run
abbrev pub IsReplyOf : Setting → Log → OpenCall → Option ℕ → Type 0
IsReplyOf w log o None = o.turns < (run_in w log o.call).steps
IsReplyOf w log o (Some reply) = (o.turns ≡ (run_in w log o.call).steps) × (reply ≡ (run_in w log o.call).reply)

-- what comes of a call by its run: it cancelled, or wrote nothing, or is to be ordered with what it looked at, wrote and
-- replied
abbrev pub IsCompletion : {A : Type 0} → Setting → Log → Call → Completion A → Type 0
IsCompletion w log call (Cancelled snapshot code) = ((run_in w log call).cancel_code ≡ Some code) × (snapshot ≡ call.snapshot)
IsCompletion w log call (Read snapshot reply) =
    ((run_in w log call).cancel_code ≡ None) × (len (run_in w log call).writes ≡ 0) × (snapshot ≡ call.snapshot)
    × (reply ≡ (run_in w log call).reply)
IsCompletion w log call (Wrote e) =
    ((run_in w log call).cancel_code ≡ None) × (len (run_in w log call).writes ≢ 0) × (e.call ≡ call)
    × CarriesRun w log e × AreWrites w.tables e.writes
