-- A world of replicas that share one log: what it is made of, and what each step answers and leaves.
use Rattle.std.specs.Prelude.{◌≡◌, ◌⊎◌, ℕ, zero, suc, ◌+◌, ◌-◌, ◌==◌, nat_le, nat_lt, Bool, true, false, not, ◌&&◌, if◌then◌else◌, List, [], ◌∷◌, ◌++◌, length, replicate, slice_get, slice_set, Option, Some, None, Result, Ok, Err}
use Rattle.std.specs.FinMap.{len}
use Rattle.schema.specs.declared.limits.TheConstants.{MAX_ARGUMENTS, MAX_LOG}
use Rattle.bpf_semantics.specs.Run.{Run}
use Rattle.log_model.specs.declared.verdict.Verdict.{Verdict}
use Rattle.log_model.specs.declared.request.RequestId.{RequestId}
use Rattle.log_model.specs.OpenCall.{OpenCall, makes_look, at_row_helper}
use Rattle.log_model.specs.declared.refusal.CallRefusal.{CallRefusal}
use Rattle.log_model.specs.declared.refusal.CallRefusal.TheVariants as call_refusal
use Rattle.log_model.specs.Admission.{admission}
use Rattle.program_checks.specs.ProgramCheck.{ProgramCheck, Passed, Failed}
use Rattle.program_checks.specs.declared.fault.AdditionFault.{AdditionFault}
use Rattle.program_checks.specs.declared.fault.AdditionFault.TheVariants as addition_fault
use Rattle.dsm_model.specs.declared.outcome.StepRefusal.{StepRefusal}
use Rattle.dsm_model.specs.declared.outcome.StepRefusal.TheVariants.{NoReplica, NoProcedure, ArgumentsLength, NoCall, NotAtExit, NothingToDeliver, ReplicaStopped, LogFull, TooManyCalls, ArgumentsLimit, ProgramRefused, NameShape, ZeroInRequest}
use Rattle.dsm_model.specs.declared.outcome.StepRefusal.TheVariants as step_refusal
use Rattle.dsm_model.specs.declared.outcome.Outcome.{Outcome}
use Rattle.dsm_model.specs.declared.outcome.Outcome.TheVariants.{Begun, More, Exit, Stale, NoMemory, Ordered, Read, Cancelled, Delivered, Rebuilt, Refused, Added}
use Rattle.log_model.specs.Log.{StoredProcedure, Setting, Call, Log, by_number, moment_at, run_in, verdict_of, CallItem, AdditionItem, procedures_after, procedure_of}
use Rattle.log_model.specs.Name.{is_name}

-- how far it has delivered the log, and whether it found no memory and delivers no more
pub record Replica : Type 0 where
  pub position : ℕ
  pub stopped : Bool

pub record World : Type 0 where
  pub log : Log
  pub replicas : List Replica  -- numbered from 1
  pub calls : List (Option OpenCall)  -- numbered from 1; None where the call is over

pub data Step : Type 0 where
  Begin : ℕ → ℕ → List ℕ → Option RequestId → Step  -- at a replica, of a procedure, with arguments, and with a request
  Turn : ℕ → Step  -- of a call: one instruction further
  Order : ℕ → Step  -- of a call
  Deliver : ℕ → Step  -- to a replica
  Rebuild : ℕ → Step  -- of a replica
  Add : List ℕ → ℕ → ℕ → ProgramCheck → Step  -- of a procedure: its name, its number, how many bytes its arguments have, its program

-- the most calls and additions of a world, and items of a log
abbrev pub max_calls : ℕ
max_calls = MAX_LOG

-- at first so many replicas run, and there is neither a log nor a call
abbrev pub first_world : ℕ → World
first_world replicas = record { log = []; replicas = replicate replicas (record { position = 0; stopped = false }); calls = [] }

-- ---- by number, from 1 on

abbrev pub numbered : {X : Type 0} → List X → ℕ → Option X
numbered xs zero = None
numbered xs (suc k) = slice_get xs k

abbrev pub with_numbered : {X : Type 0} → List X → ℕ → X → List X
with_numbered xs zero x = xs
with_numbered xs (suc k) x = slice_set xs k x

abbrev pub flatten : {X : Type 0} → Option (Option X) → Option X
flatten None = None
flatten (Some o) = o

abbrev pub open_call : World → ℕ → Option OpenCall
open_call world c = flatten (numbered world.calls c)

abbrev pub with_open_call : World → ℕ → Option OpenCall → World
with_open_call world c o = record world { calls = with_numbered world.calls c o }

abbrev pub without_call : World → ℕ → World
without_call world c = with_open_call world c None

abbrev pub with_replica : World → ℕ → Replica → World
with_replica world r replica = record world { replicas = with_numbered world.replicas r replica }

-- how many items are additions
abbrev pub addition_count : Log → ℕ
addition_count [] = 0
addition_count (CallItem call ∷ later) = addition_count later
addition_count (AdditionItem p ∷ later) = 1 + addition_count later

-- how many calls were begun and procedures added
abbrev pub call_count : World → ℕ
call_count world = length world.calls + addition_count world.log

-- no call can be begun and no procedure added any more
abbrev pub is_full : World → Bool
is_full world = nat_le max_calls (call_count world)

abbrev pub position_of : Option Replica → ℕ
position_of None = 0
position_of (Some replica) = replica.position

-- ---- Begin

abbrev pub with_begun : World → ℕ → Call → World
with_begun world r call = record world { calls = world.calls ++ Some (record { replica = r; call = call; turns = 0 }) ∷ [] }

abbrev pub new_call : World → ℕ → List ℕ → Option RequestId → ℕ → Call
new_call world procedure args request snapshot =
    record { number = length world.calls + 1; procedure = procedure; args = args; snapshot = snapshot; request = request }

-- why a call doesn't begin, as a step is refused for that
abbrev pub refusal_of_call : CallRefusal → StepRefusal
refusal_of_call call_refusal.NoProcedure = NoProcedure
refusal_of_call call_refusal.ArgumentsLength = ArgumentsLength
refusal_of_call call_refusal.ZeroInRequest = ZeroInRequest

abbrev pub after_admission : World → ℕ → ℕ → List ℕ → Option RequestId → Replica → Result StoredProcedure CallRefusal → Outcome × World
after_admission world r procedure args request replica (Err cause) = (Refused (refusal_of_call cause), world)
after_admission world r procedure args request replica (Ok p) =
    if is_full world then (Refused TooManyCalls, world)
    else (Begun (length world.calls + 1) replica.position, with_begun world r (new_call world procedure args request replica.position))

abbrev pub after_begin : World → ℕ → ℕ → List ℕ → Option RequestId → Option Replica → Option StoredProcedure → Outcome × World
after_begin world r procedure args request None p = (Refused NoReplica, world)
after_begin world r procedure args request (Some replica) p =
    after_admission world r procedure args request replica (admission args request p)

-- ---- Turn

-- whether the next instruction looks at rows, and those of the snapshot are kept no longer
unfoldable pub is_stale : Setting → World → OpenCall → Bool
is_stale w world o =
    makes_look w world.log o && nat_lt w.window (position_of (numbered world.replicas o.replica) - o.call.snapshot)

abbrev pub with_turns : World → ℕ → OpenCall → ℕ → World
with_turns world c o turns = with_open_call world c (Some (record o { turns = turns }))

-- by the steps and the reply of the run: the last instruction answers Exit, and so does each turn after it
abbrev pub after_turn_by_run : World → ℕ → OpenCall → Run → Outcome × World
after_turn_by_run world c o r =
    if nat_lt (o.turns + 1) r.steps then (More, with_turns world c o (o.turns + 1))
    else (Exit r.reply, with_turns world c o r.steps)

abbrev pub after_turn : Setting → World → ℕ → Option OpenCall → Outcome × World
after_turn w world c None = (Refused NoCall, world)
after_turn w world c (Some o) = if is_stale w world o then (Stale, without_call world c) else after_turn_by_run world c o (run_in w world.log o.call)

-- ---- Order

abbrev pub with_ordered : World → ℕ → Call → World
with_ordered world c call = record (without_call world c) { log = world.log ++ CallItem call ∷ [] }

-- at EXIT, by the run: one that cancelled or wrote nothing isn't ordered
abbrev pub after_order_by_run : World → ℕ → Call → Option ℕ → Run → Outcome × World
after_order_by_run world c call (Some code) r = (Cancelled call.snapshot code, without_call world c)
after_order_by_run world c call None r =
    if len r.writes == 0 then (Read call.snapshot r.reply, without_call world c)
    else if nat_le max_calls (length world.log) then (Refused LogFull, without_call world c)
    else (Ordered (length world.log + 1), with_ordered world c call)

abbrev pub after_order : Setting → World → ℕ → Option OpenCall → Outcome × World
after_order w world c None = (Refused NoCall, world)
after_order w world c (Some o) =
    let r = run_in w world.log o.call in
    if nat_lt o.turns r.steps then (Refused NotAtExit, world) else after_order_by_run world c o.call r.cancel_code r

-- ---- Deliver and Rebuild

abbrev pub after_deliver_next : World → ℕ → Replica → Option Verdict → Outcome × World
after_deliver_next world r replica None = (Refused NothingToDeliver, world)
after_deliver_next world r replica (Some verdict) =
    if replica.stopped then (Refused ReplicaStopped, world)
    else (Delivered (replica.position + 1) verdict, with_replica world r (record replica { position = replica.position + 1 }))

abbrev pub after_deliver : Setting → World → ℕ → Option Replica → Outcome × World
after_deliver w world r None = (Refused NoReplica, world)
after_deliver w world r (Some replica) = after_deliver_next world r replica (verdict_of w world.log (replica.position + 1))

abbrev pub after_rebuild : World → ℕ → Option Replica → Outcome × World
after_rebuild world r None = (Refused NoReplica, world)
after_rebuild world r (Some replica) = (Rebuilt (length world.log), with_replica world r (record { position = length world.log; stopped = false }))

-- ---- Add

abbrev pub with_added : World → StoredProcedure → World
with_added world p = record world { log = world.log ++ AdditionItem p ∷ [] }

-- why a procedure isn't added, as a step is refused for that
abbrev pub refusal_of_addition : AdditionFault → StepRefusal
refusal_of_addition (addition_fault.Program fault) = ProgramRefused fault
refusal_of_addition addition_fault.Name = NameShape

abbrev pub after_add_checked : World → List ℕ → ℕ → ℕ → ProgramCheck → Outcome × World
after_add_checked world name number args_len (Failed fault) = (Refused (ProgramRefused fault), world)
after_add_checked world name number args_len (Passed program) =
    if not (is_name name) then (Refused NameShape, world)
    else (Added (length world.log + 1), with_added world (record { name = name; number = number; program = program; args_len = args_len }))

abbrev pub after_add : World → List ℕ → ℕ → ℕ → ProgramCheck → Outcome × World
after_add world name number args_len checked =
    if is_full world then (Refused TooManyCalls, world)
    else if nat_lt MAX_ARGUMENTS args_len then (Refused ArgumentsLimit, world)
    else after_add_checked world name number args_len checked

-- ---- a step

-- what it answers and leaves where memory suffices. It is meant for catalogues whose procedures are safe, and for additions that are: of another a call
-- may have no run, and then its answers mean nothing
unfoldable pub after_step : Setting → World → Step → Outcome × World
after_step w world (Begin r procedure args request) =
    after_begin world r procedure args request (numbered world.replicas r)
    (by_number (procedures_after w world.log (position_of (numbered world.replicas r))) procedure)
after_step w world (Turn c) = after_turn w world c (open_call world c)
after_step w world (Order c) = after_order w world c (open_call world c)
after_step w world (Deliver r) = after_deliver w world r (numbered world.replicas r)
after_step w world (Rebuild r) = after_rebuild world r (numbered world.replicas r)
after_step w world (Add name number args_len checked) = after_add world name number args_len checked

abbrev pub with_stopped : World → ℕ → Option Replica → World
with_stopped world r None = world
with_stopped world r (Some replica) = with_replica world r (record replica { stopped = true })

-- what a step leaves that is refused for want of memory: a call that was to be ordered is over, and a replica that was to
-- deliver is stopped
abbrev pub after_refused : World → Step → World
after_refused world (Order c) = without_call world c
after_refused world (Deliver r) = with_stopped world r (numbered world.replicas r)
after_refused world _ = world

-- a turn that calls one of the row helpers may find no memory, unless it is stale
abbrev pub after_turn_without_memory : Setting → World → ℕ → Option OpenCall → Option (Outcome × World)
after_turn_without_memory w world c None = None
after_turn_without_memory w world c (Some o) =
    if is_stale w world o then None
    else if at_row_helper (procedure_of w world.log o.call) (moment_at w world.log o.call o.turns) then Some (NoMemory, without_call world c)
    else None

-- a step that would take memory for what it answers may find none; a program can't be checked without memory, so an
-- addition may want it also where its program or its name is refused
abbrev pub after_refused_memory : World → Step → Outcome → Option (Outcome × World)
after_refused_memory world (Begin r procedure args request) (Begun c s) = Some (Refused step_refusal.NoMemory, after_refused world (Begin r procedure args request))
after_refused_memory world (Order c) (Ordered position) = Some (Refused step_refusal.NoMemory, after_refused world (Order c))
after_refused_memory world (Deliver r) (Delivered position verdict) = Some (Refused step_refusal.NoMemory, after_refused world (Deliver r))
after_refused_memory world (Rebuild r) (Rebuilt position) = Some (Refused step_refusal.NoMemory, after_refused world (Rebuild r))
after_refused_memory world (Add name number args_len checked) (Added position) = Some (Refused step_refusal.NoMemory, after_refused world (Add name number args_len checked))
after_refused_memory world (Add name number args_len checked) (Refused (ProgramRefused fault)) = Some (Refused step_refusal.NoMemory, after_refused world (Add name number args_len checked))
after_refused_memory world (Add name number args_len checked) (Refused NameShape) = Some (Refused step_refusal.NoMemory, after_refused world (Add name number args_len checked))
after_refused_memory world step outcome = None

unfoldable pub after_step_without_memory : Setting → World → Step → Option (Outcome × World)
after_step_without_memory w world (Turn c) = after_turn_without_memory w world c (open_call world c)
after_step_without_memory w world step = after_refused_memory world step (after_step w world step).0

-- which answers a step may give
abbrev pub is_answer : Step → Outcome → Bool
is_answer (Begin _ _ _ _) (Begun _ _) = true
is_answer (Begin _ _ _ _) (Refused NoReplica) = true
is_answer (Begin _ _ _ _) (Refused NoProcedure) = true
is_answer (Begin _ _ _ _) (Refused ArgumentsLength) = true
is_answer (Begin _ _ _ _) (Refused step_refusal.NoMemory) = true
is_answer (Begin _ _ _ _) (Refused TooManyCalls) = true
is_answer (Begin _ _ _ _) (Refused ZeroInRequest) = true
is_answer (Turn _) More = true
is_answer (Turn _) (Exit _) = true
is_answer (Turn _) Stale = true
is_answer (Turn _) NoMemory = true
is_answer (Turn _) (Refused NoCall) = true
is_answer (Order _) (Ordered _) = true
is_answer (Order _) (Read _ _) = true
is_answer (Order _) (Cancelled _ _) = true
is_answer (Order _) (Refused NoCall) = true
is_answer (Order _) (Refused NotAtExit) = true
is_answer (Order _) (Refused LogFull) = true
is_answer (Order _) (Refused step_refusal.NoMemory) = true
is_answer (Deliver _) (Delivered _ _) = true
is_answer (Deliver _) (Refused NoReplica) = true
is_answer (Deliver _) (Refused NothingToDeliver) = true
is_answer (Deliver _) (Refused ReplicaStopped) = true
is_answer (Deliver _) (Refused step_refusal.NoMemory) = true
is_answer (Rebuild _) (Rebuilt _) = true
is_answer (Rebuild _) (Refused NoReplica) = true
is_answer (Rebuild _) (Refused step_refusal.NoMemory) = true
is_answer (Add _ _ _ _) (Added _) = true
is_answer (Add _ _ _ _) (Refused step_refusal.NoMemory) = true
is_answer (Add _ _ _ _) (Refused TooManyCalls) = true
is_answer (Add _ _ _ _) (Refused ArgumentsLimit) = true
is_answer (Add _ _ _ _) (Refused (ProgramRefused _)) = true
is_answer (Add _ _ _ _) (Refused NameShape) = true
is_answer _ _ = false

-- the one or the other
abbrev pub IsStep : Setting → World → Step → Outcome → World → Type 0
IsStep w before step outcome after = (after_step w before step ≡ (outcome, after)) ⊎ (after_step_without_memory w before step ≡ Some (outcome, after))

-- steps, one after another, with their outcomes
unfoldable pub AreSteps : Setting → World → List Step → List Outcome → World → Type 0
AreSteps w before [] [] after = before ≡ after
AreSteps w before (step ∷ steps) (outcome ∷ outcomes) after = (between : World) × IsStep w before step outcome between × AreSteps w between steps outcomes after
AreSteps w before _ _ after = ⊥
