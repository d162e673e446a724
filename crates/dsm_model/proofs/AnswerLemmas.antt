-- Which answers a step may give, and where memory is wanted.
use Rattle.std.proofs.Common.{◌≡◌, inl, inr, ℕ, ◌+◌, ◌<◌, ◌≤◌, Bool, true, false, not, List, length, nat_eq, nat_le, nat_lt, Option, Some, None, Result, Ok, Err, IsTrue, refl, sym, ap, ◌∙◌}
use Rattle.std.specs.FinMap.{len}
use Rattle.bpf_semantics.specs.Run.{Run}
use Rattle.log_model.specs.declared.verdict.Verdict.{Verdict}
use Rattle.dsm_model.specs.declared.outcome.StepRefusal.TheVariants.{NoReplica, NoProcedure, ArgumentsLength, NoCall, NotAtExit, NothingToDeliver, ReplicaStopped, LogFull, TooManyCalls, ArgumentsLimit, ProgramRefused, NameShape, ZeroInRequest}
use Rattle.dsm_model.specs.declared.outcome.StepRefusal.TheVariants as step_refusal
use Rattle.log_model.specs.declared.request.RequestId.{RequestId}
use Rattle.dsm_model.specs.declared.outcome.Outcome.{Outcome}
use Rattle.dsm_model.specs.declared.outcome.Outcome.TheVariants.{Begun, More, Exit, Stale, NoMemory, Ordered, Read, Cancelled, Delivered, Rebuilt, Added, Refused}
use Rattle.log_model.specs.Log.{StoredProcedure, Setting, Call, by_number, procedures_after, run_in, verdict_of}
use Rattle.log_model.specs.Name.{is_name}
use Rattle.dsm_model.specs.World.{World, Replica, Step, Begin, Turn, Order, Deliver, Rebuild, Add, max_calls, call_count, position_of, numbered, open_call, without_call, with_replica, with_begun, new_call, after_begin, after_admission, is_stale, with_turns, after_turn, with_ordered, after_order_by_run, after_order, after_deliver_next, after_deliver, after_rebuild, with_added, after_add_checked, after_add, after_step, with_stopped, after_refused_memory, after_step_without_memory, IsStep, is_answer}
use Rattle.log_model.specs.OpenCall.{OpenCall}
use Rattle.log_model.specs.declared.refusal.CallRefusal.{CallRefusal}
use Rattle.log_model.specs.declared.refusal.CallRefusal.TheVariants as call_refusal
use Rattle.log_model.specs.Admission.{admission}
use Rattle.program_checks.specs.ProgramCheck.{ProgramCheck, Passed, Failed}
use Rattle.log_model.proofs.RunLemmas.{just}
use Rattle.dsm_model.proofs.Cases.{Done, done, fst, either_if, begin_refused, order_refused, deliver_refused, rebuild_refused, add_refused}
use Rattle.dsm_model.proofs.StepLemmas.{turn_without, wants_by, add_way}

-- what an answer is that is given
is_given : (step : Step) (given outcome : Outcome) (leaves after : World) → is_answer step given ≡ true → done given leaves ≡ done outcome after → is_answer step outcome ≡ true
is_given step given outcome leaves after is e = ap (is_answer step) (sym (fst (given, leaves) (outcome, after) e)) ∙ is

begin_given : (before after : World) (r procedure : ℕ) (args : List ℕ) (request : Option RequestId) (outcome : Outcome) (o : Option Replica) (p : Option StoredProcedure) → after_begin before r procedure args request o p ≡ done outcome after → is_answer (Begin r procedure args request) outcome ≡ true
begin_given before after r procedure args request outcome None p e = is_given (Begin r procedure args request) (Refused NoReplica) outcome before after refl e
begin_given before after r procedure args request outcome (Some replica) p e = by_answer (admission args request p) e
  where
    by_answer : (answer : Result StoredProcedure CallRefusal) → after_admission before r procedure args request replica answer ≡ done outcome after → is_answer (Begin r procedure args request) outcome ≡ true
    by_answer (Err call_refusal.NoProcedure) d = is_given (Begin r procedure args request) (Refused NoProcedure) outcome before after refl d
    by_answer (Err call_refusal.ArgumentsLength) d = is_given (Begin r procedure args request) (Refused ArgumentsLength) outcome before after refl d
    by_answer (Err call_refusal.ZeroInRequest) d = is_given (Begin r procedure args request) (Refused ZeroInRequest) outcome before after refl d
    by_answer (Ok stored) d = elim (either_if (nat_le max_calls (call_count before)) _ _ (outcome, after) d) [
      | inl (t, k) ↦ is_given (Begin r procedure args request) (Refused TooManyCalls) outcome before after refl k
      | inr (t, k) ↦ is_given (Begin r procedure args request) (Begun (length before.calls + 1) replica.position) outcome (with_begun before r (new_call before procedure args request replica.position)) after refl k
    ]

turn_given : (w : Setting) (before after : World) (c : ℕ) (outcome : Outcome) (found : Option OpenCall) → after_turn w before c found ≡ done outcome after → is_answer (Turn c) outcome ≡ true
turn_given w before after c outcome None e = is_given (Turn c) (Refused NoCall) outcome before after refl e
turn_given w before after c outcome (Some o) e = elim (either_if (is_stale w before o) _ _ (outcome, after) e) [
  | inl (t, d) ↦ is_given (Turn c) Stale outcome (without_call before c) after refl d
  | inr (t, d) ↦ elim (either_if (nat_lt (o.turns + 1) (run_in w before.log o.call).steps) _ _ (outcome, after) d) [
    | inl (t, h) ↦ is_given (Turn c) More outcome (with_turns before c o (o.turns + 1)) after refl h
    | inr (t, h) ↦ is_given (Turn c) (Exit (run_in w before.log o.call).reply) outcome (with_turns before c o (run_in w before.log o.call).steps) after refl h
  ]
]

by_run_given : (before after : World) (c : ℕ) (outcome : Outcome) (call : Call) (code : Option ℕ) (r : Run) → after_order_by_run before c call code r ≡ done outcome after → is_answer (Order c) outcome ≡ true
by_run_given before after c outcome call (Some code) r e = is_given (Order c) (Cancelled call.snapshot code) outcome (without_call before c) after refl e
by_run_given before after c outcome call None r e = elim (either_if (nat_eq (len r.writes) 0) _ _ (outcome, after) e) [
  | inl (t, d) ↦ is_given (Order c) (Read call.snapshot r.reply) outcome (without_call before c) after refl d
  | inr (t, d) ↦ elim (either_if (nat_le max_calls (length before.log)) _ _ (outcome, after) d) [
    | inl (t, h) ↦ is_given (Order c) (Refused LogFull) outcome (without_call before c) after refl h
    | inr (t, h) ↦ is_given (Order c) (Ordered (length before.log + 1)) outcome (with_ordered before c call) after refl h
  ]
]

order_given : (w : Setting) (before after : World) (c : ℕ) (outcome : Outcome) (found : Option OpenCall) → after_order w before c found ≡ done outcome after → is_answer (Order c) outcome ≡ true
order_given w before after c outcome None e = is_given (Order c) (Refused NoCall) outcome before after refl e
order_given w before after c outcome (Some o) e = elim (either_if (nat_lt o.turns (run_in w before.log o.call).steps) _ _ (outcome, after) e) [
  | inl (t, d) ↦ is_given (Order c) (Refused NotAtExit) outcome before after refl d
  | inr (t, d) ↦ by_run_given before after c outcome o.call (run_in w before.log o.call).cancel_code (run_in w before.log o.call) d
]

next_given : (before after : World) (r : ℕ) (outcome : Outcome) (replica : Replica) (o : Option Verdict) → after_deliver_next before r replica o ≡ done outcome after → is_answer (Deliver r) outcome ≡ true
next_given before after r outcome replica None e = is_given (Deliver r) (Refused NothingToDeliver) outcome before after refl e
next_given before after r outcome replica (Some v) e = elim (either_if replica.stopped _ _ (outcome, after) e) [
  | inr (t, d) ↦ is_given (Deliver r) (Delivered (replica.position + 1) v) outcome (with_replica before r (record replica { position = replica.position + 1 })) after refl d
  | inl (t, d) ↦ is_given (Deliver r) (Refused ReplicaStopped) outcome before after refl d
]

deliver_given : (w : Setting) (before after : World) (r : ℕ) (outcome : Outcome) (found : Option Replica) → after_deliver w before r found ≡ done outcome after → is_answer (Deliver r) outcome ≡ true
deliver_given w before after r outcome None e = is_given (Deliver r) (Refused NoReplica) outcome before after refl e
deliver_given w before after r outcome (Some replica) e = next_given before after r outcome replica (verdict_of w before.log (replica.position + 1)) e

rebuild_given : (before after : World) (r : ℕ) (outcome : Outcome) (found : Option Replica) → after_rebuild before r found ≡ done outcome after → is_answer (Rebuild r) outcome ≡ true
rebuild_given before after r outcome None e = is_given (Rebuild r) (Refused NoReplica) outcome before after refl e
rebuild_given before after r outcome (Some replica) e = is_given (Rebuild r) (Rebuilt (length before.log)) outcome (with_replica before r (record { position = length before.log; stopped = false })) after refl e

checked_given : (before after : World) (name : List ℕ) (number args_len : ℕ) (checked : ProgramCheck) (outcome : Outcome) → after_add_checked before name number args_len checked ≡ done outcome after → is_answer (Add name number args_len checked) outcome ≡ true
checked_given before after name number args_len (Failed fault) outcome e = is_given (Add name number args_len (Failed fault)) (Refused (ProgramRefused fault)) outcome before after refl e
checked_given before after name number args_len (Passed program) outcome e = elim (either_if (not (is_name name)) _ _ (outcome, after) e) [
  | inl (t, d) ↦ is_given (Add name number args_len (Passed program)) (Refused NameShape) outcome before after refl d
  | inr (t, d) ↦ is_given (Add name number args_len (Passed program)) (Added (length before.log + 1)) outcome (with_added before (record { name = name; number = number; program = program; args_len = args_len })) after refl d
]

add_given : (before after : World) (name : List ℕ) (number args_len : ℕ) (checked : ProgramCheck) (outcome : Outcome) → after_add before name number args_len checked ≡ done outcome after → is_answer (Add name number args_len checked) outcome ≡ true
add_given before after name number args_len checked outcome e = elim (either_if (nat_le max_calls (call_count before)) _ _ (outcome, after) e) [
  | inl (t, d) ↦ is_given (Add name number args_len checked) (Refused TooManyCalls) outcome before after refl d
  | inr (t, d) ↦ elim (either_if (nat_lt 256 args_len) _ _ (outcome, after) d) [
    | inl (t, h) ↦ is_given (Add name number args_len checked) (Refused ArgumentsLimit) outcome before after refl h
    | inr (t, h) ↦ checked_given before after name number args_len checked outcome h
  ]
]

given : (w : Setting) (before after : World) (step : Step) (outcome : Outcome) → after_step w before step ≡ done outcome after → is_answer step outcome ≡ true
unfolding after_step
given w before after (Begin r procedure args request) outcome e = begin_given before after r procedure args request outcome (numbered before.replicas r) (by_number (procedures_after w before.log (position_of (numbered before.replicas r))) procedure) e
given w before after (Turn c) outcome e = turn_given w before after c outcome (open_call before c) e
given w before after (Order c) outcome e = order_given w before after c outcome (open_call before c) e
given w before after (Deliver r) outcome e = deliver_given w before after r outcome (numbered before.replicas r) e
given w before after (Rebuild r) outcome e = rebuild_given before after r outcome (numbered before.replicas r) e
given w before after (Add name number args_len checked) outcome e = add_given before after name number args_len checked outcome e

refused_given : (w : Setting) (before after : World) (step : Step) (outcome : Outcome) → after_step_without_memory w before step ≡ just (done outcome after) → is_answer step outcome ≡ true
unfolding after_step_without_memory
refused_given w before after (Begin r procedure args request) outcome e = is_given (Begin r procedure args request) (Refused step_refusal.NoMemory) outcome before after refl (begin_refused before after r procedure args request (after_step w before (Begin r procedure args request)).0 outcome e)
refused_given w before after (Turn c) outcome e = ap (is_answer (Turn c)) (turn_without w before after c outcome (open_call before c) e).answer
refused_given w before after (Order c) outcome e = is_given (Order c) (Refused step_refusal.NoMemory) outcome (without_call before c) after refl (order_refused before after c (after_step w before (Order c)).0 outcome e)
refused_given w before after (Deliver r) outcome e = is_given (Deliver r) (Refused step_refusal.NoMemory) outcome (with_stopped before r (numbered before.replicas r)) after refl (deliver_refused before after r (after_step w before (Deliver r)) outcome e).1
refused_given w before after (Rebuild r) outcome e = is_given (Rebuild r) (Refused step_refusal.NoMemory) outcome before after refl (rebuild_refused before after r (after_step w before (Rebuild r)).0 outcome e)
refused_given w before after (Add name number args_len checked) outcome e = is_given (Add name number args_len checked) (Refused step_refusal.NoMemory) outcome before after refl (add_refused before after name number args_len checked (after_step w before (Add name number args_len checked)).0 outcome e)

pub own_answers : (w : Setting) (before : World) (step : Step) (outcome : Outcome) (after : World) → IsStep w before step outcome after → IsTrue (is_answer step outcome)
own_answers w before step outcome after (inl e) = given w before after step outcome e
own_answers w before step outcome after (inr e) = refused_given w before after step outcome e

-- ---- want of memory in place of an answer

-- whether an answer isn't want of memory
abbrev is_met : Outcome → Bool
is_met (Refused step_refusal.NoMemory) = false
is_met _ = true

is_other : (given outcome : Outcome) (leaves after : World) → is_met given ≡ true → done given leaves ≡ done outcome after → is_met outcome ≡ true
is_other given outcome leaves after is e = ap is_met (sym (fst (given, leaves) (outcome, after) e)) ∙ is

begin_other : (before after : World) (r procedure : ℕ) (args : List ℕ) (request : Option RequestId) (outcome : Outcome) (o : Option Replica) (p : Option StoredProcedure) → after_begin before r procedure args request o p ≡ done outcome after → is_met outcome ≡ true
begin_other before after r procedure args request outcome None p e = is_other (Refused NoReplica) outcome before after refl e
begin_other before after r procedure args request outcome (Some replica) p e = by_answer (admission args request p) e
  where
    by_answer : (answer : Result StoredProcedure CallRefusal) → after_admission before r procedure args request replica answer ≡ done outcome after → is_met outcome ≡ true
    by_answer (Err call_refusal.NoProcedure) d = is_other (Refused NoProcedure) outcome before after refl d
    by_answer (Err call_refusal.ArgumentsLength) d = is_other (Refused ArgumentsLength) outcome before after refl d
    by_answer (Err call_refusal.ZeroInRequest) d = is_other (Refused ZeroInRequest) outcome before after refl d
    by_answer (Ok stored) d = elim (either_if (nat_le max_calls (call_count before)) _ _ (outcome, after) d) [
      | inl (t, k) ↦ is_other (Refused TooManyCalls) outcome before after refl k
      | inr (t, k) ↦ is_other (Begun (length before.calls + 1) replica.position) outcome (with_begun before r (new_call before procedure args request replica.position)) after refl k
    ]

by_run_other : (before after : World) (c : ℕ) (outcome : Outcome) (call : Call) (code : Option ℕ) (r : Run) → after_order_by_run before c call code r ≡ done outcome after → is_met outcome ≡ true
by_run_other before after c outcome call (Some code) r e = is_other (Cancelled call.snapshot code) outcome (without_call before c) after refl e
by_run_other before after c outcome call None r e = elim (either_if (nat_eq (len r.writes) 0) _ _ (outcome, after) e) [
  | inl (t, d) ↦ is_other (Read call.snapshot r.reply) outcome (without_call before c) after refl d
  | inr (t, d) ↦ elim (either_if (nat_le max_calls (length before.log)) _ _ (outcome, after) d) [
    | inl (t, h) ↦ is_other (Refused LogFull) outcome (without_call before c) after refl h
    | inr (t, h) ↦ is_other (Ordered (length before.log + 1)) outcome (with_ordered before c call) after refl h
  ]
]

order_other : (w : Setting) (before after : World) (c : ℕ) (outcome : Outcome) (found : Option OpenCall) → after_order w before c found ≡ done outcome after → is_met outcome ≡ true
order_other w before after c outcome None e = is_other (Refused NoCall) outcome before after refl e
order_other w before after c outcome (Some o) e = elim (either_if (nat_lt o.turns (run_in w before.log o.call).steps) _ _ (outcome, after) e) [
  | inl (t, d) ↦ is_other (Refused NotAtExit) outcome before after refl d
  | inr (t, d) ↦ by_run_other before after c outcome o.call (run_in w before.log o.call).cancel_code (run_in w before.log o.call) d
]

next_other : (before after : World) (r : ℕ) (outcome : Outcome) (replica : Replica) (o : Option Verdict) → after_deliver_next before r replica o ≡ done outcome after → is_met outcome ≡ true
next_other before after r outcome replica None e = is_other (Refused NothingToDeliver) outcome before after refl e
next_other before after r outcome replica (Some v) e = elim (either_if replica.stopped _ _ (outcome, after) e) [
  | inr (t, d) ↦ is_other (Delivered (replica.position + 1) v) outcome (with_replica before r (record replica { position = replica.position + 1 })) after refl d
  | inl (t, d) ↦ is_other (Refused ReplicaStopped) outcome before after refl d
]

deliver_other : (w : Setting) (before after : World) (r : ℕ) (outcome : Outcome) (found : Option Replica) → after_deliver w before r found ≡ done outcome after → is_met outcome ≡ true
deliver_other w before after r outcome None e = is_other (Refused NoReplica) outcome before after refl e
deliver_other w before after r outcome (Some replica) e = next_other before after r outcome replica (verdict_of w before.log (replica.position + 1)) e

rebuild_other : (before after : World) (r : ℕ) (outcome : Outcome) (found : Option Replica) → after_rebuild before r found ≡ done outcome after → is_met outcome ≡ true
rebuild_other before after r outcome None e = is_other (Refused NoReplica) outcome before after refl e
rebuild_other before after r outcome (Some replica) e = is_other (Rebuilt (length before.log)) outcome (with_replica before r (record { position = length before.log; stopped = false })) after refl e

checked_other : (before after : World) (name : List ℕ) (number args_len : ℕ) (checked : ProgramCheck) (outcome : Outcome) → after_add_checked before name number args_len checked ≡ done outcome after → is_met outcome ≡ true
checked_other before after name number args_len (Failed fault) outcome e = is_other (Refused (ProgramRefused fault)) outcome before after refl e
checked_other before after name number args_len (Passed program) outcome e = elim (either_if (not (is_name name)) _ _ (outcome, after) e) [
  | inl (t, d) ↦ is_other (Refused NameShape) outcome before after refl d
  | inr (t, d) ↦ is_other (Added (length before.log + 1)) outcome (with_added before (record { name = name; number = number; program = program; args_len = args_len })) after refl d
]

add_other : (before after : World) (name : List ℕ) (number args_len : ℕ) (checked : ProgramCheck) (outcome : Outcome) → after_add before name number args_len checked ≡ done outcome after → is_met outcome ≡ true
add_other before after name number args_len checked outcome e = elim (either_if (nat_le max_calls (call_count before)) _ _ (outcome, after) e) [
  | inl (t, d) ↦ is_other (Refused TooManyCalls) outcome before after refl d
  | inr (t, d) ↦ elim (either_if (nat_lt 256 args_len) _ _ (outcome, after) d) [
    | inl (t, h) ↦ is_other (Refused ArgumentsLimit) outcome before after refl h
    | inr (t, h) ↦ checked_other before after name number args_len checked outcome h
  ]
]

-- what is done where memory suffices, by its answer
as_done : (d : Done) (outcome : Outcome) → d.0 ≡ outcome → d ≡ done outcome d.1
as_done d outcome e = ap (λ (o : Outcome). done o d.1) e

begin_some : (before after : World) (r procedure : ℕ) (args : List ℕ) (request : Option RequestId) (o outcome : Outcome) → after_refused_memory before (Begin r procedure args request) o ≡ just (outcome, after) → (c : ℕ) × (snapshot : ℕ) × (o ≡ Begun c snapshot)
begin_some before after r procedure args request (Begun c s) outcome e = (c, s, refl)
begin_some before after r procedure args request More outcome e = absurd cc
begin_some before after r procedure args request (Exit n) outcome e = absurd cc
begin_some before after r procedure args request Stale outcome e = absurd cc
begin_some before after r procedure args request NoMemory outcome e = absurd cc
begin_some before after r procedure args request (Ordered d) outcome e = absurd cc
begin_some before after r procedure args request (Read s n) outcome e = absurd cc
begin_some before after r procedure args request (Cancelled s n) outcome e = absurd cc
begin_some before after r procedure args request (Delivered d v) outcome e = absurd cc
begin_some before after r procedure args request (Rebuilt p) outcome e = absurd cc
begin_some before after r procedure args request (Added p) outcome e = absurd cc
begin_some before after r procedure args request (Refused x) outcome e = absurd cc

order_some : (before after : World) (c : ℕ) (o outcome : Outcome) → after_refused_memory before (Order c) o ≡ just (outcome, after) → (position : ℕ) × (o ≡ Ordered position)
order_some before after c (Ordered d) outcome e = (d, refl)
order_some before after c (Begun a s) outcome e = absurd cc
order_some before after c More outcome e = absurd cc
order_some before after c (Exit n) outcome e = absurd cc
order_some before after c Stale outcome e = absurd cc
order_some before after c NoMemory outcome e = absurd cc
order_some before after c (Read s n) outcome e = absurd cc
order_some before after c (Cancelled s n) outcome e = absurd cc
order_some before after c (Delivered d v) outcome e = absurd cc
order_some before after c (Rebuilt p) outcome e = absurd cc
order_some before after c (Added p) outcome e = absurd cc
order_some before after c (Refused x) outcome e = absurd cc

rebuild_some : (before after : World) (r : ℕ) (o outcome : Outcome) → after_refused_memory before (Rebuild r) o ≡ just (outcome, after) → (position : ℕ) × (o ≡ Rebuilt position)
rebuild_some before after r (Rebuilt p) outcome e = (p, refl)
rebuild_some before after r (Added p) outcome e = absurd cc
rebuild_some before after r (Begun a s) outcome e = absurd cc
rebuild_some before after r More outcome e = absurd cc
rebuild_some before after r (Exit n) outcome e = absurd cc
rebuild_some before after r Stale outcome e = absurd cc
rebuild_some before after r NoMemory outcome e = absurd cc
rebuild_some before after r (Ordered d) outcome e = absurd cc
rebuild_some before after r (Read s n) outcome e = absurd cc
rebuild_some before after r (Cancelled s n) outcome e = absurd cc
rebuild_some before after r (Delivered d v) outcome e = absurd cc
rebuild_some before after r (Refused x) outcome e = absurd cc

pub begin_wants : (w : Setting) (before : World) (r procedure : ℕ) (args : List ℕ) (request : Option RequestId) (after : World) → IsStep w before (Begin r procedure args request) (Refused step_refusal.NoMemory) after
    → (c : ℕ) × (snapshot : ℕ) × (other : World) × IsStep w before (Begin r procedure args request) (Begun c snapshot) other
unfolding after_step after_step_without_memory
begin_wants w before r procedure args request after (inl e) = absurd (let x = begin_other before after r procedure args request (Refused step_refusal.NoMemory) (numbered before.replicas r) (by_number (procedures_after w before.log (position_of (numbered before.replicas r))) procedure) e in cc)
begin_wants w before r procedure args request after (inr e) =
    let x = begin_some before after r procedure args request (after_step w before (Begin r procedure args request)).0 (Refused step_refusal.NoMemory) e in
    (x.0, x.1, (after_step w before (Begin r procedure args request)).1, inl (as_done (after_step w before (Begin r procedure args request)) (Begun x.0 x.1) x.2))

pub order_wants : (w : Setting) (before : World) (c : ℕ) (after : World) → IsStep w before (Order c) (Refused step_refusal.NoMemory) after → (position : ℕ) × (other : World) × IsStep w before (Order c) (Ordered position) other
unfolding after_step after_step_without_memory
order_wants w before c after (inl e) = absurd (let x = order_other w before after c (Refused step_refusal.NoMemory) (open_call before c) e in cc)
order_wants w before c after (inr e) =
    let x = order_some before after c (after_step w before (Order c)).0 (Refused step_refusal.NoMemory) e in
    (x.0, (after_step w before (Order c)).1, inl (as_done (after_step w before (Order c)) (Ordered x.0) x.1))

pub deliver_wants : (w : Setting) (before : World) (r : ℕ) (after : World) → IsStep w before (Deliver r) (Refused step_refusal.NoMemory) after → (position : ℕ) × (v : Verdict) × (other : World) × IsStep w before (Deliver r) (Delivered position v) other
unfolding after_step after_step_without_memory
deliver_wants w before r after (inl e) = absurd (let x = deliver_other w before after r (Refused step_refusal.NoMemory) (numbered before.replicas r) e in cc)
deliver_wants w before r after (inr e) =
    let x = (deliver_refused before after r (after_step w before (Deliver r)) (Refused step_refusal.NoMemory) e).0 in
    (x.0, x.1, (after_step w before (Deliver r)).1, inl (as_done (after_step w before (Deliver r)) (Delivered x.0 x.1) x.2))

pub rebuild_wants : (w : Setting) (before : World) (r : ℕ) (after : World) → IsStep w before (Rebuild r) (Refused step_refusal.NoMemory) after → (position : ℕ) × (other : World) × IsStep w before (Rebuild r) (Rebuilt position) other
unfolding after_step after_step_without_memory
rebuild_wants w before r after (inl e) = absurd (let x = rebuild_other before after r (Refused step_refusal.NoMemory) (numbered before.replicas r) e in cc)
rebuild_wants w before r after (inr e) =
    let x = rebuild_some before after r (after_step w before (Rebuild r)).0 (Refused step_refusal.NoMemory) e in
    (x.0, (after_step w before (Rebuild r)).1, inl (as_done (after_step w before (Rebuild r)) (Rebuilt x.0) x.1))

pub add_wants : (w : Setting) (before : World) (name : List ℕ) (number args_len : ℕ) (checked : ProgramCheck) (after : World) → IsStep w before (Add name number args_len checked) (Refused step_refusal.NoMemory) after → (call_count before < max_calls) × (args_len ≤ 256)
unfolding after_step after_step_without_memory
add_wants w before name number args_len checked after (inl e) = absurd (let x = add_other before after name number args_len checked (Refused step_refusal.NoMemory) e in cc)
add_wants w before name number args_len checked after (inr e) =
    wants_by before name number args_len checked (after_step w before (Add name number args_len checked)).0 (Refused step_refusal.NoMemory) after (after_step w before (Add name number args_len checked)).1 e
    (add_way before name number args_len checked (after_step w before (Add name number args_len checked)).0 (after_step w before (Add name number args_len checked)).1 refl)
