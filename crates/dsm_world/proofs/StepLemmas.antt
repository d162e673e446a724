-- When a step of the definitions answers what, and what it leaves.
use Rattle.std.proofs.Common.{◌≡◌, ◌≢◌, inl, inr, ℕ, zero, suc, ◌+◌, ◌-◌, ◌≤◌, ◌<◌, Bool, true, false, cond, List, length, nat_eq, nat_le, nat_lt, Option, Some, None, Ok, Err, refl, sym, ap, subst, ◌∙◌, arith}
use Rattle.std.proofs.lemmas.Bool.Decides.{nat_tests}
use Rattle.std.specs.FinMap.{len}
use Rattle.bpf_vm.specs.declared.turn.Turn.{Turn as TurnAnswer}
use Rattle.bpf_vm.specs.declared.turn.Turn.TheVariants as answer
use Rattle.log_model.specs.declared.verdict.Verdict.{Verdict}
use Rattle.dsm_model.specs.declared.outcome.StepRefusal.TheVariants.{NoReplica, NoCall, NotAtExit, NothingToDeliver, ReplicaStopped, LogFull, NoMemory, TooManyCalls}
use Rattle.dsm_model.specs.declared.outcome.Outcome.{Outcome}
use Rattle.dsm_model.specs.declared.outcome.Outcome.TheVariants.{Begun, More, Exit, Ordered, Read, Cancelled, Delivered, Rebuilt, Refused}
use Rattle.log_model.specs.declared.request.RequestId.{RequestId}
use Rattle.log_model.specs.Log.{StoredProcedure, Setting, by_number, procedures_after, procedure_of, run_in, verdict_of, moment_at}
use Rattle.dsm_model.specs.World.{World, Replica, Step, Begin, Turn, Order, Deliver, Rebuild, max_calls, call_count, numbered, position_of, open_call, without_call, with_open_call, with_replica, with_begun, new_call, refusal_of_call, after_admission, after_begin, is_stale, after_turn_by_run, after_turn, with_ordered, after_order_by_run, after_order, after_deliver_next, after_deliver, after_rebuild, after_step, after_turn_without_memory, after_refused_memory, after_step_without_memory, with_stopped, IsStep}
use Rattle.log_model.specs.OpenCall.{OpenCall, at_row_helper}
use Rattle.log_model.specs.declared.refusal.CallRefusal.{CallRefusal}
use Rattle.log_model.specs.Admission.{admission}
use Rattle.dsm_model.specs.Sound.{IsGiven, IsWorld}
use Rattle.world_calls.specs.OpenCall.{IsTurn, AreTurns, further, stays_open}
use Rattle.dsm_world.specs.Execution.{IsExecution}
use Rattle.dsm_world.specs.Turned.{outcome_of}
use Rattle.dsm_world.proofs.Numbered.{with_numbered_twice, numbered_set}

abbrev just : {X : Type 0} → X → Option X
just x = Some x

abbrev pub Done : Type 0
Done = Outcome × World

pub yes : {X : Type 0} (b : Bool) (x y : X) → b ≡ true → cond b x y ≡ x
yes true x y e = refl
yes false x y e = absurd cc

pub no : {X : Type 0} (b : Bool) (x y : X) → b ≡ false → cond b x y ≡ y
no false x y e = refl
no true x y e = absurd cc

pub is_le : (m n : ℕ) → m ≤ n → nat_le m n ≡ true
is_le m n le = grind (arith, nat_tests)

pub not_le : (m n : ℕ) → n < m → nat_le m n ≡ false
not_le m n lt = grind (arith, nat_tests)

pub is_lt : (m n : ℕ) → m < n → nat_lt m n ≡ true
is_lt m n lt = grind (arith, nat_tests)

pub not_lt : (m n : ℕ) → n ≤ m → nat_lt m n ≡ false
not_lt m n le = grind (arith, nat_tests)

no_number : (m n : ℕ) → m ≢ n → nat_eq m n ≡ false
no_number m n e = grind (arith, nat_tests)

one_number : (m n : ℕ) → m ≡ n → nat_eq m n ≡ true
one_number m n e = grind (arith, nat_tests)

-- ---- Begin

begins : (w : Setting) (world : World) (r p : ℕ) (args : List ℕ) (request : Option RequestId) (o : Option Replica) (q : Option StoredProcedure) → numbered world.replicas r ≡ o → by_number (procedures_after w world.log (position_of o)) p ≡ q → after_step w world (Begin r p args request) ≡ after_begin world r p args request o q
unfolding after_step
begins w world r p args request o q e f = ap (λ x. after_begin world r p args request x (by_number (procedures_after w world.log (position_of x)) p)) e ∙ ap (after_begin world r p args request o) f

pub begin_no_replica : (w : Setting) (world : World) (r p : ℕ) (args : List ℕ) (request : Option RequestId) → numbered world.replicas r ≡ None → IsStep w world (Begin r p args request) (Refused NoReplica) world
begin_no_replica w world r p args request e = inl (begins w world r p args request None _ e refl)

pub begin_refused : (w : Setting) (world : World) (r p : ℕ) (args : List ℕ) (request : Option RequestId) (k : Replica) (cause : CallRefusal) → numbered world.replicas r ≡ Some k → admission args request (by_number (procedures_after w world.log k.position) p) ≡ Err cause
    → IsStep w world (Begin r p args request) (Refused (refusal_of_call cause)) world
begin_refused w world r p args request k cause e refused = inl (begins w world r p args request (just k) _ e refl ∙ ap (after_admission world r p args request k) refused)

begun_or_many : (w : Setting) (world : World) (r p : ℕ) (args : List ℕ) (request : Option RequestId) (k : Replica) (q : StoredProcedure) → numbered world.replicas r ≡ just k → admission args request (by_number (procedures_after w world.log k.position) p) ≡ Ok q → after_step w world (Begin r p args request)
    ≡ cond (nat_le max_calls (call_count world)) (Refused TooManyCalls, world) (Begun (length world.calls + 1) k.position, with_begun world r (new_call world p args request k.position))
begun_or_many w world r p args request k q e admitted = begins w world r p args request (just k) _ e refl ∙ ap (after_admission world r p args request k) admitted

pub begin_too_many : (w : Setting) (world : World) (r p : ℕ) (args : List ℕ) (request : Option RequestId) (k : Replica) (q : StoredProcedure) → numbered world.replicas r ≡ Some k → admission args request (by_number (procedures_after w world.log k.position) p) ≡ Ok q → max_calls ≤ call_count world
    → IsStep w world (Begin r p args request) (Refused TooManyCalls) world
begin_too_many w world r p args request k q e admitted many = inl (begun_or_many w world r p args request k q e admitted ∙ yes (nat_le max_calls (call_count world)) _ _ (is_le max_calls (call_count world) many))

begins_new : (w : Setting) (world : World) (r p : ℕ) (args : List ℕ) (request : Option RequestId) (k : Replica) (q : StoredProcedure) → numbered world.replicas r ≡ just k → admission args request (by_number (procedures_after w world.log k.position) p) ≡ Ok q → call_count world < max_calls
    → after_step w world (Begin r p args request) ≡ (Begun (length world.calls + 1) k.position, with_begun world r (new_call world p args request k.position))
begins_new w world r p args request k q e admitted few = begun_or_many w world r p args request k q e admitted ∙ no (nat_le max_calls (call_count world)) _ _ (not_le max_calls (call_count world) few)

pub begin_new : (w : Setting) (world : World) (r p : ℕ) (args : List ℕ) (request : Option RequestId) (k : Replica) (q : StoredProcedure) → numbered world.replicas r ≡ Some k → admission args request (by_number (procedures_after w world.log k.position) p) ≡ Ok q → call_count world < max_calls
    → IsStep w world (Begin r p args request) (Begun (length world.calls + 1) k.position) (with_begun world r (new_call world p args request k.position))
begin_new w world r p args request k q e admitted few = inl (begins_new w world r p args request k q e admitted few)

pub begin_without_memory : (w : Setting) (world : World) (r p : ℕ) (args : List ℕ) (request : Option RequestId) (k : Replica) (q : StoredProcedure) → numbered world.replicas r ≡ Some k → admission args request (by_number (procedures_after w world.log k.position) p) ≡ Ok q → call_count world < max_calls
    → IsStep w world (Begin r p args request) (Refused NoMemory) world
unfolding after_step_without_memory
begin_without_memory w world r p args request k q e admitted few = inr (ap (λ (d : Done). after_refused_memory world (Begin r p args request) d.0) (begins_new w world r p args request k q e admitted few))

-- ---- Turn

turns : (w : Setting) (world : World) (c : ℕ) (o : Option OpenCall) → open_call world c ≡ o → after_step w world (Turn c) ≡ after_turn w world c o
unfolding after_step
turns w world c o e = ap (after_turn w world c) e

pub turn_no_call : (w : Setting) (world : World) (c : ℕ) → open_call world c ≡ None → IsStep w world (Turn c) (Refused NoCall) world
turn_no_call w world c e = inl (turns w world c None e)

abbrev pub is_gone : Setting → World → OpenCall → Bool
is_gone w world o = nat_lt w.window (position_of (numbered world.replicas o.replica) - o.call.snapshot)

abbrev pub world_after : World → ℕ → OpenCall → TurnAnswer → World
world_after world c n turn = with_open_call world c (cond (stays_open turn) (Some n) None)

turns_fresh : (w : Setting) (world : World) (c : ℕ) (o : OpenCall) → open_call world c ≡ just o → is_stale w world o ≡ false → after_step w world (Turn c) ≡ after_turn_by_run world c o (run_in w world.log o.call)
turns_fresh w world c o e fresh = turns w world c (just o) e ∙ no (is_stale w world o) _ _ fresh

pub turn_on : (w : Setting) (world : World) (c : ℕ) (o n : OpenCall) (turn : TurnAnswer) → open_call world c ≡ Some o → IsTurn w world.log (is_gone w world o) o turn n → IsStep w world (Turn c) (outcome_of turn) (world_after world c n turn)
unfolding is_stale after_step_without_memory
turn_on w world c o n answer.More e h = inl (
    turns_fresh w world c o e h.0
    ∙ yes (nat_lt (o.turns + 1) (run_in w world.log o.call).steps) _ _ (is_lt (o.turns + 1) (run_in w world.log o.call).steps h.1)
    ∙ ap (λ (x : OpenCall). (More, with_open_call world c (just x))) (sym h.2)
    )
turn_on w world c o n (answer.Exit reply) e h = inl (
    turns_fresh w world c o e h.0
    ∙ no (nat_lt (o.turns + 1) (run_in w world.log o.call).steps) _ _ (not_lt (o.turns + 1) (run_in w world.log o.call).steps h.1)
    ∙ ap (λ (x : OpenCall). (Exit (run_in w world.log o.call).reply, with_open_call world c (just x))) (sym h.3)
    ∙ ap (λ (m : ℕ). (Exit m, with_open_call world c (just n))) (sym h.2)
    )
turn_on w world c o n answer.Stale e h = inl (turns w world c (just o) e ∙ yes (is_stale w world o) _ _ h)
turn_on w world c o n answer.NoMemory e h = inr (
    ap (after_turn_without_memory w world c) e ∙ no (is_stale w world o) _ _ h.0 ∙ yes (at_row_helper (procedure_of w world.log o.call) (moment_at w world.log o.call o.turns)) _ _ h.1
    )

-- ---- turns, one after another

at_turns : OpenCall → ℕ → OpenCall
at_turns o turns = record { replica = o.replica; call = o.call; turns = turns }

later_turns : (w : Setting) (world : World) (gone : Bool) (o n : OpenCall) (before : ℕ) (turn : TurnAnswer) → AreTurns w world.log gone (suc before) o turn n → AreTurns w world.log gone before (further 1 o) turn n
unfolding at_turns
later_turns w world gone o n before turn h = (
  λ j lt.
      let here : o.turns + (j + 1) ≡ o.turns + 1 + j = omega arith in
      let next : o.turns + (j + 1 + 1) ≡ o.turns + 1 + (j + 1) = omega arith in
      subst (λ (m : ℕ). IsTurn w world.log gone (at_turns o m) answer.More (at_turns o (o.turns + 1 + (j + 1)))) here
      (subst (λ (m : ℕ). IsTurn w world.log gone (at_turns o (o.turns + (j + 1))) answer.More (at_turns o m)) next (h.0 (j + 1) (omega (arith, lt)))),
  let here : o.turns + suc before ≡ o.turns + 1 + before = omega arith in
      subst (λ (m : ℕ). IsTurn w world.log gone (at_turns o m) turn n) here h.1,
)

-- at the call as it is
at_first : (w : Setting) (world : World) (gone : Bool) (o n : OpenCall) (turn : TurnAnswer) → IsTurn w world.log gone (further 0 o) turn n → IsTurn w world.log gone o turn n
unfolding at_turns
at_first w world gone o n turn h =
    let none : o.turns + 0 ≡ o.turns = omega arith in
    subst (λ (m : ℕ). IsTurn w world.log gone (at_turns o m) turn n) none h

pub execution_on : (w : Setting) (world : World) (c : ℕ) (o n : OpenCall) (before : ℕ) (turn : TurnAnswer) → open_call world c ≡ Some o → AreTurns w world.log (is_gone w world o) before o turn n → IsExecution w world c before (outcome_of turn) (world_after world c n turn)
execution_on w world c o n zero turn e h = turn_on w world c o n turn e (at_first w world (is_gone w world o) o n turn h.1)
execution_on w world c o n (suc before) turn e h =
    let next = further 1 o in
    let between = with_open_call world c (just next) in
    let twice : world_after between c n turn ≡ world_after world c n turn =
    ap (λ (calls : List (Option OpenCall)). record { log = world.log; replicas = world.replicas; calls = calls }) (with_numbered_twice world.calls c (just next) (cond (stays_open turn) (Some n) None)) in (
      between,
      turn_on w world c o next answer.More e (at_first w world (is_gone w world o) o next answer.More (h.0 0 (omega arith))),
      subst (λ (x : World). IsExecution w between c before (outcome_of turn) x) twice
          (execution_on w between c next n before turn (numbered_set world.calls c o next e) (later_turns w world (is_gone w world o) o n before turn h)),
    )

-- what the law of worlds says of steps
abbrev pub KeepsWorlds : Setting → Type 0
KeepsWorlds w = (before : World) (step : Step) (outcome : Outcome) (after : World) → IsGiven w step outcome → IsStep w before step outcome after → IsWorld w before → IsWorld w after

pub execution_keeps : (w : Setting) → KeepsWorlds w → (start : World) (c before : ℕ) (outcome : Outcome) (after : World) → IsExecution w start c before outcome after → IsWorld w start → IsWorld w after
execution_keeps w keeps start c zero outcome after e is = keeps start (Turn c) outcome after tt e is
execution_keeps w keeps start c (suc before) outcome after e is = execution_keeps w keeps e.0 c before outcome after e.2 (keeps start (Turn c) More e.0 tt e.1 is)

-- ---- Order

orders : (w : Setting) (world : World) (c : ℕ) (o : Option OpenCall) → open_call world c ≡ o → after_step w world (Order c) ≡ after_order w world c o
unfolding after_step
orders w world c o e = ap (after_order w world c) e

pub order_no_call : (w : Setting) (world : World) (c : ℕ) → open_call world c ≡ None → IsStep w world (Order c) (Refused NoCall) world
order_no_call w world c e = inl (orders w world c None e)

pub order_early : (w : Setting) (world : World) (c : ℕ) (o : OpenCall) → open_call world c ≡ Some o → o.turns < (run_in w world.log o.call).steps → IsStep w world (Order c) (Refused NotAtExit) world
order_early w world c o e lt = inl (orders w world c (just o) e ∙ yes (nat_lt o.turns (run_in w world.log o.call).steps) _ _ (is_lt o.turns (run_in w world.log o.call).steps lt))

orders_by_run : (w : Setting) (world : World) (c : ℕ) (o : OpenCall) (code : Option ℕ) → open_call world c ≡ just o → o.turns ≡ (run_in w world.log o.call).steps → (run_in w world.log o.call).cancel_code ≡ code
    → after_step w world (Order c) ≡ after_order_by_run world c o.call code (run_in w world.log o.call)
orders_by_run w world c o code e end cancelled =
    let le : (run_in w world.log o.call).steps ≤ o.turns = omega arith in
    orders w world c (just o) e ∙ no (nat_lt o.turns (run_in w world.log o.call).steps) _ _ (not_lt o.turns (run_in w world.log o.call).steps le)
    ∙ ap (λ (x : Option ℕ). after_order_by_run world c o.call x (run_in w world.log o.call)) cancelled

pub order_cancelled : (w : Setting) (world : World) (c : ℕ) (o : OpenCall) (code : ℕ) → open_call world c ≡ Some o → o.turns ≡ (run_in w world.log o.call).steps → (run_in w world.log o.call).cancel_code ≡ Some code
    → IsStep w world (Order c) (Cancelled o.call.snapshot code) (without_call world c)
order_cancelled w world c o code e end cancelled = inl (orders_by_run w world c o (just code) e end cancelled)

pub order_read : (w : Setting) (world : World) (c : ℕ) (o : OpenCall) → open_call world c ≡ Some o → o.turns ≡ (run_in w world.log o.call).steps → (run_in w world.log o.call).cancel_code ≡ None → len (run_in w world.log o.call).writes ≡ 0
    → IsStep w world (Order c) (Read o.call.snapshot (run_in w world.log o.call).reply) (without_call world c)
order_read w world c o e end kept nothing = inl (orders_by_run w world c o None e end kept ∙ yes (nat_eq (len (run_in w world.log o.call).writes) 0) _ _ (one_number (len (run_in w world.log o.call).writes) 0 nothing))

orders_writes : (w : Setting) (world : World) (c : ℕ) (o : OpenCall) → open_call world c ≡ just o → o.turns ≡ (run_in w world.log o.call).steps → (run_in w world.log o.call).cancel_code ≡ None → len (run_in w world.log o.call).writes ≢ 0
    → after_step w world (Order c) ≡ cond (nat_le max_calls (length world.log)) (Refused LogFull, without_call world c) (Ordered (length world.log + 1), with_ordered world c o.call)
orders_writes w world c o e end kept some = orders_by_run w world c o None e end kept ∙ no (nat_eq (len (run_in w world.log o.call).writes) 0) _ _ (no_number (len (run_in w world.log o.call).writes) 0 some)

pub order_full : (w : Setting) (world : World) (c : ℕ) (o : OpenCall) → open_call world c ≡ Some o → o.turns ≡ (run_in w world.log o.call).steps → (run_in w world.log o.call).cancel_code ≡ None → len (run_in w world.log o.call).writes ≢ 0 → max_calls ≤ length world.log
    → IsStep w world (Order c) (Refused LogFull) (without_call world c)
order_full w world c o e end kept some full = inl (orders_writes w world c o e end kept some ∙ yes (nat_le max_calls (length world.log)) _ _ (is_le max_calls (length world.log) full))

orders_new : (w : Setting) (world : World) (c : ℕ) (o : OpenCall) → open_call world c ≡ just o → o.turns ≡ (run_in w world.log o.call).steps → (run_in w world.log o.call).cancel_code ≡ None → len (run_in w world.log o.call).writes ≢ 0 → length world.log < max_calls
    → after_step w world (Order c) ≡ (Ordered (length world.log + 1), with_ordered world c o.call)
orders_new w world c o e end kept some few = orders_writes w world c o e end kept some ∙ no (nat_le max_calls (length world.log)) _ _ (not_le max_calls (length world.log) few)

pub order_new : (w : Setting) (world : World) (c : ℕ) (o : OpenCall) → open_call world c ≡ Some o → o.turns ≡ (run_in w world.log o.call).steps → (run_in w world.log o.call).cancel_code ≡ None → len (run_in w world.log o.call).writes ≢ 0 → length world.log < max_calls
    → IsStep w world (Order c) (Ordered (length world.log + 1)) (with_ordered world c o.call)
order_new w world c o e end kept some few = inl (orders_new w world c o e end kept some few)

pub order_without_memory : (w : Setting) (world : World) (c : ℕ) (o : OpenCall) → open_call world c ≡ Some o → o.turns ≡ (run_in w world.log o.call).steps → (run_in w world.log o.call).cancel_code ≡ None → len (run_in w world.log o.call).writes ≢ 0 → length world.log < max_calls
    → IsStep w world (Order c) (Refused NoMemory) (without_call world c)
unfolding after_step_without_memory
order_without_memory w world c o e end kept some few = inr (ap (λ (d : Done). after_refused_memory world (Order c) d.0) (orders_new w world c o e end kept some few))

-- ---- Deliver

delivers : (w : Setting) (world : World) (r : ℕ) (k : Option Replica) → numbered world.replicas r ≡ k → after_step w world (Deliver r) ≡ after_deliver w world r k
unfolding after_step
delivers w world r k e = ap (after_deliver w world r) e

pub deliver_no_replica : (w : Setting) (world : World) (r : ℕ) → numbered world.replicas r ≡ None → IsStep w world (Deliver r) (Refused NoReplica) world
deliver_no_replica w world r e = inl (delivers w world r None e)

delivers_next : (w : Setting) (world : World) (r : ℕ) (k : Replica) (v : Option Verdict) → numbered world.replicas r ≡ just k → verdict_of w world.log (k.position + 1) ≡ v → after_step w world (Deliver r) ≡ after_deliver_next world r k v
delivers_next w world r k v e f = delivers w world r (just k) e ∙ ap (after_deliver_next world r k) f

pub deliver_nothing : (w : Setting) (world : World) (r : ℕ) (k : Replica) → numbered world.replicas r ≡ Some k → verdict_of w world.log (k.position + 1) ≡ None → IsStep w world (Deliver r) (Refused NothingToDeliver) world
deliver_nothing w world r k e f = inl (delivers_next w world r k None e f)

pub deliver_stopped : (w : Setting) (world : World) (r : ℕ) (k : Replica) (v : Verdict) → numbered world.replicas r ≡ Some k → verdict_of w world.log (k.position + 1) ≡ Some v → k.stopped ≡ true → IsStep w world (Deliver r) (Refused ReplicaStopped) world
deliver_stopped w world r k v e f stopped = inl (delivers_next w world r k (just v) e f ∙ yes k.stopped _ _ stopped)

delivers_new : (w : Setting) (world : World) (r : ℕ) (k : Replica) (v : Verdict) → numbered world.replicas r ≡ just k → verdict_of w world.log (k.position + 1) ≡ just v → k.stopped ≡ false
    → after_step w world (Deliver r) ≡ (Delivered (k.position + 1) v, with_replica world r (record k { position = k.position + 1 }))
delivers_new w world r k v e f going = delivers_next w world r k (just v) e f ∙ no k.stopped _ _ going

pub deliver_new : (w : Setting) (world : World) (r : ℕ) (k : Replica) (v : Verdict) → numbered world.replicas r ≡ Some k → verdict_of w world.log (k.position + 1) ≡ Some v → k.stopped ≡ false
    → IsStep w world (Deliver r) (Delivered (k.position + 1) v) (with_replica world r (record k { position = k.position + 1 }))
deliver_new w world r k v e f going = inl (delivers_new w world r k v e f going)

pub deliver_without_memory : (w : Setting) (world : World) (r : ℕ) (k : Replica) (v : Verdict) → numbered world.replicas r ≡ Some k → verdict_of w world.log (k.position + 1) ≡ Some v → k.stopped ≡ false
    → IsStep w world (Deliver r) (Refused NoMemory) (with_replica world r (record k { stopped = true }))
unfolding after_step_without_memory
deliver_without_memory w world r k v e f going = inr (
    ap (λ (d : Done). after_refused_memory world (Deliver r) d.0) (delivers_new w world r k v e f going)
    ∙ ap (λ (x : Option Replica). just (Refused NoMemory, with_stopped world r x)) e
    )

-- ---- Rebuild

rebuilds : (w : Setting) (world : World) (r : ℕ) (k : Option Replica) → numbered world.replicas r ≡ k → after_step w world (Rebuild r) ≡ after_rebuild world r k
unfolding after_step
rebuilds w world r k e = ap (after_rebuild world r) e

pub rebuild_no_replica : (w : Setting) (world : World) (r : ℕ) → numbered world.replicas r ≡ None → IsStep w world (Rebuild r) (Refused NoReplica) world
rebuild_no_replica w world r e = inl (rebuilds w world r None e)

pub rebuild_new : (w : Setting) (world : World) (r : ℕ) (k : Replica) → numbered world.replicas r ≡ Some k → IsStep w world (Rebuild r) (Rebuilt (length world.log)) (with_replica world r (record { position = length world.log; stopped = false }))
rebuild_new w world r k e = inl (rebuilds w world r (just k) e)

pub rebuild_without_memory : (w : Setting) (world : World) (r : ℕ) (k : Replica) → numbered world.replicas r ≡ Some k → IsStep w world (Rebuild r) (Refused NoMemory) world
unfolding after_step_without_memory
rebuild_without_memory w world r k e = inr (ap (λ (d : Done). after_refused_memory world (Rebuild r) d.0) (rebuilds w world r (just k) e))
