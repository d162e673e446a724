-- The ways in which a step may go.
use Rattle.std.proofs.Common.{◌≡◌, ◌⊎◌, inl, inr, ℕ, ◌+◌, ◌≤◌, ◌<◌, Bool, true, false, not, cond, List, length, nat_eq, nat_le, nat_lt, Option, Some, None, Result, Ok, Err, refl, sym, ap, ◌∙◌, arith}
use Rattle.std.specs.FinMap.{len}
use Rattle.std.proofs.lemmas.Bool.Decides.{nat_tests}
use Rattle.bpf_code.specs.Program.{Program}
use Rattle.bpf_semantics.specs.Run.{Run}
use Rattle.log_model.specs.declared.verdict.Verdict.{Verdict}
use Rattle.dsm_model.specs.declared.outcome.StepRefusal.{StepRefusal}
use Rattle.dsm_model.specs.declared.outcome.StepRefusal.TheVariants.{NoReplica, NoProcedure, ArgumentsLength, NoCall, NotAtExit, NothingToDeliver, ReplicaStopped, LogFull, TooManyCalls, ArgumentsLimit, ProgramRefused, NameShape, ZeroInRequest}
use Rattle.dsm_model.specs.declared.outcome.StepRefusal.TheVariants as step_refusal
use Rattle.log_model.specs.declared.request.RequestId.{RequestId}
use Rattle.dsm_model.specs.declared.outcome.Outcome.{Outcome}
use Rattle.dsm_model.specs.declared.outcome.Outcome.TheVariants.{Begun, More, Exit, Stale, NoMemory, Ordered, Read, Cancelled, Delivered, Rebuilt, Refused, Added}
use Rattle.log_model.specs.Log.{StoredProcedure, Setting, by_number, run_in, verdict_of, moment_at, procedures_after, procedure_of}
use Rattle.dsm_model.specs.World.{World, Replica, Step, Begin, Turn, Order, Deliver, Rebuild, max_calls, numbered, open_call, without_call, with_replica, with_begun, new_call, after_begin, after_admission, is_stale, with_turns, after_turn, with_ordered, after_order_by_run, after_order, after_deliver_next, after_deliver, after_rebuild, after_refused, after_step, with_stopped, after_turn_without_memory, after_refused_memory, after_step_without_memory, IsStep, Add, call_count, position_of, with_added, after_add_checked, after_add}
use Rattle.log_model.specs.OpenCall.{OpenCall, at_row_helper}
use Rattle.log_model.specs.declared.refusal.CallRefusal.{CallRefusal}
use Rattle.log_model.specs.declared.refusal.CallRefusal.TheVariants as call_refusal
use Rattle.log_model.specs.Admission.{admission}
use Rattle.log_model.proofs.AdmissionLemmas.{is_admitted}
use Rattle.program_checks.specs.ProgramCheck.{ProgramCheck, Passed, Failed}
use Rattle.log_model.specs.Name.{is_name}
use Rattle.log_model.proofs.RunLemmas.{just}

abbrev pub Done : Type 0
Done = Outcome × World

abbrev pub done : Outcome → World → Done
done outcome world = (outcome, world)

-- a refused step that changes nothing: of an order, since there is no such call or it isn't at EXIT
pub record SameCase (before : World) (step : Step) (outcome : Outcome) (after : World) : Type 0 where
  pub refusal : StepRefusal
  pub answer : outcome ≡ Refused refusal
  pub same : after ≡ before
  pub not_full : refusal ≡ LogFull → ⊥
  pub order : (c : ℕ) → step ≡ Order c → (refusal ≡ NotAtExit) ⊎ (open_call before c ≡ None)
  pub memory : refusal ≡ step_refusal.NoMemory → after_refused before step ≡ before
  pub deliver : (r : ℕ) → step ≡ Deliver r → refusal ≡ step_refusal.NoMemory → ⊥

pub record BeginCase (w : Setting) (before : World) (step : Step) (outcome : Outcome) (after : World) : Type 0 where
  pub r : ℕ
  pub procedure : ℕ
  pub args : List ℕ
  pub request : Option RequestId
  pub is : step ≡ Begin r procedure args request
  pub replica : Replica
  pub stands : numbered before.replicas r ≡ just replica
  pub stored : StoredProcedure
  pub known : by_number (procedures_after w before.log replica.position) procedure ≡ just stored
  pub count : length args ≡ stored.args_len
  pub few : call_count before < max_calls
  pub answer : outcome ≡ Begun (length before.calls + 1) replica.position
  pub leaves : after ≡ with_begun before r (new_call before procedure args request replica.position)

-- a call is over: its turn was stale or found no memory, or it wasn't to be ordered, or couldn't
pub record OverCase (w : Setting) (before : World) (step : Step) (outcome : Outcome) (after : World) : Type 0 where
  pub c : ℕ
  pub is : (step ≡ Turn c) ⊎ (step ≡ Order c)
  pub leaves : after ≡ without_call before c
  pub answer : (refusal : StepRefusal) → outcome ≡ Refused refusal → (step ≡ Order c) × ((refusal ≡ step_refusal.NoMemory) ⊎ ((refusal ≡ LogFull) × (max_calls ≤ length before.log) × ((o : OpenCall) × (open_call before c ≡ just o))))
  pub no_exit : (reply : ℕ) → outcome ≡ Exit reply → ⊥
  pub no_number : (d : ℕ) → outcome ≡ Ordered d → ⊥
  pub no_verdict : (d : ℕ) (v : Verdict) → outcome ≡ Delivered d v → ⊥

pub record TurnCase (w : Setting) (before : World) (step : Step) (outcome : Outcome) (after : World) : Type 0 where
  pub c : ℕ
  pub is : step ≡ Turn c
  pub o : OpenCall
  pub stands : open_call before c ≡ just o
  pub turns : ℕ
  pub within : turns ≤ (run_in w before.log o.call).steps
  pub answer : (outcome ≡ More) ⊎ ((outcome ≡ Exit (run_in w before.log o.call).reply) × (turns ≡ (run_in w before.log o.call).steps))
  pub leaves : after ≡ with_turns before c o turns

pub record OrderCase (w : Setting) (before : World) (step : Step) (outcome : Outcome) (after : World) : Type 0 where
  pub c : ℕ
  pub is : step ≡ Order c
  pub o : OpenCall
  pub stands : open_call before c ≡ just o
  pub answer : outcome ≡ Ordered (length before.log + 1)
  pub leaves : after ≡ with_ordered before c o.call

pub record DeliverCase (w : Setting) (before : World) (step : Step) (outcome : Outcome) (after : World) : Type 0 where
  pub r : ℕ
  pub is : step ≡ Deliver r
  pub replica : Replica
  pub stands : numbered before.replicas r ≡ just replica
  pub verdict : Verdict
  pub known : verdict_of w before.log (replica.position + 1) ≡ just verdict
  pub answer : outcome ≡ Delivered (replica.position + 1) verdict
  pub leaves : after ≡ with_replica before r (record replica { position = replica.position + 1 })

pub record StopCase (before : World) (step : Step) (outcome : Outcome) (after : World) : Type 0 where
  pub r : ℕ
  pub is : step ≡ Deliver r
  pub replica : Replica
  pub stands : numbered before.replicas r ≡ just replica
  pub answer : outcome ≡ Refused step_refusal.NoMemory
  pub leaves : after ≡ with_replica before r (record replica { stopped = true })

pub record RebuildCase (before : World) (step : Step) (outcome : Outcome) (after : World) : Type 0 where
  pub r : ℕ
  pub is : step ≡ Rebuild r
  pub replica : Replica
  pub stands : numbered before.replicas r ≡ just replica
  pub answer : outcome ≡ Rebuilt (length before.log)
  pub leaves : after ≡ with_replica before r (record { position = length before.log; stopped = false })

pub record AddCase (before : World) (step : Step) (outcome : Outcome) (after : World) : Type 0 where
  pub name : List ℕ
  pub number : ℕ
  pub args_len : ℕ
  pub program : Program
  pub is : step ≡ Add name number args_len (Passed program)
  pub few : call_count before < max_calls
  pub short : args_len ≤ 256
  pub shape : is_name name ≡ true
  pub answer : outcome ≡ Added (length before.log + 1)
  pub leaves : after ≡ with_added before (record { name = name; number = number; program = program; args_len = args_len })

pub data Case (w : Setting) (before : World) (step : Step) (outcome : Outcome) (after : World) : Type 0 where
  Same : SameCase before step outcome after → Case w before step outcome after
  New : BeginCase w before step outcome after → Case w before step outcome after
  Over : OverCase w before step outcome after → Case w before step outcome after
  Turned : TurnCase w before step outcome after → Case w before step outcome after
  Appended : OrderCase w before step outcome after → Case w before step outcome after
  Verdicted : DeliverCase w before step outcome after → Case w before step outcome after
  Stop : StopCase before step outcome after → Case w before step outcome after
  Anew : RebuildCase before step outcome after → Case w before step outcome after
  Put : AddCase before step outcome after → Case w before step outcome after

-- ---- pieces

-- of a choice, the branch that it took
pub either_if : {X : Type 0} (b : Bool) (x y z : X) → cond b x y ≡ z → ((b ≡ true) × (x ≡ z)) ⊎ ((b ≡ false) × (y ≡ z))
either_if true x y z e = inl (refl, e)
either_if false x y z e = inr (refl, e)

pub fst : (a b : Done) → a ≡ b → a.0 ≡ b.0
fst a b e = ap (λ (d : Done). d.0) e

pub snd : (a b : Done) → a ≡ b → a.1 ≡ b.1
snd a b e = ap (λ (d : Done). d.1) e

same_case : (before after : World) (step : Step) (outcome : Outcome) (refusal : StepRefusal) → (refusal ≡ LogFull → ⊥) → ((c : ℕ) → step ≡ Order c → (refusal ≡ NotAtExit) ⊎ (open_call before c ≡ None)) → (refusal ≡ step_refusal.NoMemory → after_refused before step ≡ before) → ((r : ℕ) → step ≡ Deliver r → refusal ≡ step_refusal.NoMemory → ⊥)
    → done (Refused refusal) before ≡ done outcome after → SameCase before step outcome after
same_case before after step outcome refusal not_full order memory deliver e = record {
  refusal = refusal;
  answer = sym (fst (Refused refusal, before) (outcome, after) e);
  same = sym (snd (Refused refusal, before) (outcome, after) e);
  not_full = not_full;
  order = order;
  memory = memory;
  deliver = deliver;
}

-- ---- Begin

begin_case : (w : Setting) (before after : World) (r procedure : ℕ) (args : List ℕ) (request : Option RequestId) (outcome : Outcome) (o : Option Replica) (p : Option StoredProcedure) → numbered before.replicas r ≡ o → by_number (procedures_after w before.log (position_of (numbered before.replicas r))) procedure ≡ p
    → after_begin before r procedure args request o p ≡ (outcome, after) → Case w before (Begin r procedure args request) outcome after
begin_case w before after r procedure args request outcome None p f g e = Same (same_case before after (Begin r procedure args request) outcome NoReplica (λ x. cc) (λ c x. absurd cc) (λ x. absurd cc) (λ r x y. cc) e)
begin_case w before after r procedure args request outcome (Some replica) p f g e = by_answer (admission args request p) refl e
  where
    less : (m n : ℕ) → nat_le m n ≡ false → n < m
    less m n e = grind (arith, nat_tests)

    by_answer : (answer : Result StoredProcedure CallRefusal) → admission args request p ≡ answer → after_admission before r procedure args request replica answer ≡ (outcome, after) → Case w before (Begin r procedure args request) outcome after
    by_answer (Err call_refusal.NoProcedure) h d = Same (same_case before after (Begin r procedure args request) outcome NoProcedure (λ x. cc) (λ c x. absurd cc) (λ x. absurd cc) (λ r x y. cc) d)
    by_answer (Err call_refusal.ArgumentsLength) h d = Same (same_case before after (Begin r procedure args request) outcome ArgumentsLength (λ x. cc) (λ c x. absurd cc) (λ x. absurd cc) (λ r x y. cc) d)
    by_answer (Err call_refusal.ZeroInRequest) h d = Same (same_case before after (Begin r procedure args request) outcome ZeroInRequest (λ x. cc) (λ c x. absurd cc) (λ x. absurd cc) (λ r x y. cc) d)
    by_answer (Ok stored) h d =
        let is = is_admitted args request p stored h in
        elim (either_if (nat_le max_calls (call_count before)) _ _ (outcome, after) d) [
          | inl (t, k) ↦ Same (same_case before after (Begin r procedure args request) outcome TooManyCalls (λ x. cc) (λ c x. absurd cc) (λ x. absurd cc) (λ r x y. cc) k)
          | inr (few, k) ↦ New (record {
            r = r;
            procedure = procedure;
            args = args;
            request = request;
            is = refl;
            replica = replica;
            stands = f;
            stored = stored;
            known = ap (λ (o : Option Replica). by_number (procedures_after w before.log (position_of o)) procedure) (sym f) ∙ g ∙ is.found;
            count = is.fits;
            few = less max_calls (call_count before) few;
            answer = sym (fst (Begun (length before.calls + 1) replica.position, with_begun before r (new_call before procedure args request replica.position)) (outcome, after) k);
            leaves = sym (snd (Begun (length before.calls + 1) replica.position, with_begun before r (new_call before procedure args request replica.position)) (outcome, after) k);
          })
        ]

-- ---- Turn

over_case : (w : Setting) (before after : World) (c : ℕ) (outcome answer : Outcome) → (answer ≡ Stale) ⊎ (answer ≡ NoMemory) → done answer (without_call before c) ≡ done outcome after → OverCase w before (Turn c) outcome after
over_case w before after c outcome answer kind e =
    let same : answer ≡ outcome = fst (answer, without_call before c) (outcome, after) e in
    record {
      c = c;
      is = inl refl;
      leaves = sym (snd (answer, without_call before c) (outcome, after) e);
      answer = λ refusal r. absurd (elim kind [ inl s ↦ (let x = sym s ∙ same ∙ r in cc) | inr m ↦ (let x = sym m ∙ same ∙ r in cc) ]);
      no_exit = λ reply r. elim kind [ inl s ↦ (let x = sym s ∙ same ∙ r in cc) | inr m ↦ (let x = sym m ∙ same ∙ r in cc) ];
      no_number = λ d r. elim kind [ inl s ↦ (let x = sym s ∙ same ∙ r in cc) | inr m ↦ (let x = sym m ∙ same ∙ r in cc) ];
      no_verdict = λ d v r. elim kind [ inl s ↦ (let x = sym s ∙ same ∙ r in cc) | inr m ↦ (let x = sym m ∙ same ∙ r in cc) ];
    }

turn_case : (w : Setting) (before after : World) (c : ℕ) (outcome : Outcome) (o : Option OpenCall) → open_call before c ≡ o → after_turn w before c o ≡ (outcome, after) → Case w before (Turn c) outcome after
turn_case w before after c outcome None f e = Same (same_case before after (Turn c) outcome NoCall (λ x. cc) (λ c x. absurd cc) (λ x. absurd cc) (λ r x y. cc) e)
turn_case w before after c outcome (Some o) f e = elim (either_if (is_stale w before o) _ _ (outcome, after) e) [
  | inl (t, d) ↦ Over (over_case w before after c outcome Stale (inl refl) d)
  | inr (t, d) ↦ elim (either_if (nat_lt (o.turns + 1) (run_in w before.log o.call).steps) _ _ (outcome, after) d) [
    | inl (lt, h) ↦ Turned (record {
      c = c;
      is = refl;
      o = o;
      stands = f;
      turns = o.turns + 1;
      within = fewer (o.turns + 1) (run_in w before.log o.call).steps lt;
      answer = inl (sym (fst (More, with_turns before c o (o.turns + 1)) (outcome, after) h));
      leaves = sym (snd (More, with_turns before c o (o.turns + 1)) (outcome, after) h);
    })
    | inr (ge, h) ↦ Turned (record {
      c = c;
      is = refl;
      o = o;
      stands = f;
      turns = (run_in w before.log o.call).steps;
      within = omega arith;
      answer = inr (sym (fst (Exit (run_in w before.log o.call).reply, with_turns before c o (run_in w before.log o.call).steps) (outcome, after) h), refl);
      leaves = sym (snd (Exit (run_in w before.log o.call).reply, with_turns before c o (run_in w before.log o.call).steps) (outcome, after) h);
    })
  ]
]
  where
    fewer : (m n : ℕ) → nat_lt m n ≡ true → m ≤ n
    fewer m n e = grind (arith, nat_tests)

-- ---- Order

order_over : (w : Setting) (before after : World) (c : ℕ) (o : OpenCall) (outcome answer : Outcome) → open_call before c ≡ just o
    → ((refusal : StepRefusal) → answer ≡ Refused refusal → (refusal ≡ LogFull) × (max_calls ≤ length before.log))
    → ((reply : ℕ) → answer ≡ Exit reply → ⊥) → ((d : ℕ) → answer ≡ Ordered d → ⊥) → ((d : ℕ) (v : Verdict) → answer ≡ Delivered d v → ⊥)
    → done answer (without_call before c) ≡ done outcome after → OverCase w before (Order c) outcome after
order_over w before after c o outcome answer stands full no_exit no_number no_verdict e =
    let same : answer ≡ outcome = fst (answer, without_call before c) (outcome, after) e in
    record {
      c = c;
      is = inr refl;
      leaves = sym (snd (answer, without_call before c) (outcome, after) e);
      answer = λ refusal r. let both = full refusal (same ∙ r) in (refl, inr (both.0, both.1, (o, stands)));
      no_exit = λ reply r. no_exit reply (same ∙ r);
      no_number = λ d r. no_number d (same ∙ r);
      no_verdict = λ d v r. no_verdict d v (same ∙ r);
    }

run_case : (w : Setting) (before after : World) (c : ℕ) (o : OpenCall) (outcome : Outcome) (code : Option ℕ) (r : Run) → open_call before c ≡ just o → after_order_by_run before c o.call code r ≡ (outcome, after) → Case w before (Order c) outcome after
run_case w before after c o outcome (Some code) r f e = Over (order_over w before after c o outcome (Cancelled o.call.snapshot code) f (λ x y. absurd cc) (λ x y. cc) (λ x y. cc) (λ x y z. cc) e)
run_case w before after c o outcome None r f e = elim (either_if (nat_eq (len r.writes) 0) _ _ (outcome, after) e) [
  | inl (t, d) ↦ Over (order_over w before after c o outcome (Read o.call.snapshot r.reply) f (λ x y. absurd cc) (λ x y. cc) (λ x y. cc) (λ x y z. cc) d)
  | inr (t, d) ↦ elim (either_if (nat_le max_calls (length before.log)) _ _ (outcome, after) d) [
    | inl (t, h) ↦ Over (order_over w before after c o outcome (Refused LogFull) f (λ x y. (cc, most max_calls (length before.log) t)) (λ x y. cc) (λ x y. cc) (λ x y z. cc) h)
    | inr (t, h) ↦ Appended (record {
      c = c;
      is = refl;
      o = o;
      stands = f;
      answer = sym (fst (Ordered (length before.log + 1), with_ordered before c o.call) (outcome, after) h);
      leaves = sym (snd (Ordered (length before.log + 1), with_ordered before c o.call) (outcome, after) h);
    })
  ]
]
  where
    most : (m n : ℕ) → nat_le m n ≡ true → m ≤ n
    most m n e = grind (arith, nat_tests)

one_order : (c d : ℕ) → Order c ≡ Order d → c ≡ d
one_order c d e = cc

order_case : (w : Setting) (before after : World) (c : ℕ) (outcome : Outcome) (o : Option OpenCall) → open_call before c ≡ o → after_order w before c o ≡ (outcome, after) → Case w before (Order c) outcome after
order_case w before after c outcome None f e = Same (same_case before after (Order c) outcome NoCall (λ x. cc) (λ d x. inr (ap (open_call before) (sym (one_order c d x)) ∙ f)) (λ x. absurd cc) (λ r x y. cc) e)
order_case w before after c outcome (Some o) f e = elim (either_if (nat_lt o.turns (run_in w before.log o.call).steps) _ _ (outcome, after) e) [
  | inl (t, d) ↦ Same (same_case before after (Order c) outcome NotAtExit (λ x. cc) (λ d x. inl refl) (λ x. absurd cc) (λ r x y. cc) d)
  | inr (t, d) ↦ run_case w before after c o outcome (run_in w before.log o.call).cancel_code (run_in w before.log o.call) f d
]

-- ---- Deliver and Rebuild

next_case : (w : Setting) (before after : World) (r : ℕ) (outcome : Outcome) (replica : Replica) (v : Option Verdict) → numbered before.replicas r ≡ just replica → verdict_of w before.log (replica.position + 1) ≡ v
    → after_deliver_next before r replica v ≡ (outcome, after) → Case w before (Deliver r) outcome after
next_case w before after r outcome replica None f g e = Same (same_case before after (Deliver r) outcome NothingToDeliver (λ x. cc) (λ c x. absurd cc) (λ x. absurd cc) (λ r x y. cc) e)
next_case w before after r outcome replica (Some v) f g e = elim (either_if replica.stopped _ _ (outcome, after) e) [
  | inr (t, d) ↦ Verdicted (record {
    r = r;
    is = refl;
    replica = replica;
    stands = f;
    verdict = v;
    known = g;
    answer = sym (fst (Delivered (replica.position + 1) v, with_replica before r (record replica { position = replica.position + 1 })) (outcome, after) d);
    leaves = sym (snd (Delivered (replica.position + 1) v, with_replica before r (record replica { position = replica.position + 1 })) (outcome, after) d);
  })
  | inl (t, d) ↦ Same (same_case before after (Deliver r) outcome ReplicaStopped (λ x. cc) (λ c x. absurd cc) (λ x. absurd cc) (λ r x y. cc) d)
]

deliver_case : (w : Setting) (before after : World) (r : ℕ) (outcome : Outcome) (o : Option Replica) → numbered before.replicas r ≡ o → after_deliver w before r o ≡ (outcome, after) → Case w before (Deliver r) outcome after
deliver_case w before after r outcome None f e = Same (same_case before after (Deliver r) outcome NoReplica (λ x. cc) (λ c x. absurd cc) (λ x. absurd cc) (λ r x y. cc) e)
deliver_case w before after r outcome (Some replica) f e = next_case w before after r outcome replica (verdict_of w before.log (replica.position + 1)) f refl e

rebuild_case : (w : Setting) (before after : World) (r : ℕ) (outcome : Outcome) (o : Option Replica) → numbered before.replicas r ≡ o → after_rebuild before r o ≡ (outcome, after) → Case w before (Rebuild r) outcome after
rebuild_case w before after r outcome None f e = Same (same_case before after (Rebuild r) outcome NoReplica (λ x. cc) (λ c x. absurd cc) (λ x. absurd cc) (λ r x y. cc) e)
rebuild_case w before after r outcome (Some replica) f e = Anew (record {
  r = r;
  is = refl;
  replica = replica;
  stands = f;
  answer = sym (fst (Rebuilt (length before.log), with_replica before r (record { position = length before.log; stopped = false })) (outcome, after) e);
  leaves = sym (snd (Rebuilt (length before.log), with_replica before r (record { position = length before.log; stopped = false })) (outcome, after) e);
})

-- ---- Add

shaped : (b : Bool) → not b ≡ false → b ≡ true
shaped true e = refl
shaped false e = absurd cc

checked_case : (w : Setting) (before after : World) (name : List ℕ) (number args_len : ℕ) (checked : ProgramCheck) (outcome : Outcome) → call_count before < max_calls → args_len ≤ 256 → after_add_checked before name number args_len checked ≡ (outcome, after) → Case w before (Add name number args_len checked) outcome after
checked_case w before after name number args_len (Failed fault) outcome few short e = Same (same_case before after (Add name number args_len (Failed fault)) outcome (ProgramRefused fault) (λ x. cc) (λ c x. absurd cc) (λ x. absurd cc) (λ r x y. cc) e)
checked_case w before after name number args_len (Passed program) outcome few short e = elim (either_if (not (is_name name)) _ _ (outcome, after) e) [
  | inl (t, d) ↦ Same (same_case before after (Add name number args_len (Passed program)) outcome NameShape (λ x. cc) (λ c x. absurd cc) (λ x. absurd cc) (λ r x y. cc) d)
  | inr (t, d) ↦ Put (record {
    name = name;
    number = number;
    args_len = args_len;
    program = program;
    is = refl;
    few = few;
    short = short;
    shape = shaped (is_name name) t;
    answer = sym (fst (Added (length before.log + 1), with_added before (record { name = name; number = number; program = program; args_len = args_len })) (outcome, after) d);
    leaves = sym (snd (Added (length before.log + 1), with_added before (record { name = name; number = number; program = program; args_len = args_len })) (outcome, after) d);
  })
]

add_case : (w : Setting) (before after : World) (name : List ℕ) (number args_len : ℕ) (checked : ProgramCheck) (outcome : Outcome) → after_add before name number args_len checked ≡ (outcome, after) → Case w before (Add name number args_len checked) outcome after
add_case w before after name number args_len checked outcome e = elim (either_if (nat_le max_calls (call_count before)) _ _ (outcome, after) e) [
  | inl (t, d) ↦ Same (same_case before after (Add name number args_len checked) outcome TooManyCalls (λ x. cc) (λ c x. absurd cc) (λ x. absurd cc) (λ r x y. cc) d)
  | inr (few, d) ↦ elim (either_if (nat_lt 256 args_len) _ _ (outcome, after) d) [
    | inl (t, h) ↦ Same (same_case before after (Add name number args_len checked) outcome ArgumentsLimit (λ x. cc) (λ c x. absurd cc) (λ x. absurd cc) (λ r x y. cc) h)
    | inr (short, h) ↦ checked_case w before after name number args_len checked outcome (less max_calls (call_count before) few) (no_more 256 args_len short) h
  ]
]
  where
    less : (m n : ℕ) → nat_le m n ≡ false → n < m
    less m n e = grind (arith, nat_tests)

    no_more : (m n : ℕ) → nat_lt m n ≡ false → n ≤ m
    no_more m n e = grind (arith, nat_tests)

with_memory_case : (w : Setting) (before after : World) (step : Step) (outcome : Outcome) → after_step w before step ≡ (outcome, after) → Case w before step outcome after
unfolding after_step
with_memory_case w before after (Begin r procedure args request) outcome e = begin_case w before after r procedure args request outcome (numbered before.replicas r) (by_number (procedures_after w before.log (position_of (numbered before.replicas r))) procedure) refl refl e
with_memory_case w before after (Turn c) outcome e = turn_case w before after c outcome (open_call before c) refl e
with_memory_case w before after (Order c) outcome e = order_case w before after c outcome (open_call before c) refl e
with_memory_case w before after (Deliver r) outcome e = deliver_case w before after r outcome (numbered before.replicas r) refl e
with_memory_case w before after (Rebuild r) outcome e = rebuild_case w before after r outcome (numbered before.replicas r) refl e
with_memory_case w before after (Add name number args_len checked) outcome e = add_case w before after name number args_len checked outcome e

-- ---- where memory is refused

some_done : (a b : Done) → just a ≡ just b → a ≡ b
some_done a b e = cc

pub begin_refused : (before after : World) (r procedure : ℕ) (args : List ℕ) (request : Option RequestId) (o outcome : Outcome) → after_refused_memory before (Begin r procedure args request) o ≡ just (outcome, after) → done (Refused step_refusal.NoMemory) before ≡ done outcome after
begin_refused before after r procedure args request (Begun c s) outcome e = some_done _ _ e
begin_refused before after r procedure args request More outcome e = absurd cc
begin_refused before after r procedure args request (Exit n) outcome e = absurd cc
begin_refused before after r procedure args request Stale outcome e = absurd cc
begin_refused before after r procedure args request NoMemory outcome e = absurd cc
begin_refused before after r procedure args request (Ordered d) outcome e = absurd cc
begin_refused before after r procedure args request (Read s n) outcome e = absurd cc
begin_refused before after r procedure args request (Cancelled s n) outcome e = absurd cc
begin_refused before after r procedure args request (Delivered d v) outcome e = absurd cc
begin_refused before after r procedure args request (Rebuilt p) outcome e = absurd cc
begin_refused before after r procedure args request (Added p) outcome e = absurd cc
begin_refused before after r procedure args request (Refused x) outcome e = absurd cc

pub order_refused : (before after : World) (c : ℕ) (o outcome : Outcome) → after_refused_memory before (Order c) o ≡ just (outcome, after) → done (Refused step_refusal.NoMemory) (without_call before c) ≡ done outcome after
order_refused before after c (Ordered d) outcome e = some_done _ _ e
order_refused before after c (Begun a s) outcome e = absurd cc
order_refused before after c More outcome e = absurd cc
order_refused before after c (Exit n) outcome e = absurd cc
order_refused before after c Stale outcome e = absurd cc
order_refused before after c NoMemory outcome e = absurd cc
order_refused before after c (Read s n) outcome e = absurd cc
order_refused before after c (Cancelled s n) outcome e = absurd cc
order_refused before after c (Delivered d v) outcome e = absurd cc
order_refused before after c (Rebuilt p) outcome e = absurd cc
order_refused before after c (Added p) outcome e = absurd cc
order_refused before after c (Refused x) outcome e = absurd cc

pub rebuild_refused : (before after : World) (r : ℕ) (o outcome : Outcome) → after_refused_memory before (Rebuild r) o ≡ just (outcome, after) → done (Refused step_refusal.NoMemory) before ≡ done outcome after
rebuild_refused before after r (Rebuilt p) outcome e = some_done _ _ e
rebuild_refused before after r (Added p) outcome e = absurd cc
rebuild_refused before after r (Begun a s) outcome e = absurd cc
rebuild_refused before after r More outcome e = absurd cc
rebuild_refused before after r (Exit n) outcome e = absurd cc
rebuild_refused before after r Stale outcome e = absurd cc
rebuild_refused before after r NoMemory outcome e = absurd cc
rebuild_refused before after r (Ordered d) outcome e = absurd cc
rebuild_refused before after r (Read s n) outcome e = absurd cc
rebuild_refused before after r (Cancelled s n) outcome e = absurd cc
rebuild_refused before after r (Delivered d v) outcome e = absurd cc
rebuild_refused before after r (Refused x) outcome e = absurd cc

pub add_refused : (before after : World) (name : List ℕ) (number args_len : ℕ) (checked : ProgramCheck) (o outcome : Outcome) → after_refused_memory before (Add name number args_len checked) o ≡ just (outcome, after) → done (Refused step_refusal.NoMemory) before ≡ done outcome after
add_refused before after name number args_len checked (Added p) outcome e = some_done _ _ e
add_refused before after name number args_len checked (Rebuilt p) outcome e = absurd cc
add_refused before after name number args_len checked (Begun a s) outcome e = absurd cc
add_refused before after name number args_len checked More outcome e = absurd cc
add_refused before after name number args_len checked (Exit n) outcome e = absurd cc
add_refused before after name number args_len checked Stale outcome e = absurd cc
add_refused before after name number args_len checked NoMemory outcome e = absurd cc
add_refused before after name number args_len checked (Ordered d) outcome e = absurd cc
add_refused before after name number args_len checked (Read s n) outcome e = absurd cc
add_refused before after name number args_len checked (Cancelled s n) outcome e = absurd cc
add_refused before after name number args_len checked (Delivered d v) outcome e = absurd cc
add_refused before after name number args_len checked (Refused NoReplica) outcome e = absurd cc
add_refused before after name number args_len checked (Refused NoProcedure) outcome e = absurd cc
add_refused before after name number args_len checked (Refused ArgumentsLength) outcome e = absurd cc
add_refused before after name number args_len checked (Refused NoCall) outcome e = absurd cc
add_refused before after name number args_len checked (Refused NotAtExit) outcome e = absurd cc
add_refused before after name number args_len checked (Refused NothingToDeliver) outcome e = absurd cc
add_refused before after name number args_len checked (Refused ReplicaStopped) outcome e = absurd cc
add_refused before after name number args_len checked (Refused LogFull) outcome e = absurd cc
add_refused before after name number args_len checked (Refused step_refusal.NoMemory) outcome e = absurd cc
add_refused before after name number args_len checked (Refused TooManyCalls) outcome e = absurd cc
add_refused before after name number args_len checked (Refused ArgumentsLimit) outcome e = absurd cc
add_refused before after name number args_len checked (Refused ZeroInRequest) outcome e = absurd cc
add_refused before after name number args_len checked (Refused (ProgramRefused fault)) outcome e = some_done _ _ e
add_refused before after name number args_len checked (Refused NameShape) outcome e = some_done _ _ e

-- only a delivery that answers a verdict, so of a replica that there is
pub deliver_refused : (before after : World) (r : ℕ) (o : Done) (outcome : Outcome) → after_refused_memory before (Deliver r) o.0 ≡ just (outcome, after) → ((d : ℕ) × (v : Verdict) × (o.0 ≡ Delivered d v)) × (done (Refused step_refusal.NoMemory) (with_stopped before r (numbered before.replicas r)) ≡ done outcome after)
deliver_refused before after r (Delivered d v, x) outcome e = ((d, v, refl), some_done _ _ e)
deliver_refused before after r (Begun a s, x) outcome e = absurd cc
deliver_refused before after r (More, x) outcome e = absurd cc
deliver_refused before after r (Exit n, x) outcome e = absurd cc
deliver_refused before after r (Stale, x) outcome e = absurd cc
deliver_refused before after r (NoMemory, x) outcome e = absurd cc
deliver_refused before after r (Ordered d, x) outcome e = absurd cc
deliver_refused before after r (Read s n, x) outcome e = absurd cc
deliver_refused before after r (Cancelled s n, x) outcome e = absurd cc
deliver_refused before after r (Rebuilt p, x) outcome e = absurd cc
deliver_refused before after r (Added p, x) outcome e = absurd cc
deliver_refused before after r (Refused y, x) outcome e = absurd cc

stop_case : (w : Setting) (before after : World) (r : ℕ) (outcome : Outcome) (o : Option Replica) (d : ℕ) (v : Verdict) → numbered before.replicas r ≡ o → (after_deliver w before r o).0 ≡ Delivered d v
    → done (Refused step_refusal.NoMemory) (with_stopped before r o) ≡ done outcome after → Case w before (Deliver r) outcome after
stop_case w before after r outcome None d v f g e = absurd cc
stop_case w before after r outcome (Some replica) d v f g e = Stop (record {
  r = r;
  is = refl;
  replica = replica;
  stands = f;
  answer = sym (fst (Refused step_refusal.NoMemory, with_replica before r (record replica { stopped = true })) (outcome, after) e);
  leaves = sym (snd (Refused step_refusal.NoMemory, with_replica before r (record replica { stopped = true })) (outcome, after) e);
})

turn_memory_case : (w : Setting) (before after : World) (c : ℕ) (outcome : Outcome) (o : Option OpenCall) → after_turn_without_memory w before c o ≡ just (outcome, after) → Case w before (Turn c) outcome after
turn_memory_case w before after c outcome None e = absurd cc
turn_memory_case w before after c outcome (Some o) e = elim (either_if (is_stale w before o) None _ (just (outcome, after)) e) [
  | inl (t, d) ↦ absurd cc
  | inr (t, d) ↦ elim (either_if (at_row_helper (procedure_of w before.log o.call) (moment_at w before.log o.call o.turns)) (just (NoMemory, without_call before c)) None (just (outcome, after)) d) [
    | inl (t, h) ↦ Over (over_case w before after c outcome NoMemory (inr refl) (some_done _ _ h))
    | inr (t, h) ↦ absurd cc
  ]
]

order_memory_case : (w : Setting) (before after : World) (c : ℕ) (outcome : Outcome) → done (Refused step_refusal.NoMemory) (without_call before c) ≡ done outcome after → OverCase w before (Order c) outcome after
order_memory_case w before after c outcome e =
    let same : Refused step_refusal.NoMemory ≡ outcome = fst (Refused step_refusal.NoMemory, without_call before c) (outcome, after) e in
    record {
      c = c;
      is = inr refl;
      leaves = sym (snd (Refused step_refusal.NoMemory, without_call before c) (outcome, after) e);
      answer = λ refusal r. (refl, inl (let x = same ∙ r in cc));
      no_exit = λ reply r. (let x = same ∙ r in cc);
      no_number = λ d r. (let x = same ∙ r in cc);
      no_verdict = λ d v r. (let x = same ∙ r in cc);
    }

without_memory_case : (w : Setting) (before after : World) (step : Step) (outcome : Outcome) → after_step_without_memory w before step ≡ just (outcome, after) → Case w before step outcome after
unfolding after_step_without_memory after_step
without_memory_case w before after (Begin r procedure args request) outcome e =
    Same (same_case before after (Begin r procedure args request) outcome step_refusal.NoMemory (λ x. cc) (λ c x. absurd cc) (λ x. refl) (λ r x y. cc) (begin_refused before after r procedure args request (after_step w before (Begin r procedure args request)).0 outcome e))
without_memory_case w before after (Turn c) outcome e = turn_memory_case w before after c outcome (open_call before c) e
without_memory_case w before after (Order c) outcome e = Over (order_memory_case w before after c outcome (order_refused before after c (after_step w before (Order c)).0 outcome e))
without_memory_case w before after (Deliver r) outcome e =
    let (known, done) = deliver_refused before after r (after_step w before (Deliver r)) outcome e in
    stop_case w before after r outcome (numbered before.replicas r) known.0 known.1 refl known.2 done
without_memory_case w before after (Rebuild r) outcome e =
    Same (same_case before after (Rebuild r) outcome step_refusal.NoMemory (λ x. cc) (λ c x. absurd cc) (λ x. refl) (λ r x y. cc) (rebuild_refused before after r (after_step w before (Rebuild r)).0 outcome e))
without_memory_case w before after (Add name number args_len checked) outcome e =
    Same (same_case before after (Add name number args_len checked) outcome step_refusal.NoMemory (λ x. cc) (λ c x. absurd cc) (λ x. refl) (λ r x y. cc) (add_refused before after name number args_len checked (after_step w before (Add name number args_len checked)).0 outcome e))

pub step_case : (w : Setting) (before : World) (step : Step) (outcome : Outcome) (after : World) → IsStep w before step outcome after → Case w before step outcome after
step_case w before step outcome after (inl e) = with_memory_case w before after step outcome e
step_case w before step outcome after (inr e) = without_memory_case w before after step outcome e
