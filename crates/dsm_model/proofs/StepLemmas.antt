-- What each answer of a step says, and what it leaves.
use Rattle.std.proofs.Common.{◌≡◌, ◌⊎◌, IsTrue, inl, inr, ℕ, zero, suc, ◌+◌, ◌-◌, ◌≤◌, ◌<◌, Bool, true, false, not, ◌&&◌, List, length, nat_eq, nat_le, nat_lt, Option, Some, None, Result, Ok, Err, IsSome, IsTrue, refl, sym, ap, ◌∙◌, arith}
use Rattle.std.specs.FinMap.{len}
use Rattle.std.proofs.lemmas.Bool.Decides.{nat_tests}
use Rattle.bpf_code.specs.Program.{Program}
use Rattle.bpf_semantics.specs.Run.{Run}
use Rattle.log_model.specs.declared.request.RequestId.{RequestId}
use Rattle.program_checks.specs.declared.fault.ProgramFault.{ProgramFault}
use Rattle.log_model.specs.declared.verdict.Verdict.{Verdict}
use Rattle.dsm_model.specs.declared.outcome.StepRefusal.{StepRefusal}
use Rattle.dsm_model.specs.declared.outcome.StepRefusal.TheVariants.{NoReplica, NoProcedure, ArgumentsLength, NoCall, NotAtExit, NothingToDeliver, ReplicaStopped, LogFull, TooManyCalls, ArgumentsLimit, ProgramRefused, NameShape, ZeroInRequest}
use Rattle.dsm_model.specs.declared.outcome.StepRefusal.TheVariants as step_refusal
use Rattle.dsm_model.specs.declared.outcome.Outcome.{Outcome}
use Rattle.dsm_model.specs.declared.outcome.Outcome.TheVariants.{Begun, More, Exit, Stale, NoMemory, Ordered, Read, Cancelled, Delivered, Rebuilt, Refused, Added}
use Rattle.log_model.specs.Log.{StoredProcedure, Setting, Call, Log, by_number, run_in, verdict_of, moment_at, procedures_after, procedure_of}
use Rattle.dsm_model.specs.World.{World, Replica, Step, Begin, Turn, Order, Deliver, Rebuild, max_calls, numbered, position_of, open_call, without_call, with_replica, with_begun, after_begin, after_admission, is_stale, with_turns, after_turn, with_ordered, after_order_by_run, after_order, after_deliver_next, after_deliver, after_rebuild, after_step, with_stopped, after_turn_without_memory, after_refused_memory, after_step_without_memory, IsStep, Add, call_count, with_added, after_add_checked, after_add}
use Rattle.log_model.specs.OpenCall.{OpenCall, makes_look, at_row_helper}
use Rattle.log_model.specs.OpenRequest.{has_zero}
use Rattle.log_model.specs.declared.refusal.CallRefusal.{CallRefusal}
use Rattle.log_model.specs.declared.refusal.CallRefusal.TheVariants as call_refusal
use Rattle.log_model.specs.Admission.{admission}
use Rattle.log_model.proofs.AdmissionLemmas.{is_unknown, is_unfit, has_a_zero, is_admitted}
use Rattle.program_checks.specs.ProgramCheck.{ProgramCheck, Passed, Failed}
use Rattle.log_model.specs.Name.{is_name}
use Rattle.log_model.proofs.RunLemmas.{just}
use Rattle.log_model.proofs.EntryLemmas.{verdict_there}
use Rattle.log_model.proofs.GrowthLemmas.{verdict_within}
use Rattle.dsm_model.proofs.Cases.{Done, done, fst, snd, either_if, begin_refused, order_refused, deliver_refused, rebuild_refused, add_refused}

-- ---- where memory is refused, the answer says so

pub record TurnWithoutMemory (w : Setting) (before : World) (c : ℕ) (found : Option OpenCall) (outcome : Outcome) (after : World) : Type 0 where
  pub o : OpenCall
  pub stands : found ≡ just o
  pub kept : is_stale w before o ≡ false
  pub at : at_row_helper (procedure_of w before.log o.call) (moment_at w before.log o.call o.turns) ≡ true
  pub answer : outcome ≡ NoMemory
  pub leaves : after ≡ without_call before c

some_done : (a b : Done) → just a ≡ just b → a ≡ b
some_done a b e = cc

pub turn_without : (w : Setting) (before after : World) (c : ℕ) (outcome : Outcome) (found : Option OpenCall) → after_turn_without_memory w before c found ≡ just (done outcome after) → TurnWithoutMemory w before c found outcome after
turn_without w before after c outcome None e = absurd cc
turn_without w before after c outcome (Some o) e = elim (either_if (is_stale w before o) None _ (just (outcome, after)) e) [
  | inl (t, d) ↦ absurd cc
  | inr (t, d) ↦ elim (either_if (at_row_helper (procedure_of w before.log o.call) (moment_at w before.log o.call o.turns)) (just (NoMemory, without_call before c)) None (just (outcome, after)) d) [
    | inl (at, h) ↦ record {
      o = o;
      stands = refl;
      kept = t;
      at = at;
      answer = sym (fst (NoMemory, without_call before c) (outcome, after) (some_done _ _ h));
      leaves = sym (snd (NoMemory, without_call before c) (outcome, after) (some_done _ _ h));
    }
    | inr (at, h) ↦ absurd cc
  ]
]

memory_answer : (w : Setting) (before after : World) (step : Step) (outcome : Outcome) → after_step_without_memory w before step ≡ just (done outcome after) → (outcome ≡ Refused step_refusal.NoMemory) ⊎ (outcome ≡ NoMemory)
unfolding after_step_without_memory
memory_answer w before after (Begin r procedure args request) outcome e = inl (sym (fst (Refused step_refusal.NoMemory, before) (outcome, after) (begin_refused before after r procedure args request (after_step w before (Begin r procedure args request)).0 outcome e)))
memory_answer w before after (Turn c) outcome e = inr (turn_without w before after c outcome (open_call before c) e).answer
memory_answer w before after (Order c) outcome e = inl (sym (fst (Refused step_refusal.NoMemory, without_call before c) (outcome, after) (order_refused before after c (after_step w before (Order c)).0 outcome e)))
memory_answer w before after (Deliver r) outcome e = inl (sym (fst (Refused step_refusal.NoMemory, with_stopped before r (numbered before.replicas r)) (outcome, after) (deliver_refused before after r (after_step w before (Deliver r)) outcome e).1))
memory_answer w before after (Rebuild r) outcome e = inl (sym (fst (Refused step_refusal.NoMemory, before) (outcome, after) (rebuild_refused before after r (after_step w before (Rebuild r)).0 outcome e)))
memory_answer w before after (Add name number args_len checked) outcome e = inl (sym (fst (Refused step_refusal.NoMemory, before) (outcome, after) (add_refused before after name number args_len checked (after_step w before (Add name number args_len checked)).0 outcome e)))

pub with_memory : (w : Setting) (before after : World) (step : Step) (outcome : Outcome) → (outcome ≡ Refused step_refusal.NoMemory → ⊥) → (outcome ≡ NoMemory → ⊥) → IsStep w before step outcome after → after_step w before step ≡ done outcome after
with_memory w before after step outcome f g (inl e) = e
with_memory w before after step outcome f g (inr e) = absurd (elim (memory_answer w before after step outcome e) [ inl x ↦ f x | inr y ↦ g y ])

-- ---- Begin

less : (m n : ℕ) → nat_le m n ≡ false → n < m
less m n e = grind (arith, nat_tests)

at_most : (m n : ℕ) → nat_le m n ≡ true → m ≤ n
at_most m n e = grind (arith, nat_tests)

begun_call : (a b c d : ℕ) → Begun a b ≡ Begun c d → a ≡ c
begun_call a b c d e = cc

begun_snapshot : (a b c d : ℕ) → Begun a b ≡ Begun c d → b ≡ d
begun_snapshot a b c d e = cc

abbrev begun_world : World → ℕ → ℕ → List ℕ → Option RequestId → ℕ → ℕ → World
begun_world before r procedure args request c snapshot = with_begun before r (record { number = c; procedure = procedure; args = args; snapshot = snapshot; request = request })

-- the ways in which a begin may be answered
data BeginWay (w : Setting) (before : World) (r procedure : ℕ) (args : List ℕ) (request : Option RequestId) (outcome : Outcome) (after : World) : Type 0 where
  Nowhere : numbered before.replicas r ≡ None → outcome ≡ Refused NoReplica → BeginWay w before r procedure args request outcome after
  Unknown : (replica : Replica) → numbered before.replicas r ≡ just replica → by_number (procedures_after w before.log replica.position) procedure ≡ None → outcome ≡ Refused NoProcedure → BeginWay w before r procedure args request outcome after
  Unfit : (replica : Replica) (stored : StoredProcedure) → numbered before.replicas r ≡ just replica → by_number (procedures_after w before.log replica.position) procedure ≡ just stored → (length args ≡ stored.args_len → ⊥) → outcome ≡ Refused ArgumentsLength → BeginWay w before r procedure args request outcome after
  Zero : (replica : Replica) (stored : StoredProcedure) → numbered before.replicas r ≡ just replica → by_number (procedures_after w before.log replica.position) procedure ≡ just stored → length args ≡ stored.args_len → has_zero request ≡ true → outcome ≡ Refused ZeroInRequest → BeginWay w before r procedure args request outcome after
  Many : (replica : Replica) (stored : StoredProcedure) → numbered before.replicas r ≡ just replica → by_number (procedures_after w before.log replica.position) procedure ≡ just stored → length args ≡ stored.args_len → has_zero request ≡ false → max_calls ≤ call_count before → outcome ≡ Refused TooManyCalls → BeginWay w before r procedure args request outcome after
  Begins : (replica : Replica) (stored : StoredProcedure) → numbered before.replicas r ≡ just replica → by_number (procedures_after w before.log replica.position) procedure ≡ just stored → length args ≡ stored.args_len → has_zero request ≡ false → call_count before < max_calls
      → outcome ≡ Begun (length before.calls + 1) replica.position → after ≡ begun_world before r procedure args request (length before.calls + 1) replica.position → BeginWay w before r procedure args request outcome after

begin_way : (w : Setting) (before : World) (r procedure : ℕ) (args : List ℕ) (request : Option RequestId) (outcome : Outcome) (after : World) (o : Option Replica) (p : Option StoredProcedure) → numbered before.replicas r ≡ o → by_number (procedures_after w before.log (position_of (numbered before.replicas r))) procedure ≡ p
    → after_begin before r procedure args request o p ≡ done outcome after → BeginWay w before r procedure args request outcome after
begin_way w before r procedure args request outcome after None p f g e = Nowhere f (sym (fst (Refused NoReplica, before) (outcome, after) e))
begin_way w before r procedure args request outcome after (Some replica) p f g e = by_answer (admission args request p) refl e
  where
    known : by_number (procedures_after w before.log replica.position) procedure ≡ p
    known = ap (λ (o : Option Replica). by_number (procedures_after w before.log (position_of o)) procedure) (sym f) ∙ g

    by_answer : (answer : Result StoredProcedure CallRefusal) → admission args request p ≡ answer → after_admission before r procedure args request replica answer ≡ done outcome after → BeginWay w before r procedure args request outcome after
    by_answer (Err call_refusal.NoProcedure) h d = Unknown replica f (known ∙ is_unknown args request p h) (sym (fst (Refused NoProcedure, before) (outcome, after) d))
    by_answer (Err call_refusal.ArgumentsLength) h d = let no = is_unfit args request p h in Unfit replica no.0 f (known ∙ no.1) no.2 (sym (fst (Refused ArgumentsLength, before) (outcome, after) d))
    by_answer (Err call_refusal.ZeroInRequest) h d = let no = has_a_zero args request p h in Zero replica no.0 f (known ∙ no.1) no.2 no.3 (sym (fst (Refused ZeroInRequest, before) (outcome, after) d))
    by_answer (Ok stored) h d =
        let is = is_admitted args request p stored h in
        elim (either_if (nat_le max_calls (call_count before)) _ _ (outcome, after) d) [
          | inl (t, k) ↦ Many replica stored f (known ∙ is.found) is.fits is.whole (at_most max_calls (call_count before) t) (sym (fst (Refused TooManyCalls, before) (outcome, after) k))
          | inr (few, k) ↦ Begins replica stored f (known ∙ is.found) is.fits is.whole (less max_calls (call_count before) few)
              (sym (fst (Begun (length before.calls + 1) replica.position, begun_world before r procedure args request (length before.calls + 1) replica.position) (outcome, after) k))
              (sym (snd (Begun (length before.calls + 1) replica.position, begun_world before r procedure args request (length before.calls + 1) replica.position) (outcome, after) k))
        ]

way_of_begin : (w : Setting) (before : World) (r procedure : ℕ) (args : List ℕ) (request : Option RequestId) (outcome : Outcome) (after : World) → (outcome ≡ Refused step_refusal.NoMemory → ⊥) → (outcome ≡ NoMemory → ⊥) → IsStep w before (Begin r procedure args request) outcome after → BeginWay w before r procedure args request outcome after
unfolding after_step
way_of_begin w before r procedure args request outcome after f g h =
    begin_way w before r procedure args request outcome after (numbered before.replicas r) (by_number (procedures_after w before.log (position_of (numbered before.replicas r))) procedure) refl refl (with_memory w before after (Begin r procedure args request) outcome f g h)

abbrev HasBegun : Setting → World → ℕ → ℕ → List ℕ → Option RequestId → ℕ → ℕ → World → Type 0
HasBegun w before r procedure args request c snapshot after =
    (replica : Replica) × (stored : StoredProcedure) × (numbered before.replicas r ≡ Some replica) × (by_number (procedures_after w before.log replica.position) procedure ≡ Some stored) × (length args ≡ stored.args_len) × (has_zero request ≡ false) × (call_count before < max_calls) × (c ≡ length before.calls + 1) × (snapshot ≡ replica.position) × (after ≡ begun_world before r procedure args request c snapshot)

begun_by : (w : Setting) (before : World) (r procedure : ℕ) (args : List ℕ) (request : Option RequestId) (c snapshot : ℕ) (outcome : Outcome) (after : World) → outcome ≡ Begun c snapshot → BeginWay w before r procedure args request outcome after → HasBegun w before r procedure args request c snapshot after
begun_by w before r procedure args request c snapshot outcome after is (Nowhere a b) = absurd (let x = sym b ∙ is in cc)
begun_by w before r procedure args request c snapshot outcome after is (Unknown q a b e) = absurd (let x = sym e ∙ is in cc)
begun_by w before r procedure args request c snapshot outcome after is (Unfit q p a b d e) = absurd (let x = sym e ∙ is in cc)
begun_by w before r procedure args request c snapshot outcome after is (Zero q p a b d f e) = absurd (let x = sym e ∙ is in cc)
begun_by w before r procedure args request c snapshot outcome after is (Many q p a b d f g e) = absurd (let x = sym e ∙ is in cc)
begun_by w before r procedure args request c snapshot outcome after is (Begins q p a b d f g e leaves) =
    let call : length before.calls + 1 ≡ c = begun_call (length before.calls + 1) q.position c snapshot (sym e ∙ is) in
    let since : q.position ≡ snapshot = begun_snapshot (length before.calls + 1) q.position c snapshot (sym e ∙ is) in
    (q, p, a, b, d, f, g, sym call, sym since, leaves ∙ ap (λ (n : ℕ). begun_world before r procedure args request n q.position) call ∙ ap (begun_world before r procedure args request c) since)

pub begins : (w : Setting) (before : World) (r procedure : ℕ) (args : List ℕ) (request : Option RequestId) (c snapshot : ℕ) (after : World) → IsStep w before (Begin r procedure args request) (Begun c snapshot) after
    → (replica : Replica) × (stored : StoredProcedure) × (numbered before.replicas r ≡ Some replica) × (by_number (procedures_after w before.log replica.position) procedure ≡ Some stored) × (length args ≡ stored.args_len) × (has_zero request ≡ false) × (call_count before < max_calls) × (c ≡ length before.calls + 1) × (snapshot ≡ replica.position) × (after ≡ begun_world before r procedure args request c snapshot)
begins w before r procedure args request c snapshot after h = begun_by w before r procedure args request c snapshot (Begun c snapshot) after refl (way_of_begin w before r procedure args request (Begun c snapshot) after (λ x. cc) (λ x. cc) h)

nowhere_by : (w : Setting) (before : World) (r procedure : ℕ) (args : List ℕ) (request : Option RequestId) (outcome : Outcome) (after : World) → outcome ≡ Refused NoReplica → BeginWay w before r procedure args request outcome after → numbered before.replicas r ≡ None
nowhere_by w before r procedure args request outcome after is (Nowhere a b) = a
nowhere_by w before r procedure args request outcome after is (Unknown q a b e) = absurd (let x = sym e ∙ is in cc)
nowhere_by w before r procedure args request outcome after is (Unfit q p a b d e) = absurd (let x = sym e ∙ is in cc)
nowhere_by w before r procedure args request outcome after is (Zero q p a b d f e) = absurd (let x = sym e ∙ is in cc)
nowhere_by w before r procedure args request outcome after is (Many q p a b d f g e) = absurd (let x = sym e ∙ is in cc)
nowhere_by w before r procedure args request outcome after is (Begins q p a b d f g e l) = absurd (let x = sym e ∙ is in cc)

pub begins_nowhere : (w : Setting) (before : World) (r procedure : ℕ) (args : List ℕ) (request : Option RequestId) (after : World) → IsStep w before (Begin r procedure args request) (Refused NoReplica) after → numbered before.replicas r ≡ None
begins_nowhere w before r procedure args request after h = nowhere_by w before r procedure args request (Refused NoReplica) after refl (way_of_begin w before r procedure args request (Refused NoReplica) after (λ x. cc) (λ x. cc) h)

unknown_by : (w : Setting) (before : World) (r procedure : ℕ) (args : List ℕ) (request : Option RequestId) (outcome : Outcome) (after : World) → outcome ≡ Refused NoProcedure → BeginWay w before r procedure args request outcome after
    → (replica : Replica) × (numbered before.replicas r ≡ just replica) × (by_number (procedures_after w before.log replica.position) procedure ≡ None)
unknown_by w before r procedure args request outcome after is (Nowhere a b) = absurd (let x = sym b ∙ is in cc)
unknown_by w before r procedure args request outcome after is (Unknown q a b e) = (q, a, b)
unknown_by w before r procedure args request outcome after is (Unfit q p a b d e) = absurd (let x = sym e ∙ is in cc)
unknown_by w before r procedure args request outcome after is (Zero q p a b d f e) = absurd (let x = sym e ∙ is in cc)
unknown_by w before r procedure args request outcome after is (Many q p a b d f g e) = absurd (let x = sym e ∙ is in cc)
unknown_by w before r procedure args request outcome after is (Begins q p a b d f g e l) = absurd (let x = sym e ∙ is in cc)

pub begins_unknown : (w : Setting) (before : World) (r procedure : ℕ) (args : List ℕ) (request : Option RequestId) (after : World) → IsStep w before (Begin r procedure args request) (Refused NoProcedure) after
    → (replica : Replica) × (numbered before.replicas r ≡ Some replica) × (by_number (procedures_after w before.log replica.position) procedure ≡ None)
begins_unknown w before r procedure args request after h = unknown_by w before r procedure args request (Refused NoProcedure) after refl (way_of_begin w before r procedure args request (Refused NoProcedure) after (λ x. cc) (λ x. cc) h)

unfit_by : (w : Setting) (before : World) (r procedure : ℕ) (args : List ℕ) (request : Option RequestId) (outcome : Outcome) (after : World) → outcome ≡ Refused ArgumentsLength → BeginWay w before r procedure args request outcome after
    → (replica : Replica) × (stored : StoredProcedure) × (numbered before.replicas r ≡ just replica) × (by_number (procedures_after w before.log replica.position) procedure ≡ just stored) × (length args ≡ stored.args_len → ⊥)
unfit_by w before r procedure args request outcome after is (Nowhere a b) = absurd (let x = sym b ∙ is in cc)
unfit_by w before r procedure args request outcome after is (Unknown q a b e) = absurd (let x = sym e ∙ is in cc)
unfit_by w before r procedure args request outcome after is (Unfit q p a b d e) = (q, p, a, b, d)
unfit_by w before r procedure args request outcome after is (Zero q p a b d f e) = absurd (let x = sym e ∙ is in cc)
unfit_by w before r procedure args request outcome after is (Many q p a b d f g e) = absurd (let x = sym e ∙ is in cc)
unfit_by w before r procedure args request outcome after is (Begins q p a b d f g e l) = absurd (let x = sym e ∙ is in cc)

pub begins_with_others : (w : Setting) (before : World) (r procedure : ℕ) (args : List ℕ) (request : Option RequestId) (after : World) → IsStep w before (Begin r procedure args request) (Refused ArgumentsLength) after
    → (replica : Replica) × (stored : StoredProcedure) × (numbered before.replicas r ≡ Some replica) × (by_number (procedures_after w before.log replica.position) procedure ≡ Some stored) × (length args ≡ stored.args_len → ⊥)
begins_with_others w before r procedure args request after h = unfit_by w before r procedure args request (Refused ArgumentsLength) after refl (way_of_begin w before r procedure args request (Refused ArgumentsLength) after (λ x. cc) (λ x. cc) h)

zero_by : (w : Setting) (before : World) (r procedure : ℕ) (args : List ℕ) (request : Option RequestId) (outcome : Outcome) (after : World) → outcome ≡ Refused ZeroInRequest → BeginWay w before r procedure args request outcome after
    → (replica : Replica) × (stored : StoredProcedure) × (numbered before.replicas r ≡ just replica) × (by_number (procedures_after w before.log replica.position) procedure ≡ just stored) × (length args ≡ stored.args_len) × (has_zero request ≡ true)
zero_by w before r procedure args request outcome after is (Nowhere a b) = absurd (let x = sym b ∙ is in cc)
zero_by w before r procedure args request outcome after is (Unknown q a b e) = absurd (let x = sym e ∙ is in cc)
zero_by w before r procedure args request outcome after is (Unfit q p a b d e) = absurd (let x = sym e ∙ is in cc)
zero_by w before r procedure args request outcome after is (Zero q p a b d f e) = (q, p, a, b, d, f)
zero_by w before r procedure args request outcome after is (Many q p a b d f g e) = absurd (let x = sym e ∙ is in cc)
zero_by w before r procedure args request outcome after is (Begins q p a b d f g e l) = absurd (let x = sym e ∙ is in cc)

pub begins_with_zero : (w : Setting) (before : World) (r procedure : ℕ) (args : List ℕ) (request : Option RequestId) (after : World) → IsStep w before (Begin r procedure args request) (Refused ZeroInRequest) after
    → (replica : Replica) × (stored : StoredProcedure) × (numbered before.replicas r ≡ Some replica) × (by_number (procedures_after w before.log replica.position) procedure ≡ Some stored) × (length args ≡ stored.args_len) × (has_zero request ≡ true)
begins_with_zero w before r procedure args request after h = zero_by w before r procedure args request (Refused ZeroInRequest) after refl (way_of_begin w before r procedure args request (Refused ZeroInRequest) after (λ x. cc) (λ x. cc) h)

many_by : (w : Setting) (before : World) (r procedure : ℕ) (args : List ℕ) (request : Option RequestId) (outcome : Outcome) (after : World) → outcome ≡ Refused TooManyCalls → BeginWay w before r procedure args request outcome after
    → (replica : Replica) × (stored : StoredProcedure) × (numbered before.replicas r ≡ just replica) × (by_number (procedures_after w before.log replica.position) procedure ≡ just stored) × (length args ≡ stored.args_len) × (has_zero request ≡ false) × (max_calls ≤ call_count before)
many_by w before r procedure args request outcome after is (Nowhere a b) = absurd (let x = sym b ∙ is in cc)
many_by w before r procedure args request outcome after is (Unknown q a b e) = absurd (let x = sym e ∙ is in cc)
many_by w before r procedure args request outcome after is (Unfit q p a b d e) = absurd (let x = sym e ∙ is in cc)
many_by w before r procedure args request outcome after is (Zero q p a b d f e) = absurd (let x = sym e ∙ is in cc)
many_by w before r procedure args request outcome after is (Many q p a b d f g e) = (q, p, a, b, d, f, g)
many_by w before r procedure args request outcome after is (Begins q p a b d f g e l) = absurd (let x = sym e ∙ is in cc)

pub begins_no_more : (w : Setting) (before : World) (r procedure : ℕ) (args : List ℕ) (request : Option RequestId) (after : World) → IsStep w before (Begin r procedure args request) (Refused TooManyCalls) after
    → (replica : Replica) × (stored : StoredProcedure) × (numbered before.replicas r ≡ Some replica) × (by_number (procedures_after w before.log replica.position) procedure ≡ Some stored) × (length args ≡ stored.args_len) × (has_zero request ≡ false) × (max_calls ≤ call_count before)
begins_no_more w before r procedure args request after h = many_by w before r procedure args request (Refused TooManyCalls) after refl (way_of_begin w before r procedure args request (Refused TooManyCalls) after (λ x. cc) (λ x. cc) h)

-- ---- Turn

fewer : (m n : ℕ) → nat_lt m n ≡ true → m < n
fewer m n e = grind (arith, nat_tests)

no_fewer : (m n : ℕ) → nat_lt m n ≡ false → n ≤ m
no_fewer m n e = grind (arith, nat_tests)

same_exit : (a b : ℕ) → Exit a ≡ Exit b → b ≡ a
same_exit a b e = cc

turn_more : (w : Setting) (before after : World) (c : ℕ) (found : Option OpenCall) → after_turn w before c found ≡ done More after → (o : OpenCall) × (found ≡ just o) × (o.turns + 1 < (run_in w before.log o.call).steps) × (after ≡ with_turns before c o (o.turns + 1))
turn_more w before after c None e = absurd (let x = fst (Refused NoCall, before) (More, after) e in cc)
turn_more w before after c (Some o) e = elim (either_if (is_stale w before o) _ _ (More, after) e) [
  | inl (t, d) ↦ absurd (let x = fst (Stale, without_call before c) (More, after) d in cc)
  | inr (t, d) ↦ elim (either_if (nat_lt (o.turns + 1) (run_in w before.log o.call).steps) _ _ (More, after) d) [
    | inl (lt, h) ↦ (o, refl, fewer (o.turns + 1) (run_in w before.log o.call).steps lt, sym (snd (More, with_turns before c o (o.turns + 1)) (More, after) h))
    | inr (ge, h) ↦ absurd (let x = fst (Exit (run_in w before.log o.call).reply, with_turns before c o (run_in w before.log o.call).steps) (More, after) h in cc)
  ]
]

pub turns_on : (w : Setting) (before : World) (c : ℕ) (after : World) → IsStep w before (Turn c) More after → (o : OpenCall) × (open_call before c ≡ Some o) × (o.turns + 1 < (run_in w before.log o.call).steps) × (after ≡ with_turns before c o (o.turns + 1))
unfolding after_step
turns_on w before c after h = turn_more w before after c (open_call before c) (with_memory w before after (Turn c) More (λ x. cc) (λ x. cc) h)

turn_exit : (w : Setting) (before after : World) (c reply : ℕ) (found : Option OpenCall) → after_turn w before c found ≡ done (Exit reply) after → (o : OpenCall) × (found ≡ just o) × ((run_in w before.log o.call).steps ≤ o.turns + 1) × (reply ≡ (run_in w before.log o.call).reply) × (after ≡ with_turns before c o (run_in w before.log o.call).steps)
turn_exit w before after c reply None e = absurd (let x = fst (Refused NoCall, before) (Exit reply, after) e in cc)
turn_exit w before after c reply (Some o) e = elim (either_if (is_stale w before o) _ _ (Exit reply, after) e) [
  | inl (t, d) ↦ absurd (let x = fst (Stale, without_call before c) (Exit reply, after) d in cc)
  | inr (t, d) ↦ elim (either_if (nat_lt (o.turns + 1) (run_in w before.log o.call).steps) _ _ (Exit reply, after) d) [
    | inl (lt, h) ↦ absurd (let x = fst (More, with_turns before c o (o.turns + 1)) (Exit reply, after) h in cc)
    | inr (ge, h) ↦ (o, refl, no_fewer (o.turns + 1) (run_in w before.log o.call).steps ge, same_exit (run_in w before.log o.call).reply reply (fst (Exit (run_in w before.log o.call).reply, with_turns before c o (run_in w before.log o.call).steps) (Exit reply, after) h), sym (snd (Exit (run_in w before.log o.call).reply, with_turns before c o (run_in w before.log o.call).steps) (Exit reply, after) h))
  ]
]

pub turns_to_exit : (w : Setting) (before : World) (c reply : ℕ) (after : World) → IsStep w before (Turn c) (Exit reply) after → (o : OpenCall) × (open_call before c ≡ Some o) × ((run_in w before.log o.call).steps ≤ o.turns + 1) × (reply ≡ (run_in w before.log o.call).reply) × (after ≡ with_turns before c o (run_in w before.log o.call).steps)
unfolding after_step
turns_to_exit w before c reply after h = turn_exit w before after c reply (open_call before c) (with_memory w before after (Turn c) (Exit reply) (λ x. cc) (λ x. cc) h)

both_true : (a b : Bool) → a && b ≡ true → IsTrue a × (b ≡ true)
both_true true b e = (refl, e)
both_true false b e = absurd cc

past : (window position snapshot : ℕ) → nat_lt window (position - snapshot) ≡ true → snapshot + window < position
past window position snapshot e = grind (arith, nat_tests)

-- where it is stale, in words
stale_means : (w : Setting) (before : World) (o : OpenCall) → is_stale w before o ≡ true → IsTrue (makes_look w before.log o) × (o.call.snapshot + w.window < position_of (numbered before.replicas o.replica))
unfolding is_stale
stale_means w before o e =
    let both = both_true (makes_look w before.log o) (nat_lt w.window (position_of (numbered before.replicas o.replica) - o.call.snapshot)) e in
    (both.0, past w.window (position_of (numbered before.replicas o.replica)) o.call.snapshot both.1)

turn_stale : (w : Setting) (before after : World) (c : ℕ) (found : Option OpenCall) → after_turn w before c found ≡ done Stale after → (o : OpenCall) × (found ≡ just o) × (is_stale w before o ≡ true) × (after ≡ without_call before c)
turn_stale w before after c None e = absurd (let x = fst (Refused NoCall, before) (Stale, after) e in cc)
turn_stale w before after c (Some o) e = elim (either_if (is_stale w before o) _ _ (Stale, after) e) [
  | inl (t, d) ↦ (o, refl, t, sym (snd (Stale, without_call before c) (Stale, after) d))
  | inr (t, d) ↦ absurd (elim (either_if (nat_lt (o.turns + 1) (run_in w before.log o.call).steps) _ _ (Stale, after) d) [
    | inl (lt, h) ↦ (let x = fst (More, with_turns before c o (o.turns + 1)) (Stale, after) h in cc)
    | inr (ge, h) ↦ (let x = fst (Exit (run_in w before.log o.call).reply, with_turns before c o (run_in w before.log o.call).steps) (Stale, after) h in cc)
  ])
]

pub turns_stale : (w : Setting) (before : World) (c : ℕ) (after : World) → IsStep w before (Turn c) Stale after
    → (o : OpenCall) × (open_call before c ≡ Some o) × IsTrue (makes_look w before.log o) × (o.call.snapshot + w.window < position_of (numbered before.replicas o.replica)) × (after ≡ without_call before c)
unfolding after_step
turns_stale w before c after h =
    let x = turn_stale w before after c (open_call before c) (with_memory w before after (Turn c) Stale (λ x. cc) (λ x. cc) h) in
    let meaning = stale_means w before x.0 x.2 in
    (x.0, x.1, meaning.0, meaning.1, x.3)

some_call : (a b : OpenCall) → just a ≡ just b → a ≡ b
some_call a b e = cc

-- a turn that isn't stale
turn_kept : (w : Setting) (before after : World) (c : ℕ) (o : OpenCall) (outcome : Outcome) (found : Option OpenCall) → found ≡ just o → (outcome ≡ Stale → ⊥) → after_turn w before c found ≡ done outcome after → is_stale w before o ≡ false
turn_kept w before after c o outcome None f apart e = absurd cc
turn_kept w before after c o outcome (Some p) f apart e = elim (either_if (is_stale w before p) _ _ (outcome, after) e) [
  | inl (t, d) ↦ absurd (apart (sym (fst (Stale, without_call before c) (outcome, after) d)))
  | inr (t, d) ↦ ap (is_stale w before) (sym (some_call p o f)) ∙ t
]

turn_kept_either : (w : Setting) (before after : World) (c : ℕ) (o : OpenCall) (outcome : Outcome) → open_call before c ≡ just o → (outcome ≡ Stale → ⊥) → IsStep w before (Turn c) outcome after → is_stale w before o ≡ false
unfolding after_step after_step_without_memory
turn_kept_either w before after c o outcome f apart (inl e) = turn_kept w before after c o outcome (open_call before c) f apart e
turn_kept_either w before after c o outcome f apart (inr e) =
    let x = turn_without w before after c outcome (open_call before c) e in
    ap (is_stale w before) (some_call o x.o (sym f ∙ x.stands)) ∙ x.kept

near : (window position snapshot : ℕ) → nat_lt window (position - snapshot) ≡ false → position ≤ snapshot + window
near window position snapshot e = grind (arith, nat_tests)

kept_near : (a b : Bool) → a && b ≡ false → IsTrue a → b ≡ false
kept_near true b e t = e
kept_near false b e t = absurd cc

pub turns_kept : (w : Setting) (before : World) (c : ℕ) (o : OpenCall) (outcome : Outcome) (after : World) → IsStep w before (Turn c) outcome after → (outcome ≡ Stale → ⊥) → open_call before c ≡ Some o → IsTrue (makes_look w before.log o) → position_of (numbered before.replicas o.replica) ≤ o.call.snapshot + w.window
unfolding is_stale
turns_kept w before c o outcome after h apart f looks =
    near w.window (position_of (numbered before.replicas o.replica)) o.call.snapshot
    (kept_near (makes_look w before.log o) (nat_lt w.window (position_of (numbered before.replicas o.replica) - o.call.snapshot)) (turn_kept_either w before after c o outcome f apart h) looks)

turn_memory : (w : Setting) (before after : World) (c : ℕ) (found : Option OpenCall) → after_turn w before c found ≡ done NoMemory after → ⊥
turn_memory w before after c None e = let x = fst (Refused NoCall, before) (NoMemory, after) e in cc
turn_memory w before after c (Some o) e = elim (either_if (is_stale w before o) _ _ (NoMemory, after) e) [
  | inl (t, d) ↦ (let x = fst (Stale, without_call before c) (NoMemory, after) d in cc)
  | inr (t, d) ↦ elim (either_if (nat_lt (o.turns + 1) (run_in w before.log o.call).steps) _ _ (NoMemory, after) d) [
    | inl (lt, h) ↦ (let x = fst (More, with_turns before c o (o.turns + 1)) (NoMemory, after) h in cc)
    | inr (ge, h) ↦ (let x = fst (Exit (run_in w before.log o.call).reply, with_turns before c o (run_in w before.log o.call).steps) (NoMemory, after) h in cc)
  ]
]

pub turns_without_memory : (w : Setting) (before : World) (c : ℕ) (after : World) → IsStep w before (Turn c) NoMemory after
    → (o : OpenCall) × (open_call before c ≡ Some o) × IsTrue (at_row_helper (procedure_of w before.log o.call) (moment_at w before.log o.call o.turns)) × (after ≡ without_call before c)
unfolding after_step after_step_without_memory
turns_without_memory w before c after (inl e) = absurd (turn_memory w before after c (open_call before c) e)
turns_without_memory w before c after (inr e) = let x = turn_without w before after c NoMemory (open_call before c) e in (x.o, x.stands, x.at, x.leaves)

turn_none : (w : Setting) (before after : World) (c : ℕ) (found : Option OpenCall) → after_turn w before c found ≡ done (Refused NoCall) after → found ≡ None
turn_none w before after c None e = refl
turn_none w before after c (Some o) e = absurd (elim (either_if (is_stale w before o) _ _ (Refused NoCall, after) e) [
  | inl (t, d) ↦ (let x = fst (Stale, without_call before c) (Refused NoCall, after) d in cc)
  | inr (t, d) ↦ elim (either_if (nat_lt (o.turns + 1) (run_in w before.log o.call).steps) _ _ (Refused NoCall, after) d) [
    | inl (lt, h) ↦ (let x = fst (More, with_turns before c o (o.turns + 1)) (Refused NoCall, after) h in cc)
    | inr (ge, h) ↦ (let x = fst (Exit (run_in w before.log o.call).reply, with_turns before c o (run_in w before.log o.call).steps) (Refused NoCall, after) h in cc)
  ]
])

pub turns_of_none : (w : Setting) (before : World) (c : ℕ) (after : World) → IsStep w before (Turn c) (Refused NoCall) after → open_call before c ≡ None
unfolding after_step
turns_of_none w before c after h = turn_none w before after c (open_call before c) (with_memory w before after (Turn c) (Refused NoCall) (λ x. cc) (λ x. cc) h)

-- ---- Order

same_place : (a b : ℕ) → Ordered a ≡ Ordered b → b ≡ a
same_place a b e = cc

same_code : (a b c d : ℕ) → Cancelled a b ≡ Cancelled c d → (c ≡ a) × (b ≡ d)
same_code a b c d e = (cc, cc)

same_read : (a b c d : ℕ) → Read a b ≡ Read c d → (c ≡ a) × (d ≡ b)
same_read a b c d e = (cc, cc)

no_writes : (m : ℕ) → nat_eq m 0 ≡ true → m ≡ 0
no_writes m e = grind arith

some_writes : (m : ℕ) → nat_eq m 0 ≡ false → m ≡ 0 → ⊥
some_writes m e f = grind arith

by_run_ordered : (before after : World) (c position : ℕ) (call : Call) (code : Option ℕ) (r : Run) → after_order_by_run before c call code r ≡ done (Ordered position) after → (code ≡ None) × (len r.writes ≡ 0 → ⊥) × (position ≡ length before.log + 1) × (length before.log < max_calls) × (after ≡ with_ordered before c call)
by_run_ordered before after c position call (Some code) r e = absurd (let x = fst (Cancelled call.snapshot code, without_call before c) (Ordered position, after) e in cc)
by_run_ordered before after c position call None r e = elim (either_if (nat_eq (len r.writes) 0) _ _ (Ordered position, after) e) [
  | inl (t, d) ↦ absurd (let x = fst (Read call.snapshot r.reply, without_call before c) (Ordered position, after) d in cc)
  | inr (some, d) ↦ elim (either_if (nat_le max_calls (length before.log)) _ _ (Ordered position, after) d) [
    | inl (t, h) ↦ absurd (let x = fst (Refused LogFull, without_call before c) (Ordered position, after) h in cc)
    | inr (t, h) ↦ (refl, some_writes (len r.writes) some, same_place (length before.log + 1) position (fst (Ordered (length before.log + 1), with_ordered before c call) (Ordered position, after) h), less max_calls (length before.log) t, sym (snd (Ordered (length before.log + 1), with_ordered before c call) (Ordered position, after) h))
  ]
]

by_run_cancelled : (before after : World) (c snapshot n : ℕ) (call : Call) (code : Option ℕ) (r : Run) → after_order_by_run before c call code r ≡ done (Cancelled snapshot n) after → (code ≡ Some n) × (snapshot ≡ call.snapshot) × (after ≡ without_call before c)
by_run_cancelled before after c snapshot n call (Some code) r e =
    let same = same_code call.snapshot code snapshot n (fst (Cancelled call.snapshot code, without_call before c) (Cancelled snapshot n, after) e) in
    (ap just same.1, same.0, sym (snd (Cancelled call.snapshot code, without_call before c) (Cancelled snapshot n, after) e))
by_run_cancelled before after c snapshot n call None r e = absurd (elim (either_if (nat_eq (len r.writes) 0) _ _ (Cancelled snapshot n, after) e) [
  | inl (t, d) ↦ (let x = fst (Read call.snapshot r.reply, without_call before c) (Cancelled snapshot n, after) d in cc)
  | inr (some, d) ↦ elim (either_if (nat_le max_calls (length before.log)) _ _ (Cancelled snapshot n, after) d) [
    | inl (t, h) ↦ (let x = fst (Refused LogFull, without_call before c) (Cancelled snapshot n, after) h in cc)
    | inr (t, h) ↦ (let x = fst (Ordered (length before.log + 1), with_ordered before c call) (Cancelled snapshot n, after) h in cc)
  ]
])

by_run_read : (before after : World) (c snapshot reply : ℕ) (call : Call) (code : Option ℕ) (r : Run) → after_order_by_run before c call code r ≡ done (Read snapshot reply) after → (code ≡ None) × (len r.writes ≡ 0) × (snapshot ≡ call.snapshot) × (reply ≡ r.reply) × (after ≡ without_call before c)
by_run_read before after c snapshot reply call (Some code) r e = absurd (let x = fst (Cancelled call.snapshot code, without_call before c) (Read snapshot reply, after) e in cc)
by_run_read before after c snapshot reply call None r e = elim (either_if (nat_eq (len r.writes) 0) _ _ (Read snapshot reply, after) e) [
  | inl (none, d) ↦ (
      let same = same_read call.snapshot r.reply snapshot reply (fst (Read call.snapshot r.reply, without_call before c) (Read snapshot reply, after) d) in
      (refl, no_writes (len r.writes) none, same.0, same.1, sym (snd (Read call.snapshot r.reply, without_call before c) (Read snapshot reply, after) d)))
  | inr (some, d) ↦ absurd (elim (either_if (nat_le max_calls (length before.log)) _ _ (Read snapshot reply, after) d) [
    | inl (t, h) ↦ (let x = fst (Refused LogFull, without_call before c) (Read snapshot reply, after) h in cc)
    | inr (t, h) ↦ (let x = fst (Ordered (length before.log + 1), with_ordered before c call) (Read snapshot reply, after) h in cc)
  ])
]

-- an order that answers something else than a refusal is one of a call at its end
order_at_end : (w : Setting) (before after : World) (c : ℕ) (found : Option OpenCall) (outcome : Outcome) → ((refusal : StepRefusal) → outcome ≡ Refused refusal → ⊥) → after_order w before c found ≡ done outcome after
    → (o : OpenCall) × (found ≡ just o) × ((run_in w before.log o.call).steps ≤ o.turns) × (after_order_by_run before c o.call (run_in w before.log o.call).cancel_code (run_in w before.log o.call) ≡ done outcome after)
order_at_end w before after c None outcome apart e = absurd (apart NoCall (sym (fst (Refused NoCall, before) (outcome, after) e)))
order_at_end w before after c (Some o) outcome apart e = elim (either_if (nat_lt o.turns (run_in w before.log o.call).steps) _ _ (outcome, after) e) [
  | inl (t, d) ↦ absurd (apart NotAtExit (sym (fst (Refused NotAtExit, before) (outcome, after) d)))
  | inr (t, d) ↦ (o, refl, no_fewer o.turns (run_in w before.log o.call).steps t, d)
]

order_answered : (w : Setting) (before after : World) (c : ℕ) (outcome : Outcome) → ((refusal : StepRefusal) → outcome ≡ Refused refusal → ⊥) → (outcome ≡ NoMemory → ⊥) → IsStep w before (Order c) outcome after
    → (o : OpenCall) × (open_call before c ≡ just o) × ((run_in w before.log o.call).steps ≤ o.turns) × (after_order_by_run before c o.call (run_in w before.log o.call).cancel_code (run_in w before.log o.call) ≡ done outcome after)
unfolding after_step
order_answered w before after c outcome apart memory h = order_at_end w before after c (open_call before c) outcome apart (with_memory w before after (Order c) outcome (apart step_refusal.NoMemory) memory h)

pub orders : (w : Setting) (before : World) (c position : ℕ) (after : World) → IsStep w before (Order c) (Ordered position) after
    → (o : OpenCall) × (open_call before c ≡ Some o) × ((run_in w before.log o.call).steps ≤ o.turns) × ((run_in w before.log o.call).cancel_code ≡ None) × (len (run_in w before.log o.call).writes ≡ 0 → ⊥) × (position ≡ length before.log + 1) × (length before.log < max_calls) × (after ≡ with_ordered before c o.call)
orders w before c position after h =
    let x = order_answered w before after c (Ordered position) (λ r y. cc) (λ y. cc) h in
    let facts = by_run_ordered before after c position x.0.call (run_in w before.log x.0.call).cancel_code (run_in w before.log x.0.call) x.3 in
    (x.0, x.1, x.2, facts.0, facts.1, facts.2, facts.3, facts.4)

pub orders_cancelled : (w : Setting) (before : World) (c snapshot code : ℕ) (after : World) → IsStep w before (Order c) (Cancelled snapshot code) after
    → (o : OpenCall) × (open_call before c ≡ Some o) × ((run_in w before.log o.call).steps ≤ o.turns) × ((run_in w before.log o.call).cancel_code ≡ Some code) × (snapshot ≡ o.call.snapshot) × (after ≡ without_call before c)
orders_cancelled w before c snapshot code after h =
    let x = order_answered w before after c (Cancelled snapshot code) (λ r y. cc) (λ y. cc) h in
    let facts = by_run_cancelled before after c snapshot code x.0.call (run_in w before.log x.0.call).cancel_code (run_in w before.log x.0.call) x.3 in
    (x.0, x.1, x.2, facts.0, facts.1, facts.2)

pub orders_read : (w : Setting) (before : World) (c snapshot reply : ℕ) (after : World) → IsStep w before (Order c) (Read snapshot reply) after
    → (o : OpenCall) × (open_call before c ≡ Some o) × ((run_in w before.log o.call).steps ≤ o.turns) × ((run_in w before.log o.call).cancel_code ≡ None) × (len (run_in w before.log o.call).writes ≡ 0) × (snapshot ≡ o.call.snapshot) × (reply ≡ (run_in w before.log o.call).reply) × (after ≡ without_call before c)
orders_read w before c snapshot reply after h =
    let x = order_answered w before after c (Read snapshot reply) (λ r y. cc) (λ y. cc) h in
    let facts = by_run_read before after c snapshot reply x.0.call (run_in w before.log x.0.call).cancel_code (run_in w before.log x.0.call) x.3 in
    (x.0, x.1, x.2, facts.0, facts.1, facts.2, facts.3, facts.4)

one_refusal : (a b : StepRefusal) → Refused a ≡ Refused b → a ≡ b
one_refusal a b e = cc

by_run_refusal : (before after : World) (c : ℕ) (call : Call) (code : Option ℕ) (r : Run) (refusal : StepRefusal) → after_order_by_run before c call code r ≡ done (Refused refusal) after → refusal ≡ LogFull
by_run_refusal before after c call (Some code) r refusal e = absurd (let x = fst (Cancelled call.snapshot code, without_call before c) (Refused refusal, after) e in cc)
by_run_refusal before after c call None r refusal e = elim (either_if (nat_eq (len r.writes) 0) _ _ (Refused refusal, after) e) [
  | inl (none, d) ↦ absurd (let x = fst (Read call.snapshot r.reply, without_call before c) (Refused refusal, after) d in cc)
  | inr (some, d) ↦ elim (either_if (nat_le max_calls (length before.log)) _ _ (Refused refusal, after) d) [
    | inl (t, h) ↦ sym (one_refusal LogFull refusal (fst (Refused LogFull, without_call before c) (Refused refusal, after) h))
    | inr (t, h) ↦ absurd (let x = fst (Ordered (length before.log + 1), with_ordered before c call) (Refused refusal, after) h in cc)
  ]
]

by_run_full : (before after : World) (c : ℕ) (call : Call) (code : Option ℕ) (r : Run) → after_order_by_run before c call code r ≡ done (Refused LogFull) after → (code ≡ None) × (len r.writes ≡ 0 → ⊥) × (max_calls ≤ length before.log) × (after ≡ without_call before c)
by_run_full before after c call (Some code) r e = absurd (let x = fst (Cancelled call.snapshot code, without_call before c) (Refused LogFull, after) e in cc)
by_run_full before after c call None r e = elim (either_if (nat_eq (len r.writes) 0) _ _ (Refused LogFull, after) e) [
  | inl (none, d) ↦ absurd (let x = fst (Read call.snapshot r.reply, without_call before c) (Refused LogFull, after) d in cc)
  | inr (some, d) ↦ elim (either_if (nat_le max_calls (length before.log)) _ _ (Refused LogFull, after) d) [
    | inl (t, h) ↦ (refl, some_writes (len r.writes) some, at_most max_calls (length before.log) t, sym (snd (Refused LogFull, without_call before c) (Refused LogFull, after) h))
    | inr (t, h) ↦ absurd (let x = fst (Ordered (length before.log + 1), with_ordered before c call) (Refused LogFull, after) h in cc)
  ]
]

order_full : (w : Setting) (before after : World) (c : ℕ) (found : Option OpenCall) → after_order w before c found ≡ done (Refused LogFull) after
    → (o : OpenCall) × (found ≡ just o) × ((run_in w before.log o.call).steps ≤ o.turns) × (after_order_by_run before c o.call (run_in w before.log o.call).cancel_code (run_in w before.log o.call) ≡ done (Refused LogFull) after)
order_full w before after c None e = absurd (let x = fst (Refused NoCall, before) (Refused LogFull, after) e in cc)
order_full w before after c (Some o) e = elim (either_if (nat_lt o.turns (run_in w before.log o.call).steps) _ _ (Refused LogFull, after) e) [
  | inl (t, d) ↦ absurd (let x = fst (Refused NotAtExit, before) (Refused LogFull, after) d in cc)
  | inr (t, d) ↦ (o, refl, no_fewer o.turns (run_in w before.log o.call).steps t, d)
]

pub orders_full : (w : Setting) (before : World) (c : ℕ) (after : World) → IsStep w before (Order c) (Refused LogFull) after
    → (o : OpenCall) × (open_call before c ≡ Some o) × ((run_in w before.log o.call).steps ≤ o.turns) × ((run_in w before.log o.call).cancel_code ≡ None) × (len (run_in w before.log o.call).writes ≡ 0 → ⊥) × (max_calls ≤ length before.log) × (after ≡ without_call before c)
unfolding after_step
orders_full w before c after h =
    let x = order_full w before after c (open_call before c) (with_memory w before after (Order c) (Refused LogFull) (λ y. cc) (λ y. cc) h) in
    let facts = by_run_full before after c x.0.call (run_in w before.log x.0.call).cancel_code (run_in w before.log x.0.call) x.3 in
    (x.0, x.1, x.2, facts.0, facts.1, facts.2, facts.3)

order_early : (w : Setting) (before after : World) (c : ℕ) (found : Option OpenCall) → after_order w before c found ≡ done (Refused NotAtExit) after → (o : OpenCall) × (found ≡ just o) × (o.turns < (run_in w before.log o.call).steps)
order_early w before after c None e = absurd (let x = fst (Refused NoCall, before) (Refused NotAtExit, after) e in cc)
order_early w before after c (Some o) e = elim (either_if (nat_lt o.turns (run_in w before.log o.call).steps) _ _ (Refused NotAtExit, after) e) [
  | inl (t, d) ↦ (o, refl, fewer o.turns (run_in w before.log o.call).steps t)
  | inr (t, d) ↦ absurd (let x = by_run_refusal before after c o.call (run_in w before.log o.call).cancel_code (run_in w before.log o.call) NotAtExit d in cc)
]

pub orders_early : (w : Setting) (before : World) (c : ℕ) (after : World) → IsStep w before (Order c) (Refused NotAtExit) after → (o : OpenCall) × (open_call before c ≡ Some o) × (o.turns < (run_in w before.log o.call).steps)
unfolding after_step
orders_early w before c after h = order_early w before after c (open_call before c) (with_memory w before after (Order c) (Refused NotAtExit) (λ x. cc) (λ x. cc) h)

order_none : (w : Setting) (before after : World) (c : ℕ) (found : Option OpenCall) → after_order w before c found ≡ done (Refused NoCall) after → found ≡ None
order_none w before after c None e = refl
order_none w before after c (Some o) e = absurd (elim (either_if (nat_lt o.turns (run_in w before.log o.call).steps) _ _ (Refused NoCall, after) e) [
  | inl (t, d) ↦ (let x = fst (Refused NotAtExit, before) (Refused NoCall, after) d in cc)
  | inr (t, d) ↦ (let x = by_run_refusal before after c o.call (run_in w before.log o.call).cancel_code (run_in w before.log o.call) NoCall d in cc)
])

pub orders_of_none : (w : Setting) (before : World) (c : ℕ) (after : World) → IsStep w before (Order c) (Refused NoCall) after → open_call before c ≡ None
unfolding after_step
orders_of_none w before c after h = order_none w before after c (open_call before c) (with_memory w before after (Order c) (Refused NoCall) (λ x. cc) (λ x. cc) h)

-- ---- Deliver

same_delivery : (a b : ℕ) (u v : Verdict) → Delivered a u ≡ Delivered b v → (b ≡ a) × (u ≡ v)
same_delivery a b u v e = (cc, cc)

record Delivery (w : Setting) (before : World) (r position : ℕ) (v : Verdict) (found : Option Replica) (after : World) : Type 0 where
  replica : Replica
  stands : found ≡ just replica
  going : replica.stopped ≡ false
  next : position ≡ replica.position + 1
  verdict : verdict_of w before.log position ≡ just v
  leaves : after ≡ with_replica before r (record { position = position; stopped = false })

deliver_next : (w : Setting) (before after : World) (r position : ℕ) (v : Verdict) (replica : Replica) (o : Option Verdict) → verdict_of w before.log (replica.position + 1) ≡ o → after_deliver_next before r replica o ≡ done (Delivered position v) after → Delivery w before r position v (just replica) after
deliver_next w before after r position v replica None f e = absurd (let x = fst (Refused NothingToDeliver, before) (Delivered position v, after) e in cc)
deliver_next w before after r position v replica (Some u) f e = elim (either_if replica.stopped _ _ (Delivered position v, after) e) [
  | inl (t, d) ↦ absurd (let x = fst (Refused ReplicaStopped, before) (Delivered position v, after) d in cc)
  | inr (t, d) ↦ (
      let same = same_delivery (replica.position + 1) position u v (fst (Delivered (replica.position + 1) u, with_replica before r (record replica { position = replica.position + 1 })) (Delivered position v, after) d) in
      record {
        replica = replica;
        stands = refl;
        going = t;
        next = same.0;
        verdict = ap (verdict_of w before.log) same.0 ∙ f ∙ ap just same.1;
        leaves = sym (snd (Delivered (replica.position + 1) u, with_replica before r (record replica { position = replica.position + 1 })) (Delivered position v, after) d)
            ∙ ap (λ (n : ℕ). with_replica before r (record { position = n; stopped = replica.stopped })) (sym same.0)
            ∙ ap (λ (b : Bool). with_replica before r (record { position = position; stopped = b })) t;
      })
]

deliver_answered : (w : Setting) (before after : World) (r position : ℕ) (v : Verdict) (found : Option Replica) → after_deliver w before r found ≡ done (Delivered position v) after → Delivery w before r position v found after
deliver_answered w before after r position v None e = absurd (let x = fst (Refused NoReplica, before) (Delivered position v, after) e in cc)
deliver_answered w before after r position v (Some replica) e = deliver_next w before after r position v replica (verdict_of w before.log (replica.position + 1)) refl e

pub delivers : (w : Setting) (before : World) (r position : ℕ) (v : Verdict) (after : World) → IsStep w before (Deliver r) (Delivered position v) after
    → (replica : Replica) × (numbered before.replicas r ≡ Some replica) × (replica.stopped ≡ false) × (position ≡ replica.position + 1) × (verdict_of w before.log position ≡ Some v) × (after ≡ with_replica before r (record { position = position; stopped = false }))
unfolding after_step
delivers w before r position v after h =
    let x = deliver_answered w before after r position v (numbered before.replicas r) (with_memory w before after (Deliver r) (Delivered position v) (λ x. cc) (λ x. cc) h) in
    (x.replica, x.stands, x.going, x.next, x.verdict, x.leaves)

some_verdict : (w : Setting) (log : Log) (d : ℕ) → verdict_of w log (suc d) ≡ None → length log ≤ d
some_verdict w log d e = elim (at_end (length log) d) [
  | inl within ↦ absurd (let there = verdict_there w log d within in missing (verdict_of w log (suc d)) e there)
  | inr beyond ↦ beyond
]
  where
    at_end : (m n : ℕ) → (n < m) ⊎ (m ≤ n)
    at_end zero n = inr (omega arith)
    at_end (suc m) zero = inl (omega arith)
    at_end (suc m) (suc n) = elim (at_end m n) [ inl a ↦ inl (omega arith) | inr b ↦ inr (omega arith) ]

    missing : (o : Option Verdict) → o ≡ None → IsSome o → ⊥
    missing None e there = cc
    missing (Some v) e there = cc

next_nothing : (w : Setting) (before after : World) (r : ℕ) (replica : Replica) (o : Option Verdict) → verdict_of w before.log (replica.position + 1) ≡ o → after_deliver_next before r replica o ≡ done (Refused NothingToDeliver) after → length before.log ≤ replica.position
next_nothing w before after r replica None f e =
    let one : suc replica.position ≡ replica.position + 1 = omega arith in
    some_verdict w before.log replica.position (ap (verdict_of w before.log) one ∙ f)
next_nothing w before after r replica (Some v) f e = absurd (elim (either_if replica.stopped _ _ (Refused NothingToDeliver, after) e) [
  | inr (t, d) ↦ (let x = fst (Delivered (replica.position + 1) v, with_replica before r (record replica { position = replica.position + 1 })) (Refused NothingToDeliver, after) d in cc)
  | inl (t, d) ↦ (let x = fst (Refused ReplicaStopped, before) (Refused NothingToDeliver, after) d in cc)
])

deliver_nothing : (w : Setting) (before after : World) (r : ℕ) (found : Option Replica) → after_deliver w before r found ≡ done (Refused NothingToDeliver) after → (replica : Replica) × (found ≡ just replica) × (length before.log ≤ replica.position)
deliver_nothing w before after r None e = absurd (let x = fst (Refused NoReplica, before) (Refused NothingToDeliver, after) e in cc)
deliver_nothing w before after r (Some replica) e = (replica, refl, next_nothing w before after r replica (verdict_of w before.log (replica.position + 1)) refl e)

pub delivers_nothing : (w : Setting) (before : World) (r : ℕ) (after : World) → IsStep w before (Deliver r) (Refused NothingToDeliver) after → (replica : Replica) × (numbered before.replicas r ≡ Some replica) × (length before.log ≤ replica.position)
unfolding after_step
delivers_nothing w before r after h = deliver_nothing w before after r (numbered before.replicas r) (with_memory w before after (Deliver r) (Refused NothingToDeliver) (λ x. cc) (λ x. cc) h)

next_stopped : (w : Setting) (before after : World) (r : ℕ) (replica : Replica) (o : Option Verdict) → verdict_of w before.log (replica.position + 1) ≡ o → after_deliver_next before r replica o ≡ done (Refused ReplicaStopped) after → (replica.position < length before.log) × (replica.stopped ≡ true)
next_stopped w before after r replica None f e = absurd (let x = fst (Refused NothingToDeliver, before) (Refused ReplicaStopped, after) e in cc)
next_stopped w before after r replica (Some v) f e = elim (either_if replica.stopped _ _ (Refused ReplicaStopped, after) e) [
  | inr (t, d) ↦ absurd (let x = fst (Delivered (replica.position + 1) v, with_replica before r (record replica { position = replica.position + 1 })) (Refused ReplicaStopped, after) d in cc)
  | inl (t, d) ↦ (
      let one : suc replica.position ≡ replica.position + 1 = omega arith in
      (verdict_within w before.log replica.position v (ap (verdict_of w before.log) one ∙ f), t))
]

deliver_stopped : (w : Setting) (before after : World) (r : ℕ) (found : Option Replica) → after_deliver w before r found ≡ done (Refused ReplicaStopped) after → (replica : Replica) × (found ≡ just replica) × (replica.position < length before.log) × (replica.stopped ≡ true)
deliver_stopped w before after r None e = absurd (let x = fst (Refused NoReplica, before) (Refused ReplicaStopped, after) e in cc)
deliver_stopped w before after r (Some replica) e = let x = next_stopped w before after r replica (verdict_of w before.log (replica.position + 1)) refl e in (replica, refl, x.0, x.1)

pub delivers_stopped : (w : Setting) (before : World) (r : ℕ) (after : World) → IsStep w before (Deliver r) (Refused ReplicaStopped) after → (replica : Replica) × (numbered before.replicas r ≡ Some replica) × (replica.position < length before.log) × (replica.stopped ≡ true)
unfolding after_step
delivers_stopped w before r after h = deliver_stopped w before after r (numbered before.replicas r) (with_memory w before after (Deliver r) (Refused ReplicaStopped) (λ x. cc) (λ x. cc) h)

next_no_replica : (before after : World) (r : ℕ) (replica : Replica) (o : Option Verdict) → after_deliver_next before r replica o ≡ done (Refused NoReplica) after → ⊥
next_no_replica before after r replica None e = let x = fst (Refused NothingToDeliver, before) (Refused NoReplica, after) e in cc
next_no_replica before after r replica (Some v) e = elim (either_if replica.stopped _ _ (Refused NoReplica, after) e) [
  | inr (t, d) ↦ (let x = fst (Delivered (replica.position + 1) v, with_replica before r (record replica { position = replica.position + 1 })) (Refused NoReplica, after) d in cc)
  | inl (t, d) ↦ (let x = fst (Refused ReplicaStopped, before) (Refused NoReplica, after) d in cc)
]

deliver_nowhere : (w : Setting) (before after : World) (r : ℕ) (found : Option Replica) → after_deliver w before r found ≡ done (Refused NoReplica) after → found ≡ None
deliver_nowhere w before after r None e = refl
deliver_nowhere w before after r (Some replica) e = absurd (next_no_replica before after r replica (verdict_of w before.log (replica.position + 1)) e)

pub delivers_nowhere : (w : Setting) (before : World) (r : ℕ) (after : World) → IsStep w before (Deliver r) (Refused NoReplica) after → numbered before.replicas r ≡ None
unfolding after_step
delivers_nowhere w before r after h = deliver_nowhere w before after r (numbered before.replicas r) (with_memory w before after (Deliver r) (Refused NoReplica) (λ x. cc) (λ x. cc) h)

-- ---- Rebuild

same_end : (a b : ℕ) → Rebuilt a ≡ Rebuilt b → b ≡ a
same_end a b e = cc

rebuild_answered : (before after : World) (r position : ℕ) (found : Option Replica) → after_rebuild before r found ≡ done (Rebuilt position) after → IsSome found × (position ≡ length before.log) × (after ≡ with_replica before r (record { position = position; stopped = false }))
rebuild_answered before after r position None e = absurd (let x = fst (Refused NoReplica, before) (Rebuilt position, after) e in cc)
rebuild_answered before after r position (Some replica) e =
    let same = same_end (length before.log) position (fst (Rebuilt (length before.log), with_replica before r (record { position = length before.log; stopped = false })) (Rebuilt position, after) e) in
    (refl, same, sym (snd (Rebuilt (length before.log), with_replica before r (record { position = length before.log; stopped = false })) (Rebuilt position, after) e) ∙ ap (λ (n : ℕ). with_replica before r (record { position = n; stopped = false })) (sym same))

pub rebuilds : (w : Setting) (before : World) (r position : ℕ) (after : World) → IsStep w before (Rebuild r) (Rebuilt position) after → IsSome (numbered before.replicas r) × (position ≡ length before.log) × (after ≡ with_replica before r (record { position = position; stopped = false }))
unfolding after_step
rebuilds w before r position after h = rebuild_answered before after r position (numbered before.replicas r) (with_memory w before after (Rebuild r) (Rebuilt position) (λ x. cc) (λ x. cc) h)

rebuild_nowhere : (before after : World) (r : ℕ) (found : Option Replica) → after_rebuild before r found ≡ done (Refused NoReplica) after → found ≡ None
rebuild_nowhere before after r None e = refl
rebuild_nowhere before after r (Some replica) e = absurd (let x = fst (Rebuilt (length before.log), with_replica before r (record { position = length before.log; stopped = false })) (Refused NoReplica, after) e in cc)

pub rebuilds_nowhere : (w : Setting) (before : World) (r : ℕ) (after : World) → IsStep w before (Rebuild r) (Refused NoReplica) after → numbered before.replicas r ≡ None
unfolding after_step
rebuilds_nowhere w before r after h = rebuild_nowhere before after r (numbered before.replicas r) (with_memory w before after (Rebuild r) (Refused NoReplica) (λ x. cc) (λ x. cc) h)

-- ---- Add

-- the ways in which an addition may be answered
pub data AddWay (before : World) (name : List ℕ) (number args_len : ℕ) (checked : ProgramCheck) (outcome : Outcome) (after : World) : Type 0 where
  Full : max_calls ≤ call_count before → outcome ≡ Refused TooManyCalls → AddWay before name number args_len checked outcome after
  Long : call_count before < max_calls → 256 < args_len → outcome ≡ Refused ArgumentsLimit → AddWay before name number args_len checked outcome after
  Faulty : (fault : ProgramFault) → call_count before < max_calls → args_len ≤ 256 → checked ≡ Failed fault → outcome ≡ Refused (ProgramRefused fault) → AddWay before name number args_len checked outcome after
  Misnamed : (program : Program) → call_count before < max_calls → args_len ≤ 256 → checked ≡ Passed program → is_name name ≡ false → outcome ≡ Refused NameShape → AddWay before name number args_len checked outcome after
  Appends : (program : Program) → call_count before < max_calls → args_len ≤ 256 → checked ≡ Passed program → is_name name ≡ true → outcome ≡ Added (length before.log + 1)
      → after ≡ with_added before (record { name = name; number = number; program = program; args_len = args_len }) → AddWay before name number args_len checked outcome after

shaped : (b : Bool) → not b ≡ false → b ≡ true
shaped true e = refl
shaped false e = absurd cc

misshaped : (b : Bool) → not b ≡ true → b ≡ false
misshaped true e = absurd cc
misshaped false e = refl

checked_way : (before : World) (name : List ℕ) (number args_len : ℕ) (checked : ProgramCheck) (outcome : Outcome) (after : World) → call_count before < max_calls → args_len ≤ 256 → after_add_checked before name number args_len checked ≡ done outcome after → AddWay before name number args_len checked outcome after
checked_way before name number args_len (Failed fault) outcome after few short e = Faulty fault few short refl (sym (fst (Refused (ProgramRefused fault), before) (outcome, after) e))
checked_way before name number args_len (Passed program) outcome after few short e = elim (either_if (not (is_name name)) _ _ (outcome, after) e) [
  | inl (t, d) ↦ Misnamed program few short refl (misshaped (is_name name) t) (sym (fst (Refused NameShape, before) (outcome, after) d))
  | inr (t, d) ↦ Appends program few short refl (shaped (is_name name) t)
      (sym (fst (Added (length before.log + 1), with_added before (record { name = name; number = number; program = program; args_len = args_len })) (outcome, after) d))
      (sym (snd (Added (length before.log + 1), with_added before (record { name = name; number = number; program = program; args_len = args_len })) (outcome, after) d))
]

pub add_way : (before : World) (name : List ℕ) (number args_len : ℕ) (checked : ProgramCheck) (outcome : Outcome) (after : World) → after_add before name number args_len checked ≡ done outcome after → AddWay before name number args_len checked outcome after
add_way before name number args_len checked outcome after e = elim (either_if (nat_le max_calls (call_count before)) _ _ (outcome, after) e) [
  | inl (t, d) ↦ Full (at_most max_calls (call_count before) t) (sym (fst (Refused TooManyCalls, before) (outcome, after) d))
  | inr (few, d) ↦ elim (either_if (nat_lt 256 args_len) _ _ (outcome, after) d) [
    | inl (t, h) ↦ Long (less max_calls (call_count before) few) (fewer 256 args_len t) (sym (fst (Refused ArgumentsLimit, before) (outcome, after) h))
    | inr (short, h) ↦ checked_way before name number args_len checked outcome after (less max_calls (call_count before) few) (no_fewer 256 args_len short) h
  ]
]

way_of_add : (w : Setting) (before : World) (name : List ℕ) (number args_len : ℕ) (checked : ProgramCheck) (outcome : Outcome) (after : World) → (outcome ≡ Refused step_refusal.NoMemory → ⊥) → (outcome ≡ NoMemory → ⊥) → IsStep w before (Add name number args_len checked) outcome after → AddWay before name number args_len checked outcome after
unfolding after_step
way_of_add w before name number args_len checked outcome after f g h = add_way before name number args_len checked outcome after (with_memory w before after (Add name number args_len checked) outcome f g h)

-- whatever is answered where no memory is wanted: there is room for the addition, and its arguments are in range
pub wants_by : (before : World) (name : List ℕ) (number args_len : ℕ) (checked : ProgramCheck) (o outcome : Outcome) (after other : World) → after_refused_memory before (Add name number args_len checked) o ≡ just (outcome, after)
    → AddWay before name number args_len checked o other → (call_count before < max_calls) × (args_len ≤ 256)
wants_by before name number args_len checked o outcome after other e (Full a is) = absurd (let x = sym (ap (λ (y : Outcome). after_refused_memory before (Add name number args_len checked) y) is) ∙ e in cc)
wants_by before name number args_len checked o outcome after other e (Long a b is) = absurd (let x = sym (ap (λ (y : Outcome). after_refused_memory before (Add name number args_len checked) y) is) ∙ e in cc)
wants_by before name number args_len checked o outcome after other e (Faulty fault a b d is) = (a, b)
wants_by before name number args_len checked o outcome after other e (Misnamed program a b d f is) = (a, b)
wants_by before name number args_len checked o outcome after other e (Appends program a b d f is leaves) = (a, b)

same_addition : (a b : ℕ) → Added a ≡ Added b → b ≡ a
same_addition a b e = cc

same_fault : (a b : ProgramFault) → Refused (ProgramRefused a) ≡ Refused (ProgramRefused b) → a ≡ b
same_fault a b e = cc

adds_by : (before : World) (name : List ℕ) (number args_len : ℕ) (checked : ProgramCheck) (position : ℕ) (outcome : Outcome) (after : World) → outcome ≡ Added position → AddWay before name number args_len checked outcome after
    → (program : Program) × (checked ≡ Passed program) × (call_count before < max_calls) × (args_len ≤ 256) × (is_name name ≡ true) × (position ≡ length before.log + 1) × (after ≡ with_added before (record { name = name; number = number; program = program; args_len = args_len }))
adds_by before name number args_len checked position outcome after is (Full a e) = absurd (let x = sym e ∙ is in cc)
adds_by before name number args_len checked position outcome after is (Long a b e) = absurd (let x = sym e ∙ is in cc)
adds_by before name number args_len checked position outcome after is (Faulty fault a b d e) = absurd (let x = sym e ∙ is in cc)
adds_by before name number args_len checked position outcome after is (Misnamed program a b d f e) = absurd (let x = sym e ∙ is in cc)
adds_by before name number args_len checked position outcome after is (Appends program a b d f e leaves) = (program, d, a, b, f, same_addition (length before.log + 1) position (sym e ∙ is), leaves)

pub adds : (w : Setting) (before : World) (name : List ℕ) (number args_len : ℕ) (checked : ProgramCheck) (position : ℕ) (after : World) → IsStep w before (Add name number args_len checked) (Added position) after
    → (program : Program) × (checked ≡ Passed program) × (call_count before < max_calls) × (args_len ≤ 256) × (is_name name ≡ true) × (position ≡ length before.log + 1) × (after ≡ with_added before (record { name = name; number = number; program = program; args_len = args_len }))
adds w before name number args_len checked position after h = adds_by before name number args_len checked position (Added position) after refl (way_of_add w before name number args_len checked (Added position) after (λ x. cc) (λ x. cc) h)

full_by : (before : World) (name : List ℕ) (number args_len : ℕ) (checked : ProgramCheck) (outcome : Outcome) (after : World) → outcome ≡ Refused TooManyCalls → AddWay before name number args_len checked outcome after → max_calls ≤ call_count before
full_by before name number args_len checked outcome after is (Full a e) = a
full_by before name number args_len checked outcome after is (Long a b e) = absurd (let x = sym e ∙ is in cc)
full_by before name number args_len checked outcome after is (Faulty fault a b d e) = absurd (let x = sym e ∙ is in cc)
full_by before name number args_len checked outcome after is (Misnamed program a b d f e) = absurd (let x = sym e ∙ is in cc)
full_by before name number args_len checked outcome after is (Appends program a b d f e leaves) = absurd (let x = sym e ∙ is in cc)

pub adds_no_more : (w : Setting) (before : World) (name : List ℕ) (number args_len : ℕ) (checked : ProgramCheck) (after : World) → IsStep w before (Add name number args_len checked) (Refused TooManyCalls) after → max_calls ≤ call_count before
adds_no_more w before name number args_len checked after h = full_by before name number args_len checked (Refused TooManyCalls) after refl (way_of_add w before name number args_len checked (Refused TooManyCalls) after (λ x. cc) (λ x. cc) h)

long_by : (before : World) (name : List ℕ) (number args_len : ℕ) (checked : ProgramCheck) (outcome : Outcome) (after : World) → outcome ≡ Refused ArgumentsLimit → AddWay before name number args_len checked outcome after → (call_count before < max_calls) × (256 < args_len)
long_by before name number args_len checked outcome after is (Full a e) = absurd (let x = sym e ∙ is in cc)
long_by before name number args_len checked outcome after is (Long a b e) = (a, b)
long_by before name number args_len checked outcome after is (Faulty fault a b d e) = absurd (let x = sym e ∙ is in cc)
long_by before name number args_len checked outcome after is (Misnamed program a b d f e) = absurd (let x = sym e ∙ is in cc)
long_by before name number args_len checked outcome after is (Appends program a b d f e leaves) = absurd (let x = sym e ∙ is in cc)

pub adds_too_long : (w : Setting) (before : World) (name : List ℕ) (number args_len : ℕ) (checked : ProgramCheck) (after : World) → IsStep w before (Add name number args_len checked) (Refused ArgumentsLimit) after → (call_count before < max_calls) × (256 < args_len)
adds_too_long w before name number args_len checked after h = long_by before name number args_len checked (Refused ArgumentsLimit) after refl (way_of_add w before name number args_len checked (Refused ArgumentsLimit) after (λ x. cc) (λ x. cc) h)

faulty_by : (before : World) (name : List ℕ) (number args_len : ℕ) (checked : ProgramCheck) (refused : ProgramFault) (outcome : Outcome) (after : World) → outcome ≡ Refused (ProgramRefused refused) → AddWay before name number args_len checked outcome after → (call_count before < max_calls) × (args_len ≤ 256) × (checked ≡ Failed refused)
faulty_by before name number args_len checked refused outcome after is (Full a e) = absurd (let x = sym e ∙ is in cc)
faulty_by before name number args_len checked refused outcome after is (Long a b e) = absurd (let x = sym e ∙ is in cc)
faulty_by before name number args_len checked refused outcome after is (Faulty fault a b d e) = (a, b, d ∙ ap (λ (f : ProgramFault). Failed f) (same_fault fault refused (sym e ∙ is)))
faulty_by before name number args_len checked refused outcome after is (Misnamed program a b d f e) = absurd (let x = sym e ∙ is in cc)
faulty_by before name number args_len checked refused outcome after is (Appends program a b d f e leaves) = absurd (let x = sym e ∙ is in cc)

pub adds_faulty : (w : Setting) (before : World) (name : List ℕ) (number args_len : ℕ) (checked : ProgramCheck) (fault : ProgramFault) (after : World) → IsStep w before (Add name number args_len checked) (Refused (ProgramRefused fault)) after → (call_count before < max_calls) × (args_len ≤ 256) × (checked ≡ Failed fault)
adds_faulty w before name number args_len checked fault after h = faulty_by before name number args_len checked fault (Refused (ProgramRefused fault)) after refl (way_of_add w before name number args_len checked (Refused (ProgramRefused fault)) after (λ x. cc) (λ x. cc) h)

misnamed_by : (before : World) (name : List ℕ) (number args_len : ℕ) (checked : ProgramCheck) (outcome : Outcome) (after : World) → outcome ≡ Refused NameShape → AddWay before name number args_len checked outcome after → (program : Program) × (checked ≡ Passed program) × (call_count before < max_calls) × (args_len ≤ 256) × (is_name name ≡ false)
misnamed_by before name number args_len checked outcome after is (Full a e) = absurd (let x = sym e ∙ is in cc)
misnamed_by before name number args_len checked outcome after is (Long a b e) = absurd (let x = sym e ∙ is in cc)
misnamed_by before name number args_len checked outcome after is (Faulty fault a b d e) = absurd (let x = sym e ∙ is in cc)
misnamed_by before name number args_len checked outcome after is (Misnamed program a b d f e) = (program, d, a, b, f)
misnamed_by before name number args_len checked outcome after is (Appends program a b d f e leaves) = absurd (let x = sym e ∙ is in cc)

pub adds_misnamed : (w : Setting) (before : World) (name : List ℕ) (number args_len : ℕ) (checked : ProgramCheck) (after : World) → IsStep w before (Add name number args_len checked) (Refused NameShape) after → (program : Program) × (checked ≡ Passed program) × (call_count before < max_calls) × (args_len ≤ 256) × (is_name name ≡ false)
adds_misnamed w before name number args_len checked after h = misnamed_by before name number args_len checked (Refused NameShape) after refl (way_of_add w before name number args_len checked (Refused NameShape) after (λ x. cc) (λ x. cc) h)
