-- What refused steps leave, and that the log is never full.
use Rattle.std.proofs.Common.{true, ◌≡◌, ◌⊎◌, inl, inr, ℕ, ◌≤◌, List, length, Option, Some, None, refl, sym, ap, ◌∙◌, arith}
use Rattle.dsm_model.specs.declared.outcome.StepRefusal.{StepRefusal}
use Rattle.dsm_model.specs.declared.outcome.StepRefusal.TheVariants.{NotAtExit, LogFull}
use Rattle.dsm_model.specs.declared.outcome.StepRefusal.TheVariants as step_refusal
use Rattle.log_model.specs.declared.request.RequestId.{RequestId}
use Rattle.dsm_model.specs.declared.outcome.Outcome.{Outcome}
use Rattle.dsm_model.specs.declared.outcome.Outcome.TheVariants.{Stale, NoMemory, Refused}
use Rattle.log_model.specs.Log.{Setting}
use Rattle.dsm_model.specs.World.{World, Replica, Step, Begin, Turn, Order, Deliver, Rebuild, Add, max_calls, numbered, open_call, with_open_call, without_call, with_replica, with_stopped, after_refused, IsStep}
use Rattle.log_model.specs.OpenCall.{OpenCall}
use Rattle.program_checks.specs.ProgramCheck.{ProgramCheck}
use Rattle.dsm_model.specs.Sound.{IsWorld}
use Rattle.log_model.proofs.RunLemmas.{just}
use Rattle.dsm_model.proofs.Numbered.{numbered_gone, numbered_count}
use Rattle.dsm_model.proofs.Cases.{Case, Same, New, Over, Turned, Appended, Verdicted, Stop, Anew, Put, step_case}

one_refusal : (a b : StepRefusal) → Refused a ≡ Refused b → a ≡ b
one_refusal a b e = cc

one_turn : (c d : ℕ) → Turn c ≡ Turn d → c ≡ d
one_turn c d e = cc

one_order : (c d : ℕ) → Order c ≡ Order d → c ≡ d
one_order c d e = cc

case_same : (w : Setting) (before : World) (step : Step) (refusal : StepRefusal) (outcome : Outcome) (after : World) → outcome ≡ Refused refusal → (refusal ≡ step_refusal.NoMemory → ⊥) → (refusal ≡ LogFull → ⊥) → Case w before step outcome after → after ≡ before
case_same w before step refusal outcome after is apart full (Same c) = c.same
case_same w before step refusal outcome after is apart full (New c) = absurd (let e = sym c.answer ∙ is in cc)
case_same w before step refusal outcome after is apart full (Over c) = absurd (elim (c.answer refusal is).1 [ inl m ↦ apart m | inr f ↦ full f.0 ])
case_same w before step refusal outcome after is apart full (Turned c) = absurd (elim c.answer [ inl m ↦ (let e = sym m ∙ is in cc) | inr x ↦ (let e = sym x.0 ∙ is in cc) ])
case_same w before step refusal outcome after is apart full (Appended c) = absurd (let e = sym c.answer ∙ is in cc)
case_same w before step refusal outcome after is apart full (Verdicted c) = absurd (let e = sym c.answer ∙ is in cc)
case_same w before step refusal outcome after is apart full (Stop c) = absurd (apart (one_refusal refusal step_refusal.NoMemory (sym is ∙ c.answer)))
case_same w before step refusal outcome after is apart full (Anew c) = absurd (let e = sym c.answer ∙ is in cc)
case_same w before step refusal outcome after is apart full (Put c) = absurd (let e = sym c.answer ∙ is in cc)

pub refused_same : (w : Setting) (before : World) (step : Step) (refusal : StepRefusal) (after : World) → IsStep w before step (Refused refusal) after → (refusal ≡ step_refusal.NoMemory → ⊥) → (refusal ≡ LogFull → ⊥) → after ≡ before
refused_same w before step refusal after e apart full = case_same w before step refusal (Refused refusal) after refl apart full (step_case w before step (Refused refusal) after e)

stopped_is : (before : World) (r : ℕ) (replica : Replica) → numbered before.replicas r ≡ just replica → after_refused before (Deliver r) ≡ with_stopped before r (just replica)
stopped_is before r replica e = ap (with_stopped before r) e

case_memory : (w : Setting) (before : World) (step : Step) (outcome : Outcome) (after : World) → outcome ≡ Refused step_refusal.NoMemory → Case w before step outcome after → after ≡ after_refused before step
case_memory w before step outcome after is (Same c) = c.same ∙ sym (c.memory (one_refusal c.refusal step_refusal.NoMemory (sym c.answer ∙ is)))
case_memory w before step outcome after is (New c) = absurd (let e = sym c.answer ∙ is in cc)
case_memory w before step outcome after is (Over c) = elim c.is [
  | inl turn ↦ absurd (let both = c.answer step_refusal.NoMemory is in let e = sym turn ∙ both.0 in cc)
  | inr order ↦ c.leaves ∙ ap (after_refused before) (sym order)
]
case_memory w before step outcome after is (Turned c) = absurd (elim c.answer [ inl m ↦ (let e = sym m ∙ is in cc) | inr x ↦ (let e = sym x.0 ∙ is in cc) ])
case_memory w before step outcome after is (Appended c) = absurd (let e = sym c.answer ∙ is in cc)
case_memory w before step outcome after is (Verdicted c) = absurd (let e = sym c.answer ∙ is in cc)
case_memory w before step outcome after is (Stop c) = c.leaves ∙ sym (stopped_is before c.r c.replica c.stands) ∙ ap (after_refused before) (sym c.is)
case_memory w before step outcome after is (Anew c) = absurd (let e = sym c.answer ∙ is in cc)
case_memory w before step outcome after is (Put c) = absurd (let e = sym c.answer ∙ is in cc)

pub refused_memory_leaves : (w : Setting) (before : World) (step : Step) (after : World) → IsStep w before step (Refused step_refusal.NoMemory) after → after ≡ after_refused before step
refused_memory_leaves w before step after e = case_memory w before step (Refused step_refusal.NoMemory) after refl (step_case w before step (Refused step_refusal.NoMemory) after e)

pub order_memory : (w : Setting) (before : World) (c : ℕ) (after : World) → IsStep w before (Order c) (Refused step_refusal.NoMemory) after → after ≡ with_open_call before c None
order_memory w before c after e = refused_memory_leaves w before (Order c) after e

pub begin_memory : (w : Setting) (before : World) (r procedure : ℕ) (args : List ℕ) (request : Option RequestId) (after : World) → IsStep w before (Begin r procedure args request) (Refused step_refusal.NoMemory) after → after ≡ before
begin_memory w before r procedure args request after e = refused_memory_leaves w before (Begin r procedure args request) after e

pub rebuild_memory : (w : Setting) (before : World) (r : ℕ) (after : World) → IsStep w before (Rebuild r) (Refused step_refusal.NoMemory) after → after ≡ before
rebuild_memory w before r after e = refused_memory_leaves w before (Rebuild r) after e

one_deliver : (r q : ℕ) → Deliver r ≡ Deliver q → r ≡ q
one_deliver r q e = cc

case_stopped : (w : Setting) (before : World) (step : Step) (r : ℕ) (outcome : Outcome) (after : World) → step ≡ Deliver r → outcome ≡ Refused step_refusal.NoMemory → Case w before step outcome after
    → (replica : Replica) × (numbered before.replicas r ≡ just replica) × (after ≡ with_replica before r (record { position = replica.position; stopped = true }))
case_stopped w before step r outcome after is answer (Same c) = absurd (c.deliver r is (one_refusal c.refusal step_refusal.NoMemory (sym c.answer ∙ answer)))
case_stopped w before step r outcome after is answer (New c) = absurd (let e = sym c.is ∙ is in cc)
case_stopped w before step r outcome after is answer (Over c) = absurd (elim c.is [ inl turn ↦ (let e = sym turn ∙ is in cc) | inr order ↦ (let e = sym order ∙ is in cc) ])
case_stopped w before step r outcome after is answer (Turned c) = absurd (let e = sym c.is ∙ is in cc)
case_stopped w before step r outcome after is answer (Appended c) = absurd (let e = sym c.is ∙ is in cc)
case_stopped w before step r outcome after is answer (Verdicted c) = absurd (let e = sym c.answer ∙ answer in cc)
case_stopped w before step r outcome after is answer (Stop c) =
    let same = one_deliver c.r r (sym c.is ∙ is) in
    (c.replica, ap (numbered before.replicas) (sym same) ∙ c.stands, c.leaves ∙ ap (λ (n : ℕ). with_replica before n (record c.replica { stopped = true })) same)
case_stopped w before step r outcome after is answer (Anew c) = absurd (let e = sym c.is ∙ is in cc)
case_stopped w before step r outcome after is answer (Put c) = absurd (let e = sym c.is ∙ is in cc)

pub deliver_memory : (w : Setting) (before : World) (r : ℕ) (after : World) → IsStep w before (Deliver r) (Refused step_refusal.NoMemory) after
    → (replica : Replica) × (numbered before.replicas r ≡ Some replica) × (after ≡ with_replica before r (record { position = replica.position; stopped = true }))
deliver_memory w before r after e = case_stopped w before (Deliver r) r (Refused step_refusal.NoMemory) after refl refl (step_case w before (Deliver r) (Refused step_refusal.NoMemory) after e)

-- ---- Order

case_over : (w : Setting) (before : World) (step : Step) (c : ℕ) (outcome : Outcome) (after : World) → step ≡ Order c → Case w before step outcome after → (outcome ≡ Refused NotAtExit) ⊎ (open_call after c ≡ None)
case_over w before step c outcome after is (Same x) = elim (x.order c is) [
  | inl exit ↦ inl (x.answer ∙ ap (λ (r : StepRefusal). Refused r) exit)
  | inr gone ↦ inr (ap (λ (v : World). open_call v c) x.same ∙ gone)
]
case_over w before step c outcome after is (New x) = absurd (let e = sym x.is ∙ is in cc)
case_over w before step c outcome after is (Over x) = elim x.is [
  | inl turn ↦ absurd (let e = sym turn ∙ is in cc)
  | inr order ↦
      let same = one_order x.c c (sym order ∙ is) in
      inr (ap (λ (v : World). open_call v c) x.leaves ∙ ap (open_call (without_call before x.c)) (sym same) ∙ numbered_gone before.calls x.c)
]
case_over w before step c outcome after is (Turned x) = absurd (let e = sym x.is ∙ is in cc)
case_over w before step c outcome after is (Appended x) =
    let same = one_order x.c c (sym x.is ∙ is) in
    inr (ap (λ (v : World). open_call v c) x.leaves ∙ ap (open_call (without_call before x.c)) (sym same) ∙ numbered_gone before.calls x.c)
case_over w before step c outcome after is (Verdicted x) = absurd (let e = sym x.is ∙ is in cc)
case_over w before step c outcome after is (Stop x) = absurd (let e = sym x.is ∙ is in cc)
case_over w before step c outcome after is (Anew x) = absurd (let e = sym x.is ∙ is in cc)
case_over w before step c outcome after is (Put x) = absurd (let e = sym x.is ∙ is in cc)

pub order_ends : (w : Setting) (before : World) (c : ℕ) (outcome : Outcome) (after : World) → IsStep w before (Order c) outcome after → (outcome ≡ Refused NotAtExit) ⊎ (open_call after c ≡ None)
order_ends w before c outcome after e = case_over w before (Order c) c outcome after refl (step_case w before (Order c) outcome after e)

-- ---- a turn that is stale or finds no memory

case_turn_over : (w : Setting) (before : World) (step : Step) (c : ℕ) (outcome : Outcome) (after : World) → step ≡ Turn c → (outcome ≡ Stale) ⊎ (outcome ≡ NoMemory) → Case w before step outcome after → open_call after c ≡ None
case_turn_over w before step c outcome after is answer (Same x) = absurd (elim answer [ inl s ↦ (let e = sym x.answer ∙ s in cc) | inr m ↦ (let e = sym x.answer ∙ m in cc) ])
case_turn_over w before step c outcome after is answer (New x) = absurd (let e = sym x.is ∙ is in cc)
case_turn_over w before step c outcome after is answer (Over x) = elim x.is [
  | inl turn ↦
      let same = one_turn x.c c (sym turn ∙ is) in
      ap (λ (v : World). open_call v c) x.leaves ∙ ap (open_call (without_call before x.c)) (sym same) ∙ numbered_gone before.calls x.c
  | inr order ↦ absurd (let e = sym order ∙ is in cc)
]
case_turn_over w before step c outcome after is answer (Turned x) = absurd (elim x.answer [
  | inl m ↦ elim answer [ inl s ↦ (let e = sym m ∙ s in cc) | inr n ↦ (let e = sym m ∙ n in cc) ]
  | inr y ↦ elim answer [ inl s ↦ (let e = sym y.0 ∙ s in cc) | inr n ↦ (let e = sym y.0 ∙ n in cc) ]
])
case_turn_over w before step c outcome after is answer (Appended x) = absurd (let e = sym x.is ∙ is in cc)
case_turn_over w before step c outcome after is answer (Verdicted x) = absurd (let e = sym x.is ∙ is in cc)
case_turn_over w before step c outcome after is answer (Stop x) = absurd (let e = sym x.is ∙ is in cc)
case_turn_over w before step c outcome after is answer (Anew x) = absurd (let e = sym x.is ∙ is in cc)
case_turn_over w before step c outcome after is answer (Put x) = absurd (let e = sym x.is ∙ is in cc)

pub stale_ends : (w : Setting) (before : World) (c : ℕ) (after : World) → IsStep w before (Turn c) Stale after → open_call after c ≡ None
stale_ends w before c after e = case_turn_over w before (Turn c) c Stale after refl (inl refl) (step_case w before (Turn c) Stale after e)

pub no_memory_ends : (w : Setting) (before : World) (c : ℕ) (after : World) → IsStep w before (Turn c) NoMemory after → open_call after c ≡ None
no_memory_ends w before c after e = case_turn_over w before (Turn c) c NoMemory after refl (inr refl) (step_case w before (Turn c) NoMemory after e)

-- ---- the log's limit

pub log_within : (w : Setting) (world : World) → IsWorld w world → length world.log ≤ max_calls
log_within w world is = let few = is.calls_limit in let ordered = is.log_limit in omega arith

not_full : (w : Setting) (world : World) (c : ℕ) (o : OpenCall) → IsWorld w world → open_call world c ≡ just o → max_calls ≤ length world.log → ⊥
not_full w world c o is stands full =
    let few = is.calls_limit in
    let ordered = is.log_limit in
    let count = numbered_count world.calls c o stands None in
    omega arith

case_full : (w : Setting) (before : World) (step : Step) (outcome : Outcome) (after : World) → IsWorld w before → outcome ≡ Refused LogFull → Case w before step outcome after → ⊥
case_full w before step outcome after world is (Same c) = c.not_full (one_refusal c.refusal LogFull (sym c.answer ∙ is))
case_full w before step outcome after world is (New c) = let e = sym c.answer ∙ is in cc
case_full w before step outcome after world is (Over c) = elim (c.answer LogFull is).1 [
  | inl m ↦ cc
  | inr f ↦ not_full w before c.c f.2.0 world f.2.1 f.1
]
case_full w before step outcome after world is (Turned c) = elim c.answer [ inl m ↦ (let e = sym m ∙ is in cc) | inr x ↦ (let e = sym x.0 ∙ is in cc) ]
case_full w before step outcome after world is (Appended c) = let e = sym c.answer ∙ is in cc
case_full w before step outcome after world is (Verdicted c) = let e = sym c.answer ∙ is in cc
case_full w before step outcome after world is (Stop c) = let e = sym c.answer ∙ is in cc
case_full w before step outcome after world is (Anew c) = let e = sym c.answer ∙ is in cc
case_full w before step outcome after world is (Put c) = let e = sym c.answer ∙ is in cc

pub never_full : (w : Setting) (before : World) (step : Step) (after : World) → IsWorld w before → IsStep w before step (Refused LogFull) after → ⊥
never_full w before step after is e = case_full w before step (Refused LogFull) after is refl (step_case w before step (Refused LogFull) after e)

pub add_memory : (w : Setting) (before : World) (name : List ℕ) (number args_len : ℕ) (checked : ProgramCheck) (after : World) → IsStep w before (Add name number args_len checked) (Refused step_refusal.NoMemory) after → after ≡ before
add_memory w before name number args_len checked after e = refused_memory_leaves w before (Add name number args_len checked) after e
