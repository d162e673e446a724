-- The reply that the caller of a committed call got is that of its run on the rows just before it.
use Rattle.std.proofs.Common.{◌≡◌, inl, inr, ℕ, zero, suc, ◌+◌, ◌≤◌, ◌<◌, List, [], ◌∷◌, ◌++◌, length, slice_get, Option, Some, None, refl, sym, ap, subst, ◌∙◌, arith}
use Rattle.bpf_semantics.specs.Run.{Run}
use Rattle.log_model.specs.declared.verdict.Verdict.TheVariants.{Commit}
use Rattle.dsm_model.specs.declared.outcome.Outcome.{Outcome}
use Rattle.dsm_model.specs.declared.outcome.Outcome.TheVariants.{Exit, Ordered}
use Rattle.log_model.specs.Log.{Setting, Call, Item, CallItem, Log, run_in, verdict_of}
use Rattle.log_model.specs.Fit.{BeginsSafely}
use Rattle.dsm_model.specs.World.{World, Step, Turn, Order, numbered, flatten, open_call, IsStep, AreSteps}
use Rattle.log_model.specs.OpenCall.{OpenCall}
use Rattle.dsm_model.specs.Sound.{IsWorld, IsSerialReply, AreGiven}
use Rattle.log_model.proofs.GrowthLemmas.{run_grown, get_before}
use Rattle.log_model.proofs.RunLemmas.{just}
use Rattle.log_model.proofs.CallLemmas.{serial_run}
use Rattle.dsm_model.proofs.Numbered.{some_is, flat_is, get_last}
use Rattle.dsm_model.proofs.Cases.{Case, Same, New, Over, Turned, Appended, Verdicted, Stop, Anew, step_case, Put}
use Rattle.dsm_model.proofs.WorldLemmas.{begun_within, step_keeps, steps_keep}
use Rattle.log_model.proofs.GrowthLemmas.{run_grown}
use Rattle.dsm_model.proofs.LeadLemmas.{Follows, Leads, step_leads, log_grows}

-- it is over, or goes on, with this as its run's reply
data Told (w : Setting) (world : World) (c reply : ℕ) : Type 0 where
  Open : (o : OpenCall) → numbered world.calls c ≡ just (just o) → (run_in w world.log o.call).reply ≡ reply → Told w world c reply
  Gone : numbered world.calls c ≡ just None → Told w world c reply

follow : (w : Setting) (before after : World) (c reply : ℕ) (o : OpenCall) → IsWorld w before → Leads before after → numbered before.calls c ≡ just (just o) → (run_in w before.log o.call).reply ≡ reply
    → (y : Option OpenCall) → numbered after.calls c ≡ just y → Follows (just o) y → Told w after c reply
follow w before after c reply o is leads e r None f follows = Gone f
follow w before after c reply o is leads e r (Some p) f follows =
    let one = is.open_calls c o (ap flatten e) in
    Open p f (ap (λ (log : Log). (run_in w log p.call).reply) leads.log
    ∙ ap (λ (call : Call). (run_in w (before.log ++ leads.more) call).reply) follows
    ∙ ap (λ (x : Run). x.reply) (run_grown w before.log leads.more o.call (begun_within w before o is one)) ∙ r)

gone_stays : (w : Setting) (after : World) (c reply : ℕ) (y : Option OpenCall) → numbered after.calls c ≡ just y → Follows None y → Told w after c reply
gone_stays w after c reply None e f = Gone e
gone_stays w after c reply (Some o) e f = absurd f

told_on : (w : Setting) (before after : World) (c reply : ℕ) → IsWorld w before → Leads before after → Told w before c reply → Told w after c reply
told_on w before after c reply is leads (Open o e r) = let next = leads.calls c (just o) e in follow w before after c reply o is leads e r next.0 next.1 next.2
told_on w before after c reply is leads (Gone e) = let next = leads.calls c None e in gone_stays w after c reply next.0 next.1 next.2

-- ---- a turn that answers Exit

one_turn : (c d : ℕ) → Turn c ≡ Turn d → c ≡ d
one_turn c d e = cc

one_exit : (r s : ℕ) → Exit r ≡ Exit s → r ≡ s
one_exit r s e = cc

case_exit : (w : Setting) (before : World) (step : Step) (c reply : ℕ) (outcome : Outcome) (after : World) → step ≡ Turn c → outcome ≡ Exit reply → Case w before step outcome after
    → (o : OpenCall) × (open_call before c ≡ just o) × ((run_in w before.log o.call).reply ≡ reply)
case_exit w before step c reply outcome after is exit (Same x) = absurd (let e = sym x.answer ∙ exit in cc)
case_exit w before step c reply outcome after is exit (New x) = absurd (let e = sym x.answer ∙ exit in cc)
case_exit w before step c reply outcome after is exit (Over x) = absurd (x.no_exit reply exit)
case_exit w before step c reply outcome after is exit (Turned x) = elim x.answer [
  | inl m ↦ absurd (let e = sym m ∙ exit in cc)
  | inr y ↦ (x.o, ap (open_call before) (sym (one_turn x.c c (sym x.is ∙ is))) ∙ x.stands, one_exit (run_in w before.log x.o.call).reply reply (sym y.0 ∙ exit))
]
case_exit w before step c reply outcome after is exit (Appended x) = absurd (let e = sym x.answer ∙ exit in cc)
case_exit w before step c reply outcome after is exit (Verdicted x) = absurd (let e = sym x.answer ∙ exit in cc)
case_exit w before step c reply outcome after is exit (Stop x) = absurd (let e = sym x.answer ∙ exit in cc)
case_exit w before step c reply outcome after is exit (Anew x) = absurd (let e = sym x.answer ∙ exit in cc)
case_exit w before step c reply outcome after is exit (Put x) = absurd (let e = sym x.answer ∙ exit in cc)

pub exit_reply : (w : Setting) (before : World) (c reply : ℕ) (after : World) → IsStep w before (Turn c) (Exit reply) after → (o : OpenCall) × (open_call before c ≡ just o) × ((run_in w before.log o.call).reply ≡ reply)
exit_reply w before c reply after e = case_exit w before (Turn c) c reply (Exit reply) after refl refl (step_case w before (Turn c) (Exit reply) after e)

told_by_exit : (w : Setting) (before : World) (c reply : ℕ) (after : World) → IsStep w before (Turn c) (Exit reply) after → Told w before c reply
told_by_exit w before c reply after e = let x = exit_reply w before c reply after e in Open x.0 (flat_is (numbered before.calls c) x.0 x.1) x.2

-- ---- an order that is answered with a position

-- the call at this position has this reply on the rows of its snapshot
record Placed (w : Setting) (log : Log) (d reply : ℕ) : Type 0 where
  before : ℕ
  place : d ≡ suc before
  call : Call
  stands : slice_get log before ≡ just (CallItem call)
  near : call.snapshot ≤ length log
  told : (run_in w log call).reply ≡ reply

one_order : (c d : ℕ) → Order c ≡ Order d → c ≡ d
one_order c d e = cc

one_place : (c d : ℕ) → Ordered c ≡ Ordered d → c ≡ d
one_place c d e = cc

told_reply : (w : Setting) (before : World) (c reply : ℕ) (o : OpenCall) → open_call before c ≡ just o → Told w before c reply → (run_in w before.log o.call).reply ≡ reply
told_reply w before c reply o e (Open p f r) =
    let same : p ≡ o = some_is p o (ap flatten (sym f) ∙ e) in
    ap (λ (x : OpenCall). (run_in w before.log x.call).reply) (sym same) ∙ r
told_reply w before c reply o e (Gone f) = absurd (let x = ap flatten (sym f) ∙ e in cc)

case_placed : (w : Setting) (before : World) (step : Step) (c d reply : ℕ) (outcome : Outcome) (after : World) → IsWorld w before → Told w before c reply → step ≡ Order c → outcome ≡ Ordered d → Case w before step outcome after → Placed w after.log d reply
case_placed w before step c d reply outcome after world told is ordered (Same x) = absurd (let e = sym x.answer ∙ ordered in cc)
case_placed w before step c d reply outcome after world told is ordered (New x) = absurd (let e = sym x.answer ∙ ordered in cc)
case_placed w before step c d reply outcome after world told is ordered (Over x) = absurd (x.no_number d ordered)
case_placed w before step c d reply outcome after world told is ordered (Turned x) = absurd (let e = sym x.is ∙ is in cc)
case_placed w before step c d reply outcome after world told is ordered (Appended x) =
    let same = one_order x.c c (sym x.is ∙ is) in
    let place = one_place (length before.log + 1) d (sym x.answer ∙ ordered) in
    let near = begun_within w before x.o world (world.open_calls x.c x.o x.stands) in
    let old = told_reply w before c reply x.o (ap (open_call before) (sym same) ∙ x.stands) told in
    let log : after.log ≡ before.log ++ CallItem x.o.call ∷ [] = ap (λ (v : World). v.log) x.leaves in
    subst (λ (l : Log). Placed w l d reply) (sym log) (record {
      before = length before.log;
      place = omega arith;
      call = x.o.call;
      stands = get_last before.log (CallItem x.o.call);
      near = longer before.log (CallItem x.o.call) x.o.call.snapshot near;
      told = ap (λ (r : Run). r.reply) (run_grown w before.log (CallItem x.o.call ∷ []) x.o.call near) ∙ old;
    })
  where
    longer : (log : Log) (call : Item) (n : ℕ) → n ≤ length log → n ≤ length (log ++ call ∷ [])
    longer [] call n le = omega arith
    longer (x ∷ log) call zero le = omega arith
    longer (x ∷ log) call (suc n) le = let rest = longer log call n (omega arith) in omega arith
case_placed w before step c d reply outcome after world told is ordered (Verdicted x) = absurd (let e = sym x.is ∙ is in cc)
case_placed w before step c d reply outcome after world told is ordered (Stop x) = absurd (let e = sym x.is ∙ is in cc)
case_placed w before step c d reply outcome after world told is ordered (Anew x) = absurd (let e = sym x.is ∙ is in cc)
case_placed w before step c d reply outcome after world told is ordered (Put x) = absurd (let e = sym x.is ∙ is in cc)

within : {X : Type 0} (xs : List X) (k : ℕ) (x : X) → slice_get xs k ≡ just x → k < length xs
within [] k x e = absurd cc
within (y ∷ xs) zero x e = omega arith
within (y ∷ xs) (suc k) x e = let lt = within xs k x e in omega arith

long : {X : Type 0} (xs ys : List X) → length xs ≤ length (xs ++ ys)
long [] ys = omega arith
long (x ∷ xs) ys = let rest = long xs ys in omega arith

placed_on : (w : Setting) (log more : Log) (d reply : ℕ) → Placed w log d reply → Placed w (log ++ more) d reply
placed_on w log more d reply p =
    let near = p.near in
    let more_long = long log more in
    record {
      before = p.before;
      place = p.place;
      call = p.call;
      stands = get_before log more p.before (within log p.before (CallItem p.call) p.stands) ∙ p.stands;
      near = omega arith;
      told = ap (λ (r : Run). r.reply) (run_grown w log more p.call p.near) ∙ p.told;
    }

-- ---- steps

ordered_later : (w : Setting) (before : World) (steps : List Step) (outcomes : List Outcome) (after : World) (c j d reply : ℕ) → AreGiven w steps outcomes → IsWorld w before → AreSteps w before steps outcomes after → Told w before c reply
    → slice_get steps j ≡ just (Order c) → slice_get outcomes j ≡ just (Ordered d) → Placed w after.log d reply
unfolding AreSteps
ordered_later w before [] [] after c j d reply bytes is h told e f = absurd cc
ordered_later w before [] (outcome ∷ outcomes) after c j d reply bytes is h told e f = absurd h
ordered_later w before (step ∷ steps) [] after c j d reply bytes is h told e f = absurd h
ordered_later w before (step ∷ steps) (outcome ∷ outcomes) after c zero d reply bytes is h told e f =
    let now = case_placed w before step c d reply outcome h.0 is told (some_is step (Order c) e) (some_is outcome (Ordered d) f) (step_case w before step outcome h.0 h.1) in
    let rest = log_grows w h.0 steps outcomes after h.2 in
    subst (λ (l : Log). Placed w l d reply) (sym rest.1) (placed_on w h.0.log rest.0 d reply now)
ordered_later w before (step ∷ steps) (outcome ∷ outcomes) after c (suc j) d reply bytes is h told e f =
    ordered_later w h.0 steps outcomes after c j d reply bytes.1 (step_keeps w before step outcome h.0 bytes.0 h.1 is) h.2
    (told_on w before h.0 c reply is (step_leads w before step outcome h.0 h.1) told) e f

exit_is_step : (w : Setting) (before : World) (step : Step) (outcome : Outcome) (after : World) (c reply : ℕ) → step ≡ Turn c → outcome ≡ Exit reply → IsStep w before step outcome after → IsStep w before (Turn c) (Exit reply) after
exit_is_step w before step outcome after c reply e f h = subst (λ (s : Step). IsStep w before s (Exit reply) after) e (subst (λ (o : Outcome). IsStep w before step o after) f h)

placed_later : (w : Setting) (before : World) (steps : List Step) (outcomes : List Outcome) (after : World) (c i j d reply : ℕ) → AreGiven w steps outcomes → IsWorld w before → AreSteps w before steps outcomes after
    → slice_get steps i ≡ just (Turn c) → slice_get outcomes i ≡ just (Exit reply) → slice_get steps j ≡ just (Order c) → slice_get outcomes j ≡ just (Ordered d) → i < j → Placed w after.log d reply
unfolding AreSteps
placed_later w before [] [] after c i j d reply bytes is h a b e f lt = absurd cc
placed_later w before [] (outcome ∷ outcomes) after c i j d reply bytes is h a b e f lt = absurd h
placed_later w before (step ∷ steps) [] after c i j d reply bytes is h a b e f lt = absurd h
placed_later w before (step ∷ steps) (outcome ∷ outcomes) after c i zero d reply bytes is h a b e f lt = absurd (omega arith)
placed_later w before (step ∷ steps) (outcome ∷ outcomes) after c zero (suc j) d reply bytes is h a b e f lt =
    let told = told_by_exit w before c reply h.0 (exit_is_step w before step outcome h.0 c reply (some_is step (Turn c) a) (some_is outcome (Exit reply) b) h.1) in
    ordered_later w h.0 steps outcomes after c j d reply bytes.1 (step_keeps w before step outcome h.0 bytes.0 h.1 is) h.2
    (told_on w before h.0 c reply is (step_leads w before step outcome h.0 h.1) told) e f
placed_later w before (step ∷ steps) (outcome ∷ outcomes) after c (suc i) (suc j) d reply bytes is h a b e f lt =
    placed_later w h.0 steps outcomes after c i j d reply bytes.1 (step_keeps w before step outcome h.0 bytes.0 h.1 is) h.2 a b e f (omega arith)

pub serial_reply : (w : Setting) (before : World) (steps : List Step) (outcomes : List Outcome) (after : World) (c i j d reply : ℕ) → BeginsSafely w → AreGiven w steps outcomes → IsWorld w before → AreSteps w before steps outcomes after
    → slice_get steps i ≡ Some (Turn c) → slice_get outcomes i ≡ Some (Exit reply) → slice_get steps j ≡ Some (Order c) → slice_get outcomes j ≡ Some (Ordered d) → i < j → verdict_of w after.log d ≡ Some Commit → IsSerialReply w after.log d reply
serial_reply w before steps outcomes after c i j d reply safe bytes is h a b e f lt commit =
    let p = placed_later w before steps outcomes after c i j d reply bytes is h a b e f lt in
    let end = steps_keep w before steps outcomes after bytes h is in
    let serial = serial_run w after.log p.before p.call safe end.log end.items p.stands (ap (verdict_of w after.log) (sym p.place) ∙ commit) in
    record {
      before = p.before;
      place = p.place;
      call = p.call;
      stands = p.stands;
      serial = ap (λ (r : Run). r.reply) serial ∙ p.told;
    }
