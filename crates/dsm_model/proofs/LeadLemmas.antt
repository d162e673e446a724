-- Each step lets the log grow, and leaves each open call's call, or ends it for good.
use Rattle.std.proofs.Common.{◌≡◌, ℕ, zero, suc, ◌+◌, List, [], ◌∷◌, ◌++◌, slice_get, Option, Some, None, refl, sym, ap, subst, ◌∙◌, inl, inr, append_assoc, append-nil}
use Rattle.log_model.specs.declared.verdict.Verdict.{Verdict}
use Rattle.dsm_model.specs.declared.outcome.Outcome.{Outcome}
use Rattle.dsm_model.specs.declared.outcome.Outcome.TheVariants.{Delivered}
use Rattle.log_model.specs.Log.{StoredProcedure, Setting, Call, CallItem, AdditionItem, Log, verdict_of}
use Rattle.dsm_model.specs.World.{World, Replica, Step, numbered, open_call, without_call, with_replica, with_begun, with_turns, with_ordered, with_added, IsStep, AreSteps}
use Rattle.log_model.specs.OpenCall.{OpenCall}
use Rattle.log_model.proofs.RunLemmas.{just}
use Rattle.log_model.proofs.GrowthLemmas.{verdict_grown, verdict_within}
use Rattle.dsm_model.proofs.Numbered.{some_is, numbered_there, numbered_first, flat_is}
use Rattle.dsm_model.proofs.Cases.{Case, Same, New, Over, Turned, Appended, Verdicted, Stop, Anew, Put, step_case}

-- what may become of a call
abbrev pub Follows : Option OpenCall → Option OpenCall → Type 0
Follows before None = Unit {0}
Follows None (Some o) = ⊥
Follows (Some p) (Some o) = o.call ≡ p.call

follows-self : (o : Option OpenCall) → Follows o o
follows-self None = tt
follows-self (Some o) = refl

pub record Leads (before after : World) : Type 0 where
  pub more : Log
  pub log : after.log ≡ before.log ++ more
  pub calls : (c : ℕ) (x : Option OpenCall) → numbered before.calls c ≡ just x → (y : Option OpenCall) × (numbered after.calls c ≡ just y) × Follows x y

same : (world : World) → Leads world world
same world = record { more = []; log = sym (append-nil world.log); calls = λ c x e. (x, e, follows-self x) }

moved : (world : World) (r : ℕ) (replica : Replica) → Leads world (with_replica world r replica)
moved world r replica = record { more = []; log = sym (append-nil world.log); calls = λ c x e. (x, e, follows-self x) }

ended : (world : World) (c : ℕ) → Leads world (without_call world c)
ended world c = record {
  more = [];
  log = sym (append-nil world.log);
  calls = λ i x e. elim (numbered_there world.calls c i None x e) [
    | inl stays ↦ (x, stays, follows-self x)
    | inr new ↦ (None, new.1, tt)
  ];
}

went_on : (world : World) (c : ℕ) (o : OpenCall) (turns : ℕ) → open_call world c ≡ just o → Leads world (with_turns world c o turns)
went_on world c o turns is = record {
  more = [];
  log = sym (append-nil world.log);
  calls = λ i x e. elim (numbered_there world.calls c i (just (record o { turns = turns })) x e) [
    | inl stays ↦ (x, stays, follows-self x)
    | inr new ↦ (
      just (record o { turns = turns }),
      new.1,
      subst (λ y. Follows y (just (record o { turns = turns })))
          (some_is (just o) x (sym (flat_is (numbered world.calls c) o is) ∙ ap (numbered world.calls) (sym new.0) ∙ e)) refl,
    )
  ];
}

began : (world : World) (r : ℕ) (call : Call) → Leads world (with_begun world r call)
began world r call = record {
  more = [];
  log = sym (append-nil world.log);
  calls = λ c x e. (x, numbered_first world.calls (just (record { replica = r; call = call; turns = 0 })) x c e, follows-self x);
}

with_more : (world : World) (c : ℕ) (call : Call) → Leads world (with_ordered world c call)
with_more world c call = record { more = CallItem call ∷ []; log = refl; calls = (ended world c).calls }

with_addition : (world : World) (p : StoredProcedure) → Leads world (with_added world p)
with_addition world p = record { more = AdditionItem p ∷ []; log = refl; calls = λ c x e. (x, e, follows-self x) }

case_leads : (w : Setting) (before : World) (step : Step) (outcome : Outcome) (after : World) → Case w before step outcome after → Leads before after
case_leads w before step outcome after (Same c) = subst (Leads before) (sym c.same) (same before)
case_leads w before step outcome after (New c) = subst (Leads before) (sym c.leaves) (began before c.r _)
case_leads w before step outcome after (Over c) = subst (Leads before) (sym c.leaves) (ended before c.c)
case_leads w before step outcome after (Turned c) = subst (Leads before) (sym c.leaves) (went_on before c.c c.o c.turns c.stands)
case_leads w before step outcome after (Appended c) = subst (Leads before) (sym c.leaves) (with_more before c.c c.o.call)
case_leads w before step outcome after (Verdicted c) = subst (Leads before) (sym c.leaves) (moved before c.r _)
case_leads w before step outcome after (Stop c) = subst (Leads before) (sym c.leaves) (moved before c.r _)
case_leads w before step outcome after (Anew c) = subst (Leads before) (sym c.leaves) (moved before c.r _)
case_leads w before step outcome after (Put c) = subst (Leads before) (sym c.leaves) (with_addition before _)

pub step_leads : (w : Setting) (before : World) (step : Step) (outcome : Outcome) (after : World) → IsStep w before step outcome after → Leads before after
step_leads w before step outcome after e = case_leads w before step outcome after (step_case w before step outcome after e)

-- ---- steps

pub log_grows : (w : Setting) (before : World) (steps : List Step) (outcomes : List Outcome) (after : World) → AreSteps w before steps outcomes after → (more : Log) × (after.log ≡ before.log ++ more)
unfolding AreSteps
log_grows w before [] [] after h = ([], ap (λ (x : World). x.log) (sym h) ∙ sym (append-nil before.log))
log_grows w before [] (outcome ∷ outcomes) after h = absurd h
log_grows w before (step ∷ steps) [] after h = absurd h
log_grows w before (step ∷ steps) (outcome ∷ outcomes) after h =
    let one = step_leads w before step outcome h.0 h.1 in
    let rest = log_grows w h.0 steps outcomes after h.2 in
    (one.more ++ rest.0, rest.1 ∙ ap (λ (l : Log). l ++ rest.0) one.log ∙ append_assoc before.log one.more rest.0)

-- ---- a verdict that was answered is that of every longer log

is_delivered : (d e : ℕ) (v u : Verdict) → Delivered d v ≡ Delivered e u → (d ≡ e) × (v ≡ u)
is_delivered d e v u h = (cc, cc)

step_verdict : (w : Setting) (before : World) (step : Step) (d : ℕ) (v : Verdict) (outcome : Outcome) (after : World) → outcome ≡ Delivered d v → Case w before step outcome after → verdict_of w after.log d ≡ just v
step_verdict w before step d v outcome after is (Same c) = absurd (let e = sym c.answer ∙ is in cc)
step_verdict w before step d v outcome after is (New c) = absurd (let e = sym c.answer ∙ is in cc)
step_verdict w before step d v outcome after is (Over c) = absurd (c.no_verdict d v is)
step_verdict w before step d v outcome after is (Turned c) = absurd (elim c.answer [ inl m ↦ (let e = sym m ∙ is in cc) | inr x ↦ (let e = sym x.0 ∙ is in cc) ])
step_verdict w before step d v outcome after is (Appended c) = absurd (let e = sym c.answer ∙ is in cc)
step_verdict w before step d v outcome after is (Verdicted c) =
    let (same_place, same_verdict) = is_delivered (c.replica.position + 1) d c.verdict v (sym c.answer ∙ is) in
    ap (λ (x : World). verdict_of w x.log d) c.leaves ∙ ap (verdict_of w before.log) (sym same_place) ∙ c.known ∙ ap just same_verdict
step_verdict w before step d v outcome after is (Stop c) = absurd (let e = sym c.answer ∙ is in cc)
step_verdict w before step d v outcome after is (Anew c) = absurd (let e = sym c.answer ∙ is in cc)
step_verdict w before step d v outcome after is (Put c) = absurd (let e = sym c.answer ∙ is in cc)

pub verdict_stays : (w : Setting) (log more : Log) (d : ℕ) (v : Verdict) → verdict_of w log d ≡ just v → verdict_of w (log ++ more) d ≡ just v
verdict_stays w log more zero v e = absurd cc
verdict_stays w log more (suc d) v e = verdict_grown w log more d (verdict_within w log d v e) ∙ e

pub delivered_verdict : (w : Setting) (before : World) (steps : List Step) (outcomes : List Outcome) (after : World) (j d : ℕ) (v : Verdict) → AreSteps w before steps outcomes after → slice_get outcomes j ≡ just (Delivered d v)
    → verdict_of w after.log d ≡ just v
unfolding AreSteps
delivered_verdict w before [] [] after j d v h e = absurd cc
delivered_verdict w before [] (outcome ∷ outcomes) after j d v h e = absurd h
delivered_verdict w before (step ∷ steps) [] after j d v h e = absurd h
delivered_verdict w before (step ∷ steps) (outcome ∷ outcomes) after zero d v h e =
    let now = step_verdict w before step d v outcome h.0 (some_is outcome (Delivered d v) e) (step_case w before step outcome h.0 h.1) in
    let rest = log_grows w h.0 steps outcomes after h.2 in
    ap (λ (l : Log). verdict_of w l d) rest.1 ∙ verdict_stays w h.0.log rest.0 d v now
delivered_verdict w before (step ∷ steps) (outcome ∷ outcomes) after (suc j) d v h e = delivered_verdict w h.0 steps outcomes after j d v h.2 e

-- ---- a call that is over stays over

gone_for_good : (y : Option OpenCall) → Follows None y → y ≡ None
gone_for_good None f = refl
gone_for_good (Some o) f = absurd f

pub over_stays : (w : Setting) (before : World) (step : Step) (outcome : Outcome) (after : World) (c : ℕ) → IsStep w before step outcome after → numbered before.calls c ≡ Some None → numbered after.calls c ≡ Some None
over_stays w before step outcome after c e gone =
    let next = (step_leads w before step outcome after e).calls c None gone in
    next.1 ∙ ap just (gone_for_good next.0 next.2)
