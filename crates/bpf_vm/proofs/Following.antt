-- Turns along a run.
use Rattle.std.proofs.Common.{◌≡◌, ◌≢◌, ℕ, suc, ◌+◌, ◌<◌, ◌≤◌, Bool, List, Option, Some, None, refl, inl, inr, sym, ◌∙◌, ap, subst, arith}
use Rattle.std.proofs.lemmas.Bool.{cases_lt}
use Rattle.std.specs.Option.{IsSomeAnd}
use Rattle.bpf_code.specs.declared.instruction.Instruction.{Instruction}
use Rattle.bpf_code.specs.Program.{Program, instruction_at}
use Rattle.schema.specs.Schema.{Tables}
use Rattle.schema.specs.Rows.{Rows, AreRows, after_writes}
use Rattle.bpf_semantics.specs.State.{State, entry_state}
use Rattle.bpf_semantics.specs.Step.{Moment, Going, Ended, Stuck, step}
use Rattle.bpf_semantics.specs.Run.{Run, moment, next_moment, run, run_of}
use Rattle.bpf_semantics.specs.Path.{longest_path}
use Rattle.bpf_verify.specs.Flow.{Procedure}
use Rattle.vm_state.specs.Words.{Words, Holds}
use Rattle.txn_view.specs.declared.view.Own.{Own}
use Rattle.txn_view.specs.View.{IsViewOf}
use Rattle.bpf_vm.specs.declared.turn.Turn.{Turn}
use Rattle.bpf_vm.specs.declared.turn.Turn.TheVariants.{More, Exit, Stale, NoMemory}
use Rattle.bpf_vm.specs.Turns.{MachineState, CanStep, FollowsMoment, FollowsStep, MayWantMemory, DoesNothing}
use Rattle.bpf_vm.specs.Calls.{LooksMore}
use Rattle.bpf_vm.specs.Run.{Effects, effects_of, own_effects, no_effects, IsAcceptedProcedure, IsAfter, HasRun, HasEnded, IsStaleAt, AfterTurn, IsNotStale}

pub next_is : (p : Program) (tables : Tables) (k : ℕ) (s t : State) → moment p tables k s ≡ Going t → moment p tables (k + 1) s ≡ step p tables t
unfolding moment
next_is p tables k s t e = let one : k + 1 ≡ suc k = omega arith in ap (λ (j : ℕ). moment p tables j s) one ∙ ap (next_moment (step p tables)) e

pub first_is : (p : Program) (tables : Tables) (s : State) → moment p tables 0 s ≡ Going s
unfolding moment
first_is p tables s = refl

-- words that hold the state at entry have run nothing
pub has_begun : (p : Procedure) (args : List ℕ) (rows : Rows) (m : MachineState) → IsAcceptedProcedure p → Holds (entry_state args rows) m.words → m.last ≡ More → HasRun p args rows 0 m no_effects
has_begun p args rows m sound held going = record {
  here = record {
    sound = sound;
    state = entry_state args rows;
    at = first_is p.program p.tables (entry_state args rows);
    held = held;
    done = refl;
  };
  going = going;
}

-- what was done is that of the state
pub viewed : {A : Type 0} (answers_from : Rows → Type 0) (own : Own A) (s : State) (rows : Rows) → own_effects own ≡ effects_of s → answers_from rows → s.rows ≡ after_writes s.writes rows → IsViewOf answers_from own s
viewed answers_from own s rows e answers is = record {
  read = record {
    looks_are = ap (λ (x : Effects). x.looks) e;
    writes_are = ap (λ (x : Effects). x.writes) e;
    below = rows;
    answers = answers;
    rows_are = is;
  };
  cancelled = ap (λ (x : Effects). x.cancel_code) e;
}

pub done_is : {A : Type 0} (answers_from : Rows → Type 0) (own : Own A) (s : State) → IsViewOf answers_from own s → own_effects own ≡ effects_of s
done_is answers_from own s v =
    ap (λ l. record { looks = l; writes = own.writes; cancel_code = own.cancel_code }) v.read.looks_are
    ∙ ap (λ w. record { looks = s.looks; writes = w; cancel_code = own.cancel_code }) v.read.writes_are
    ∙ ap (λ c. record { looks = s.looks; writes = s.writes; cancel_code = c }) v.cancelled

pub can_step : {A : Type 0} (p : Procedure) (args : List ℕ) (rows : Rows) (k : ℕ) (answers_from : Rows → Type 0) (m : MachineState) (own : Own A) → answers_from rows → (h : HasRun p args rows k m (own_effects own))
    → moment p.program p.tables (k + 1) (entry_state args rows) ≢ Stuck → h.here.state.rows ≡ after_writes h.here.state.writes rows → AreRows p.tables h.here.state.rows → CanStep p answers_from m.words own
can_step p args rows k answers_from m own answers h goes is fit =
    (h.here.state, h.here.held, viewed answers_from own h.here.state rows h.here.done answers is, fit, λ stuck. goes (next_is p.program p.tables k (entry_state args rows) h.here.state h.here.at ∙ stuck))

-- ---- how a run ends

pub some_of : {X : Type 0} (o : Option X) (P : X → Type 0) → IsSomeAnd o P → (x : X) × (o ≡ Some x) × P x
some_of None P h = absurd h
some_of (Some x) P h = (x, refl, h)

not_both : (m : Moment) (s t : State) (reply : ℕ) → m ≡ Going s → m ≡ Ended reply t → ⊥
not_both m s t reply e f = absurd cc

-- before its length a run goes on, and from there on it has ended
abbrev pub GoesOnBefore : Procedure → List ℕ → Rows → Run → Type 0
GoesOnBefore p args rows r = (k : ℕ) → k < r.steps → (s : State) × (moment p.program p.tables k (entry_state args rows) ≡ Going s) × (s.steps ≡ k)

abbrev pub EndsAfter : Procedure → List ℕ → Rows → Run → Type 0
EndsAfter p args rows r = (k : ℕ) → r.steps ≤ k → (s : State) × (moment p.program p.tables k (entry_state args rows) ≡ Ended r.reply s) × (run_of rows r.reply s ≡ r)

pub within : (p : Procedure) (args : List ℕ) (rows : Rows) (r : Run) (k : ℕ) (s : State) → EndsAfter p args rows r → moment p.program p.tables k (entry_state args rows) ≡ Going s → k < r.steps
within p args rows r k s after e = elim (cases_lt k r.steps) [
  | inl h ↦ h
  | inr h ↦ let (t, ended, is) = after k h in absurd (not_both _ s t r.reply e ended)
]

not_within : (p : Procedure) (args : List ℕ) (rows : Rows) (r : Run) (k reply : ℕ) (t : State) → GoesOnBefore p args rows r → moment p.program p.tables k (entry_state args rows) ≡ Ended reply t → r.steps ≤ k
not_within p args rows r k reply t before e = elim (cases_lt k r.steps) [
  | inl h ↦ let (s, goes, steps) = before k h in absurd (not_both _ s t reply goes e)
  | inr h ↦ h
]

pub has_short : (p : Procedure) (args : List ℕ) (rows : Rows) (k : ℕ) (s : State) (r : Run) → EndsAfter p args rows r → r.steps ≤ longest_path p.program → moment p.program p.tables k (entry_state args rows) ≡ Going s → k < longest_path p.program
has_short p args rows k s r after short e = let less = within p args rows r k s after e in omega (arith, less, short)

pub has_ended : (p : Procedure) (args : List ℕ) (rows : Rows) (k reply : ℕ) (s t : State) → run p.program p.tables args rows ≡ Some (run_of rows reply t) → GoesOnBefore p args rows (run_of rows reply t) → EndsAfter p args rows (run_of rows reply t)
    → moment p.program p.tables k (entry_state args rows) ≡ Going s → moment p.program p.tables (k + 1) (entry_state args rows) ≡ Ended reply t → HasEnded p args rows (k + 1) reply (effects_of t)
has_ended p args rows k reply s t is before after e ended =
    let less = within p args rows (run_of rows reply t) k s after e in
    let more = not_within p args rows (run_of rows reply t) (k + 1) reply t before ended in
    record { r = run_of rows reply t; is_run = is; steps = omega (arith, less, more); replied = refl; looks = refl; writes = refl; cancelled = refl }

-- ---- a turn

-- where a run ends with the next instruction
abbrev pub EndsNext : Procedure → List ℕ → Rows → ℕ → State → Type 0
EndsNext p args rows k s = (reply : ℕ) (t : State) → step p.program p.tables s ≡ Ended reply t → HasEnded p args rows (k + 1) reply (effects_of t)

more_after : {A : Type 0} (p : Procedure) (args : List ℕ) (rows : Rows) (k : ℕ) (answers_from : Rows → Type 0) (gone : Bool) (i : Option Instruction) (m n : MachineState) (own : Own A) (effects : Effects) (h : HasRun p args rows k m effects) (next : Moment) → step p.program p.tables h.here.state ≡ next
    → next ≢ Stuck → FollowsMoment answers_from gone h.here.state i next More n.words own → n.last ≡ More → HasRun p args rows (k + 1) n (own_effects own)
more_after p args rows k answers_from gone i m n own effects h (Going t) e goes f last = record {
  here = record {
    sound = h.here.sound;
    state = t;
    at = next_is p.program p.tables k (entry_state args rows) h.here.state h.here.at ∙ e;
    held = f.0;
    done = done_is answers_from own t f.1;
  };
  going = last;
}
more_after p args rows k answers_from gone i m n own effects h (Ended reply t) e goes f last = absurd f
more_after p args rows k answers_from gone i m n own effects h Stuck e goes f last = absurd (goes refl)

exit_after : {A : Type 0} (p : Procedure) (args : List ℕ) (rows : Rows) (k : ℕ) (answers_from : Rows → Type 0) (gone : Bool) (i : Option Instruction) (s : State) (m : Words) (own : Own A) (answer : ℕ) (next : Moment) → step p.program p.tables s ≡ next
    → EndsNext p args rows k s → next ≢ Stuck → FollowsMoment answers_from gone s i next (Exit answer) m own → HasEnded p args rows (k + 1) answer (own_effects own)
exit_after p args rows k answers_from gone i s m own answer (Going t) e ends goes f = absurd f
exit_after p args rows k answers_from gone i s m own answer (Ended reply t) e ends goes f =
    subst (λ (x : Effects). HasEnded p args rows (k + 1) answer x) (sym (done_is answers_from own t f.2))
    (subst (λ (x : ℕ). HasEnded p args rows (k + 1) x (effects_of t)) (sym f.0) (ends reply t e))
exit_after p args rows k answers_from gone i s m own answer Stuck e ends goes f = absurd (goes refl)

-- where nothing was done
abbrev stays_after : (p : Procedure) (args : List ℕ) (rows : Rows) (k : ℕ) (m n : Words) (old new : Effects) → n ≡ m → new ≡ old → IsAfter p args rows k m old → IsAfter p args rows k n new
stays_after p args rows k m n old new same kept h = record {
  sound = h.sound;
  state = h.state;
  at = h.at;
  held = subst (λ (x : Words). Holds h.state x) (sym same) h.held;
  done = kept ∙ h.done;
}

stale_at : {A : Type 0} (p : Procedure) (answers_from : Rows → Type 0) (gone : Bool) (i : Option Instruction) (s : State) (m : Words) (own : Own A) (next : Moment) → step p.program p.tables s ≡ next → next ≢ Stuck → FollowsMoment answers_from gone s i next Stale m own → IsStaleAt p gone s
stale_at p answers_from gone i s m own (Going t) e goes f = (t, e, f)
stale_at p answers_from gone i s m own (Ended reply t) e goes f = absurd f
stale_at p answers_from gone i s m own Stuck e goes f = absurd (goes refl)

memory_at : {A : Type 0} (answers_from : Rows → Type 0) (gone : Bool) (i : Option Instruction) (s : State) (m : Words) (own : Own A) (next : Moment) → next ≢ Stuck → FollowsMoment answers_from gone s i next NoMemory m own → MayWantMemory i
memory_at answers_from gone i s m own (Going t) goes f = f.0
memory_at answers_from gone i s m own (Ended reply t) goes f = absurd f
memory_at answers_from gone i s m own Stuck goes f = absurd (goes refl)

going_same : (s t : State) → Going s ≡ Going t → s ≡ t
going_same s t e = cc

-- where a turn goes on, or wants memory, no look was due at a store that is gone
not_due : (p : Procedure) (gone : Bool) (s t : State) → step p.program p.tables s ≡ Going t → (LooksMore gone s t → ⊥) → IsStaleAt p gone s → ⊥
not_due p gone s t e none (u, f, looks) = none (subst (λ (x : State). LooksMore gone s x) (going_same u t (sym f ∙ e)) looks)

more_not_due : {A : Type 0} (p : Procedure) (answers_from : Rows → Type 0) (gone : Bool) (i : Option Instruction) (s : State) (m : Words) (own : Own A) (next : Moment) → step p.program p.tables s ≡ next → next ≢ Stuck → FollowsMoment answers_from gone s i next More m own → IsStaleAt p gone s → ⊥
more_not_due p answers_from gone i s m own (Going t) e goes f = not_due p gone s t e f.2
more_not_due p answers_from gone i s m own (Ended reply t) e goes f = absurd f
more_not_due p answers_from gone i s m own Stuck e goes f = absurd (goes refl)

memory_not_due : {A : Type 0} (p : Procedure) (answers_from : Rows → Type 0) (gone : Bool) (i : Option Instruction) (s : State) (m : Words) (own : Own A) (next : Moment) → step p.program p.tables s ≡ next → next ≢ Stuck → FollowsMoment answers_from gone s i next NoMemory m own → IsStaleAt p gone s → ⊥
memory_not_due p answers_from gone i s m own (Going t) e goes f = not_due p gone s t e f.1
memory_not_due p answers_from gone i s m own (Ended reply t) e goes f = absurd f
memory_not_due p answers_from gone i s m own Stuck e goes f = absurd (goes refl)

-- the state after so many instructions is one
not_stale : (p : Procedure) (args : List ℕ) (rows : Rows) (gone : Bool) (k : ℕ) (s : State) → moment p.program p.tables k (entry_state args rows) ≡ Going s → (IsStaleAt p gone s → ⊥) → IsNotStale p args rows gone k
not_stale p args rows gone k s at none t there stale = none (subst (λ (x : State). IsStaleAt p gone x) (going_same t s (sym there ∙ at)) stale)

pub turn_after : {A : Type 0} (p : Procedure) (args : List ℕ) (rows : Rows) (k : ℕ) (answers_from : Rows → Type 0) (gone : Bool) (m n : MachineState) (own : Own A) (effects : Effects) (turn : Turn) (h : HasRun p args rows k m effects)
    → moment p.program p.tables (k + 1) (entry_state args rows) ≢ Stuck → EndsNext p args rows k h.here.state → FollowsStep p answers_from gone h.here.state turn n.words own → n.last ≡ turn
    → (DoesNothing turn → n.words ≡ m.words) → (DoesNothing turn → own_effects own ≡ effects) → AfterTurn p args rows gone k turn n (own_effects own)
turn_after p args rows k answers_from gone m n own effects turn h goes ends f last same kept =
    let steps : step p.program p.tables h.here.state ≢ Stuck = λ e. goes (next_is p.program p.tables k (entry_state args rows) h.here.state h.here.at ∙ e) in
    elim turn as (λ (t : Turn). FollowsStep p answers_from gone h.here.state t n.words own → n.last ≡ t → (DoesNothing t → n.words ≡ m.words) → (DoesNothing t → own_effects own ≡ effects) → AfterTurn p args rows gone k t n (own_effects own)) [
      | More ↦ λ f last same kept. (
        more_after p args rows k answers_from gone _ m n own effects h (step p.program p.tables h.here.state) refl steps f last,
        not_stale p args rows gone k h.here.state h.here.at (more_not_due p answers_from gone _ h.here.state n.words own (step p.program p.tables h.here.state) refl steps f),
      )
      | Exit answer ↦ λ f last same kept. exit_after p args rows k answers_from gone _ h.here.state n.words own answer (step p.program p.tables h.here.state) refl ends steps f
      | Stale ↦ λ f last same kept. (
        stays_after p args rows k m.words n.words effects (own_effects own) (same tt) (kept tt) h.here,
        stale_at p answers_from gone _ h.here.state n.words own (step p.program p.tables h.here.state) refl steps f,
      )
      | NoMemory ↦ λ f last same kept. (
        stays_after p args rows k m.words n.words effects (own_effects own) (same tt) (kept tt) h.here,
        memory_at answers_from gone (instruction_at p.program h.here.state.slot) h.here.state n.words own (step p.program p.tables h.here.state) steps f,
        not_stale p args rows gone k h.here.state h.here.at (memory_not_due p answers_from gone _ h.here.state n.words own (step p.program p.tables h.here.state) refl steps f),
      )
    ] f last same kept
