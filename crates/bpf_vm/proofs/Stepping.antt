-- A step by its instruction, over a view.
use Rattle.std.proofs.Common.{◌≡◌, ◌≢◌, ℕ, ◌<◌, ℤ, Bool, length, Option, Some, None, refl, inl, inr, sym, ◌∙◌, ap, subst, arith}
use Rattle.std.proofs.lemmas.Option.{slice_get_past}
use Rattle.std.proofs.lemmas.Bool.{cases_lt}
use Rattle.bpf_code.specs.declared.instruction.Instruction.{Instruction}
use Rattle.bpf_code.specs.declared.instruction.Register.TheVariants.{R0}
use Rattle.bpf_code.specs.declared.instruction.Instruction.TheVariants as instruction
use Rattle.bpf_code.specs.Program.{Program, instruction_at}
use Rattle.schema.specs.Schema.{Tables}
use Rattle.schema.specs.Rows.{Rows, AreRows, after_writes}
use Rattle.schema.specs.Helper.{helper_of}
use Rattle.schema.specs.declared.helper.Helper.{Helper}
use Rattle.bpf_semantics.specs.declared.value.Value.{Value}
use Rattle.bpf_semantics.specs.declared.value.Value.TheVariants.{Nothing, Number, Stack, Args}
use Rattle.bpf_semantics.specs.State.{State, register, past, number}
use Rattle.bpf_semantics.specs.Memory.{and_then}
use Rattle.bpf_semantics.specs.Helpers.{state_after_call}
use Rattle.bpf_semantics.specs.Step.{Moment, Going, Ended, Stuck, or_stuck, execute, step}
use Rattle.bpf_verify.specs.Flow.{Procedure}
use Rattle.vm_state.specs.Words.{Words, IsWordOf, Holds, HoldsNext, word}
use Rattle.txn_view.specs.declared.view.Own.{Own}
use Rattle.txn_view.specs.View.{IsViewOf}
use Rattle.bpf_vm.specs.Calls.{AfterCall}
use Rattle.bpf_vm.specs.declared.calls.HelperAnswer.TheVariants as answer
use Rattle.bpf_vm.specs.declared.turn.Turn.{Turn}
use Rattle.bpf_vm.specs.declared.turn.Turn.TheVariants.{More, Exit, Stale, NoMemory}
use Rattle.bpf_vm.specs.Turns.{CanStep, CanExecute, FollowsMoment, FollowsInstruction, FollowsStep}
use Rattle.vm_state.specs.Plain.{SameEffects}
use Rattle.vm_state.proofs.Leaving.{execute_leaves}

-- ---- the instruction at the slot

here : (p : Program) (s : State) (m : Words) (o : Option Instruction) → Holds s m → instruction_at p m.slot ≡ o → instruction_at p s.slot ≡ o
here p s m o h e = ap (λ k. instruction_at p k) (sym h.slot) ∙ e

step_is : (p : Program) (tables : Tables) (s : State) (m : Words) (i : Instruction) → Holds s m → instruction_at p m.slot ≡ Some i → step p tables s ≡ execute tables i s
unfolding step or_stuck
step_is p tables s m i h e = let at = here p s m (Some i) h e in rw at

no_step : (p : Program) (tables : Tables) (s : State) (m : Words) → Holds s m → instruction_at p m.slot ≡ None → step p tables s ≡ Stuck
unfolding step or_stuck
no_step p tables s m h e = let at = here p s m None h e in rw at

pub must_be : {A : Type 0} (p : Procedure) (answers_from : Rows → Type 0) (m : Words) (own : Own A) → CanStep p answers_from m own → instruction_at p.program m.slot ≡ None → ⊥
must_be p answers_from m own (s, h, v, rows, runs) e = runs (no_step p.program p.tables s m h e)

pub can_execute : {A : Type 0} (p : Procedure) (answers_from : Rows → Type 0) (m : Words) (own : Own A) (i : Instruction) → CanStep p answers_from m own → instruction_at p.program m.slot ≡ Some i → CanExecute p.tables answers_from i m own
can_execute p answers_from m own i (s, h, v, rows, runs) e = (s, h, v, rows, λ stuck. runs (step_is p.program p.tables s m i h e ∙ stuck))

pub step_follows : {A : Type 0} (p : Procedure) (answers_from : Rows → Type 0) (gone : Bool) (s : State) (m n : Words) (own : Own A) (i : Instruction) (turn : Turn) → Holds s m → instruction_at p.program m.slot ≡ Some i
    → FollowsInstruction p.tables answers_from gone i s turn n own → FollowsStep p answers_from gone s turn n own
step_follows p answers_from gone s m n own i turn h e f =
    subst (λ (x : Moment). FollowsMoment answers_from gone s (instruction_at p.program s.slot) x turn n own) (sym (step_is p.program p.tables s m i h e))
    (subst (λ (o : Option Instruction). FollowsMoment answers_from gone s o (execute p.tables i s) turn n own) (sym (here p.program s m (Some i) h e)) f)

-- a slot that has an instruction is inside
pub slot_inside : (p : Program) (slot : ℕ) (i : Instruction) → instruction_at p slot ≡ Some i → slot < length p
slot_inside p slot i e = elim (cases_lt slot (length p)) [
  | inl h ↦ h
  | inr h ↦ let none : instruction_at p slot ≡ None = rw (slice_get_past p slot h) in absurd cc
]

-- ---- an instruction that is no call and doesn't end the program

same_view : {A : Type 0} (answers_from : Rows → Type 0) (own : Own A) (s t : State) → SameEffects s t → IsViewOf answers_from own s → IsViewOf answers_from own t
same_view answers_from own s t p v = record {
  read = record {
    looks_are = v.read.looks_are ∙ sym p.looks;
    writes_are = v.read.writes_are ∙ sym p.writes;
    below = v.read.below;
    answers = v.read.answers;
    rows_are = p.rows ∙ subst (λ w. s.rows ≡ after_writes w v.read.below) (sym p.writes) v.read.rows_are;
  };
  cancelled = v.cancelled ∙ sym p.code;
}

pub plain_follows : {A : Type 0} (tables : Tables) (answers_from : Rows → Type 0) (gone : Bool) (s : State) (i : Instruction) (m : Words) (own : Own A) → ((n : ℤ) → i ≢ instruction.Call n) → IsViewOf answers_from own s
    → HoldsNext (execute tables i s) m → FollowsInstruction tables answers_from gone i s More m own
plain_follows tables answers_from gone s i m own no_call v next =
    elim (execute tables i s) as (λ x. execute tables i s ≡ x → HoldsNext x m → FollowsMoment answers_from gone s (Some i) x More m own) [
      | Going t ↦ λ e h.
          let p = execute_leaves tables i s t no_call e in
          (h, same_view answers_from own s t p v, λ stale. let more = stale.1 in let same = ap length p.looks in absurd (omega (arith, more, same)))
      | Ended reply t ↦ λ e h. absurd h
      | Stuck ↦ λ e h. tt
    ] refl next

-- ---- EXIT

stays : (s : State) (m : Words) → Holds s m → Holds (past 0 s) m
stays s m h = record {
  slot = h.slot ∙ omega arith;
  registers = h.registers;
  eleven = h.eleven;
  stack = h.stack;
  bytes = h.bytes;
  args = h.args;
}

ends : {A : Type 0} (answers_from : Rows → Type 0) (gone : Bool) (s : State) (m : Words) (own : Own A) (v : Value) (w : ℕ) → Holds s m → IsViewOf answers_from own s → IsWordOf v w
    → FollowsMoment answers_from gone s (Some instruction.Exit) (or_stuck (number v) (λ reply. Ended reply (past 0 s))) (Exit w) m own
unfolding or_stuck
ends answers_from gone s m own (Number n) w h v is = (is, stays s m h, same_view answers_from own s (past 0 s) (record { looks = refl; writes = refl; rows = refl; code = refl }) v)
ends answers_from gone s m own Nothing w h v is = tt
ends answers_from gone s m own (Stack _) w h v is = tt
ends answers_from gone s m own (Args _) w h v is = tt

pub exit_follows : {A : Type 0} (tables : Tables) (answers_from : Rows → Type 0) (gone : Bool) (s : State) (m : Words) (own : Own A) → Holds s m → IsViewOf answers_from own s → IsWordOf (register s R0) (word m R0)
    → FollowsInstruction tables answers_from gone instruction.Exit s (Exit (word m R0)) m own
unfolding execute
exit_follows tables answers_from gone s m own h v is = ends answers_from gone s m own (register s R0) (word m R0) h v is

-- ---- calls

call_is : (tables : Tables) (n : ℤ) (h : Helper) (s : State) → helper_of n ≡ Some h → execute tables (instruction.Call n) s ≡ or_stuck (state_after_call tables h s) (λ t. Going (past 1 t))
unfolding execute and_then
call_is tables n h s e = rw e

no_call : (tables : Tables) (n : ℤ) (s : State) → helper_of n ≡ None → execute tables (instruction.Call n) s ≡ Stuck
unfolding execute and_then or_stuck
no_call tables n s e = rw e

pub has_helper : {A : Type 0} (tables : Tables) (answers_from : Rows → Type 0) (n : ℤ) (m : Words) (own : Own A) → CanExecute tables answers_from (instruction.Call n) m own → helper_of n ≡ None → ⊥
has_helper tables answers_from n m own (s, h, v, rows, runs) e = runs (no_call tables n s e)

pub can_call : {A : Type 0} (tables : Tables) (answers_from : Rows → Type 0) (n : ℤ) (helper : Helper) (m : Words) (own : Own A) → helper_of n ≡ Some helper → CanExecute tables answers_from (instruction.Call n) m own
    → (s : State) × Holds s m × IsViewOf answers_from own s × AreRows tables s.rows × (state_after_call tables helper s ≢ None)
unfolding or_stuck
can_call tables answers_from n helper m own e (s, h, v, rows, runs) = (s, h, v, rows, λ none. runs (call_is tables n helper s e ∙ ap (λ o. or_stuck o (λ t. Going (past 1 t))) none))

done_by : {A : Type 0} (answers_from : Rows → Type 0) (gone : Bool) (helper : Helper) (i : Option Instruction) (s : State) (o : Option State) (m : Words) (own : Own A) → AfterCall answers_from gone helper s o answer.Done m own
    → FollowsMoment answers_from gone s i (or_stuck o (λ t. Going (past 1 t))) More m own
unfolding or_stuck
done_by answers_from gone helper i s None m own a = tt
done_by answers_from gone helper i s (Some t) m own (h, v, fresh) = (h, same_view answers_from own t (past 1 t) (record { looks = refl; writes = refl; rows = refl; code = refl }) v, fresh)

stale_by : {A : Type 0} (answers_from : Rows → Type 0) (gone : Bool) (helper : Helper) (i : Option Instruction) (s : State) (o : Option State) (m : Words) (own : Own A) → AfterCall answers_from gone helper s o answer.Stale m own
    → FollowsMoment answers_from gone s i (or_stuck o (λ t. Going (past 1 t))) Stale m own
unfolding or_stuck
stale_by answers_from gone helper i s None m own a = tt
stale_by answers_from gone helper i s (Some t) m own a = a

memory_by : {A : Type 0} (answers_from : Rows → Type 0) (gone : Bool) (helper : Helper) (n : ℤ) (s : State) (o : Option State) (m : Words) (own : Own A) → helper_of n ≡ Some helper → AfterCall answers_from gone helper s o answer.NoMemory m own
    → FollowsMoment answers_from gone s (Some (instruction.Call n)) (or_stuck o (λ t. Going (past 1 t))) NoMemory m own
unfolding or_stuck
memory_by answers_from gone helper n s None m own e a = tt
memory_by answers_from gone helper n s (Some t) m own e (no_cancel, fresh) = ((helper, e, no_cancel), fresh)

call_as : {A : Type 0} (tables : Tables) (answers_from : Rows → Type 0) (gone : Bool) (n : ℤ) (helper : Helper) (s : State) (turn : Turn) (m : Words) (own : Own A) → helper_of n ≡ Some helper
    → FollowsMoment answers_from gone s (Some (instruction.Call n)) (or_stuck (state_after_call tables helper s) (λ t. Going (past 1 t))) turn m own
    → FollowsInstruction tables answers_from gone (instruction.Call n) s turn m own
call_as tables answers_from gone n helper s turn m own e f =
    subst (λ (x : Moment). FollowsMoment answers_from gone s (Some (instruction.Call n)) x turn m own) (sym (call_is tables n helper s e)) f

pub done_follows : {A : Type 0} (tables : Tables) (answers_from : Rows → Type 0) (gone : Bool) (n : ℤ) (helper : Helper) (s : State) (m : Words) (own : Own A) → helper_of n ≡ Some helper
    → AfterCall answers_from gone helper s (state_after_call tables helper s) answer.Done m own → FollowsInstruction tables answers_from gone (instruction.Call n) s More m own
done_follows tables answers_from gone n helper s m own e a = call_as tables answers_from gone n helper s More m own e (done_by answers_from gone helper (Some (instruction.Call n)) s (state_after_call tables helper s) m own a)

pub stale_follows : {A : Type 0} (tables : Tables) (answers_from : Rows → Type 0) (gone : Bool) (n : ℤ) (helper : Helper) (s : State) (m : Words) (own : Own A) → helper_of n ≡ Some helper
    → AfterCall answers_from gone helper s (state_after_call tables helper s) answer.Stale m own → FollowsInstruction tables answers_from gone (instruction.Call n) s Stale m own
stale_follows tables answers_from gone n helper s m own e a = call_as tables answers_from gone n helper s Stale m own e (stale_by answers_from gone helper (Some (instruction.Call n)) s (state_after_call tables helper s) m own a)

pub memory_follows : {A : Type 0} (tables : Tables) (answers_from : Rows → Type 0) (gone : Bool) (n : ℤ) (helper : Helper) (s : State) (m : Words) (own : Own A) → helper_of n ≡ Some helper
    → AfterCall answers_from gone helper s (state_after_call tables helper s) answer.NoMemory m own → FollowsInstruction tables answers_from gone (instruction.Call n) s NoMemory m own
memory_follows tables answers_from gone n helper s m own e a = call_as tables answers_from gone n helper s NoMemory m own e (memory_by answers_from gone helper n s (state_after_call tables helper s) m own e a)
