-- What the next instruction of an open call does.
use Rattle.std.proofs.Common.{◌≡◌, ◌≢◌, inl, inr, ◌↔◌, ℕ, ℤ, suc, ◌+◌, true, false, not, List, [], ◌∷◌, ◌++◌, length, nat_eq, Option, Some, None, IsTrue, refl, sym, ap, ◌∙◌, arith}
use Rattle.std.proofs.lemmas.Bool.Decides.{nat_tests}
use Rattle.std.proofs.lemmas.List.{length-append}
use Rattle.bpf_code.specs.declared.instruction.Instruction.{Instruction}
use Rattle.bpf_code.specs.declared.instruction.Instruction.TheVariants.{LoadWide, Load, StoreImmediate, StoreRegister, Arithmetic, Negate, MoveSignExtended, End, Jump, LongJump, Branch, Call as CallInstruction, Exit}
use Rattle.bpf_code.specs.Program.{instruction_at}
use Rattle.schema.specs.declared.look.Look.{Look}
use Rattle.schema.specs.declared.helper.Helper.{Helper}
use Rattle.schema.specs.declared.helper.Helper.TheVariants.{RowGet, RowPut, RowDelete, RangeCount, RangeNext, Cancel}
use Rattle.schema.specs.Helper.{helper_of}
use Rattle.bpf_semantics.specs.State.{State, entry_state}
use Rattle.bpf_semantics.specs.Step.{Moment, Going, Ended, Stuck, step}
use Rattle.bpf_semantics.specs.Run.{moment, next_moment}
use Rattle.bpf_semantics.specs.Agree.{looks_of}
use Rattle.bpf_semantics.proofs.RunLemmas.{exit_is, step_runs, going_runs, ended_runs}
use Rattle.bpf_semantics.proofs.LookLemmas.{execute_looks}
use Rattle.log_model.specs.Log.{StoredProcedure, Setting, Call, Log, rows_after, moment_of, moment_at, procedure_of}
use Rattle.log_model.specs.Fit.{IsCall}
use Rattle.log_model.specs.OpenCall.{OpenCall, makes_look, is_row_helper, calls_row_helper, at_row_helper}
use Rattle.log_model.proofs.RunLemmas.{just}

-- ---- looks

record LooksNext (w : Setting) (log : Log) (o : OpenCall) : Type 0 where
  s : State
  t : State
  look : Look
  now : moment_at w log o.call o.turns ≡ Going s
  next : moment_at w log o.call (o.turns + 1) ≡ Going t
  one_more : t.looks ≡ s.looks ++ look ∷ []

-- a call's moments are those of its procedure
pub at_procedure : (w : Setting) (log : Log) (call : Call) (p : StoredProcedure) (k : ℕ) → procedure_of w log call ≡ just p → moment_at w log call k ≡ moment p.program w.tables k (entry_state call.args (rows_after w log call.snapshot))
unfolding moment_at
at_procedure w log call p k known = ap (λ (o : Option StoredProcedure). moment_of w.tables o call.args (rows_after w log call.snapshot) k) known

one_further : (w : Setting) (log : Log) (call : Call) (p : StoredProcedure) (k : ℕ) → procedure_of w log call ≡ just p → moment_at w log call (k + 1) ≡ next_moment (step p.program w.tables) (moment_at w log call k)
unfolding moment
one_further w log call p k known =
    let one : k + 1 ≡ suc k = omega arith in
    ap (moment_at w log call) one ∙ at_procedure w log call p (suc k) known ∙ ap (next_moment (step p.program w.tables)) (sym (at_procedure w log call p k known))

same_length : (m n : ℕ) → m ≡ n → not (nat_eq m n) ≡ true → ⊥
same_length m n e h = grind arith

-- the same looks are not one more
no_more : (w : Setting) (log : Log) (o : OpenCall) → looks_of (moment_at w log o.call (o.turns + 1)) ≡ looks_of (moment_at w log o.call o.turns) → IsTrue (makes_look w log o) → ⊥
no_more w log o e h = same_length (length (looks_of (moment_at w log o.call (o.turns + 1)))) (length (looks_of (moment_at w log o.call o.turns))) (ap (λ (l : List Look). length l) e) h

going : (w : Setting) (log : Log) (o : OpenCall) (p : StoredProcedure) (s : State) (m : Moment) → step p.program w.tables s ≡ m → moment_at w log o.call (o.turns + 1) ≡ m → (m ≡ Stuck → ⊥) → moment_at w log o.call o.turns ≡ Going s → IsTrue (makes_look w log o) → LooksNext w log o
going w log o p s (Going t) is next apart now h =
    let runs = step_runs p.program w.tables s (Going t) is (going_runs t) in
    elim (execute_looks w.tables runs.0 s t runs.2) [
      | inl e ↦ absurd (no_more w log o (ap looks_of next ∙ e ∙ sym (ap looks_of now)) h)
      | inr x ↦ record { s = s; t = t; look = x.0; now = now; next = next; one_more = x.2 }
    ]
going w log o p s (Ended r t) is next apart now h =
    let runs = step_runs p.program w.tables s (Ended r t) is (ended_runs r t) in
    absurd (no_more w log o (ap looks_of next ∙ ap (λ (x : State). x.looks) (sym (exit_is w.tables runs.0 s r t runs.2)) ∙ sym (ap looks_of now)) h)
going w log o p s Stuck is next apart now h = absurd (apart refl)

looks_next : (w : Setting) (log : Log) (o : OpenCall) → (p : StoredProcedure) → procedure_of w log o.call ≡ just p → (moment_at w log o.call (o.turns + 1) ≡ Stuck → ⊥) → (m : Moment) → moment_at w log o.call o.turns ≡ m → IsTrue (makes_look w log o) → LooksNext w log o
looks_next w log o p known apart (Going s) now h =
    let next : moment_at w log o.call (o.turns + 1) ≡ step p.program w.tables s = one_further w log o.call p o.turns known ∙ ap (next_moment (step p.program w.tables)) now in
    going w log o p s (step p.program w.tables s) refl next (λ stuck. apart (next ∙ stuck)) now h
looks_next w log o p known apart (Ended reply s) now h =
    let next = one_further w log o.call p o.turns known ∙ ap (next_moment (step p.program w.tables)) now in
    absurd (no_more w log o (ap looks_of next ∙ sym (ap looks_of now)) h)
looks_next w log o p known apart Stuck now h =
    absurd (apart (one_further w log o.call p o.turns known ∙ ap (next_moment (step p.program w.tables)) now))

longer : (m n : ℕ) → m ≡ n + 1 → not (nat_eq m n) ≡ true
longer m n e = grind (arith, nat_tests)

looks_there : (w : Setting) (log : Log) (o : OpenCall) → LooksNext w log o → IsTrue (makes_look w log o)
looks_there w log o x =
    longer (length (looks_of (moment_at w log o.call (o.turns + 1)))) (length (looks_of (moment_at w log o.call o.turns)))
    (ap (λ (m : Moment). length (looks_of m)) x.next ∙ ap (λ (l : List Look). length l) x.one_more ∙ length-append x.s.looks (x.look ∷ []) ∙ ap (λ (m : Moment). length (looks_of m) + 1) (sym x.now))

pub next_looks : (w : Setting) (log : Log) (o : OpenCall) → IsCall w log o.call → moment_at w log o.call (o.turns + 1) ≢ Stuck
    → IsTrue (makes_look w log o) ↔ ((s : State) × (t : State) × (look : Look) × (moment_at w log o.call o.turns ≡ Going s) × (moment_at w log o.call (o.turns + 1) ≡ Going t) × (t.looks ≡ s.looks ++ look ∷ []))
next_looks w log o is apart = (
  λ h. let x = looks_next w log o is.procedure is.known apart (moment_at w log o.call o.turns) refl h in (x.s, x.t, x.look, x.now, x.next, x.one_more),
  λ x. looks_there w log o (record { s = x.0; t = x.1; look = x.2; now = x.3; next = x.4; one_more = x.5 }),
)

-- ---- helpers

row_helper : (o : Option Helper) → is_row_helper o ≡ true → (h : Helper) × (o ≡ just h) × (h ≡ Cancel → ⊥)
row_helper None e = absurd cc
row_helper (Some RowGet) e = (RowGet, refl, λ f. cc)
row_helper (Some RowPut) e = (RowPut, refl, λ f. cc)
row_helper (Some RowDelete) e = (RowDelete, refl, λ f. cc)
row_helper (Some RangeCount) e = (RangeCount, refl, λ f. cc)
row_helper (Some RangeNext) e = (RangeNext, refl, λ f. cc)
row_helper (Some Cancel) e = absurd cc

pub is_row : (h : Helper) → (h ≡ Cancel → ⊥) → is_row_helper (just h) ≡ true
is_row RowGet apart = refl
is_row RowPut apart = refl
is_row RowDelete apart = refl
is_row RangeCount apart = refl
is_row RangeNext apart = refl
is_row Cancel apart = absurd (apart refl)

calls_row : (i : Option Instruction) → calls_row_helper i ≡ true → (n : ℤ) × (h : Helper) × (i ≡ just (CallInstruction n)) × (helper_of n ≡ just h) × (h ≡ Cancel → ⊥)
calls_row None e = absurd cc
calls_row (Some (CallInstruction n)) e = let x = row_helper (helper_of n) e in (n, x.0, refl, x.1, x.2)
calls_row (Some (LoadWide a b)) e = absurd cc
calls_row (Some (Load a b c d)) e = absurd cc
calls_row (Some (StoreImmediate a b c d)) e = absurd cc
calls_row (Some (StoreRegister a b c d)) e = absurd cc
calls_row (Some (Arithmetic a b c d)) e = absurd cc
calls_row (Some (Negate a b)) e = absurd cc
calls_row (Some (MoveSignExtended a b c)) e = absurd cc
calls_row (Some (End a b c)) e = absurd cc
calls_row (Some (Jump a)) e = absurd cc
calls_row (Some (LongJump a)) e = absurd cc
calls_row (Some (Branch a b c d f)) e = absurd cc
calls_row (Some Exit) e = absurd cc

pub next_calls : (p : StoredProcedure) (s : State) → IsTrue (at_row_helper (Some p) (Going s)) ↔ ((n : ℤ) × (h : Helper) × (instruction_at p.program s.slot ≡ Some (CallInstruction n)) × (helper_of n ≡ Some h) × (h ≡ Cancel → ⊥))
next_calls p s = (
  λ e. calls_row (instruction_at p.program s.slot) e,
  λ x. ap calls_row_helper x.2 ∙ ap is_row_helper x.3 ∙ is_row x.1 x.4,
)

pub never_at_end : (p : Option StoredProcedure) (reply : ℕ) (s : State) → at_row_helper p (Ended reply s) ≡ false
never_at_end None reply s = refl
never_at_end (Some p) reply s = refl
