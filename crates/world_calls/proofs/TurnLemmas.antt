-- A turn and the end of a call, in words of the world's definitions.
use Rattle.std.proofs.Common.{◌≡◌, ◌⊎◌, inl, inr, ℕ, suc, ◌+◌, ◌<◌, ◌≤◌, Bool, true, false, not, ◌&&◌, List, [], ◌∷◌, ◌++◌, length, nat_eq, nat_le, cond, Option, Some, None, IsTrue, refl, sym, ap, subst, ◌∙◌, arith}
use Rattle.std.proofs.lemmas.Bool.Decides.{nat_tests}
use Rattle.std.proofs.lemmas.List.{length-append}
use Rattle.bpf_code.specs.declared.instruction.Instruction.{Instruction}
use Rattle.bpf_code.specs.declared.instruction.Instruction.TheVariants.{LoadWide, Load, StoreImmediate, StoreRegister, Arithmetic, Negate, MoveSignExtended, End, Jump, LongJump, Branch, Call as CallInstruction, Exit as ExitInstruction}
use Rattle.bpf_code.specs.Program.{Program, instruction_at}
use Rattle.schema.specs.Schema.{Tables}
use Rattle.schema.specs.Rows.{Rows}
use Rattle.schema.specs.declared.look.Look.{Look}
use Rattle.bpf_semantics.specs.State.{State, entry_state}
use Rattle.bpf_semantics.specs.Step.{Moment, Going, Ended, Stuck, step}
use Rattle.bpf_semantics.specs.Run.{Run, moment, next_moment, run}
use Rattle.bpf_semantics.specs.Agree.{looks_of}
use Rattle.bpf_semantics.proofs.RunLemmas.{exit_is, step_runs, going_runs, ended_runs}
use Rattle.bpf_semantics.proofs.LookLemmas.{execute_looks}
use Rattle.bpf_semantics.proofs.MomentLemmas.{from_its_length_on}
use Rattle.bpf_vm.specs.Turns.{MachineState, MayWantMemory}
use Rattle.bpf_vm.specs.Run.{Effects, HasEnded, IsStaleAt, IsNotStale, AfterTurn}
use Rattle.log_model.specs.Log.{StoredProcedure, Setting, Call, Log, or_idle, run_of_procedure, run_of_call, rows_after, run_in, moment_of, moment_at, procedure_of}
use Rattle.log_model.specs.OpenCall.{OpenCall, makes_look, is_row_helper, calls_row_helper, at_row_helper}
use Rattle.log_model.proofs.NextLemmas.{is_row}
use Rattle.catalogue.specs.Catalogue.{accepted_of}
use Rattle.bpf_vm.specs.declared.turn.Turn.{Turn}
use Rattle.bpf_vm.specs.declared.turn.Turn.TheVariants.{More, Exit, Stale, NoMemory}
use Rattle.world_calls.specs.OpenCall.{looks_at_gone, IsTurn, stays_open}

abbrev just : {X : Type 0} → X → Option X
just x = Some x

-- ---- the run

pub run_is : (w : Setting) (log : Log) (call : Call) (p : StoredProcedure) (r : Run) → procedure_of w log call ≡ Some p → run p.program w.tables call.args (rows_after w log call.snapshot) ≡ Some r → run_in w log call ≡ r
unfolding run_of_call
run_is w log call p r known e =
    ap (λ (o : Option StoredProcedure). or_idle (rows_after w log call.snapshot) (run_of_procedure w.tables o call.args (rows_after w log call.snapshot))) known
    ∙ ap (or_idle (rows_after w log call.snapshot)) e

pub moment_is : (w : Setting) (log : Log) (call : Call) (p : StoredProcedure) (k : ℕ) → procedure_of w log call ≡ Some p → moment_at w log call k ≡ moment p.program w.tables k (entry_state call.args (rows_after w log call.snapshot))
unfolding moment_at
moment_is w log call p k known = ap (λ (o : Option StoredProcedure). moment_of w.tables o call.args (rows_after w log call.snapshot) k) known

one_further : (w : Setting) (log : Log) (call : Call) (p : StoredProcedure) (k : ℕ) → procedure_of w log call ≡ just p → moment_at w log call (k + 1) ≡ next_moment (step p.program w.tables) (moment_at w log call k)
unfolding moment
one_further w log call p k known =
    let one : k + 1 ≡ suc k = omega arith in
    ap (moment_at w log call) one ∙ moment_is w log call p (suc k) known ∙ ap (next_moment (step p.program w.tables)) (sym (moment_is w log call p k known))

-- ---- looks

both : (a b : Bool) → (IsTrue a → IsTrue b → ⊥) → (a && b) ≡ false
both true true h = absurd (h refl refl)
both true false h = refl
both false b h = refl

differ : (m n : ℕ) → not (nat_eq m n) ≡ true → m ≡ n → ⊥
differ m n h e = grind arith

longer : (m n : ℕ) → m < n → not (nat_eq n m) ≡ true
longer m n lt = grind (arith, nat_tests)

looks_there : (w : Setting) (log : Log) (o : OpenCall) (s t : State) → moment_at w log o.call o.turns ≡ Going s → moment_at w log o.call (o.turns + 1) ≡ Going t → length s.looks < length t.looks → IsTrue (makes_look w log o)
looks_there w log o s t now next lt =
    ap (λ (m : Moment). not (nat_eq (length (looks_of m)) (length (looks_of (moment_at w log o.call o.turns))))) next
    ∙ ap (λ (m : Moment). not (nat_eq (length t.looks) (length (looks_of m)))) now
    ∙ longer (length s.looks) (length t.looks) lt

no_more : (w : Setting) (log : Log) (o : OpenCall) → looks_of (moment_at w log o.call (o.turns + 1)) ≡ looks_of (moment_at w log o.call o.turns) → IsTrue (makes_look w log o) → ⊥
no_more w log o e h = differ (length (looks_of (moment_at w log o.call (o.turns + 1)))) (length (looks_of (moment_at w log o.call o.turns))) h (ap (λ (l : List Look). length l) e)

one_more : (xs : List Look) (x : Look) (ys : List Look) → ys ≡ xs ++ x ∷ [] → length xs < length ys
one_more xs x ys e = let count = ap (λ (l : List Look). length l) e ∙ length-append xs (x ∷ []) in omega arith

-- where what a turn would look at isn't gone, the next instruction doesn't look at what is gone
pub looks_at_kept : (w : Setting) (log : Log) (o : OpenCall) (p : StoredProcedure) (gone : Bool) (s : State) (m : Moment) → procedure_of w log o.call ≡ just p → moment_at w log o.call o.turns ≡ Going s
    → step p.program w.tables s ≡ m → (m ≡ Stuck → ⊥) → (IsStaleAt (accepted_of w.tables p) gone s → ⊥) → looks_at_gone w log gone o ≡ false
looks_at_kept w log o p gone s (Going t) known now is apart fresh =
    let runs = step_runs p.program w.tables s (Going t) is (going_runs t) in
    let next = one_further w log o.call p o.turns known ∙ ap (next_moment (step p.program w.tables)) now ∙ is in
    both (makes_look w log o) gone (λ h g. elim (execute_looks w.tables runs.0 s t runs.2) [
      | inl e ↦ no_more w log o (ap looks_of next ∙ e ∙ sym (ap looks_of now)) h
      | inr x ↦ fresh (t, is, (g, one_more s.looks x.0 t.looks x.2))
    ])
looks_at_kept w log o p gone s (Ended r t) known now is apart fresh =
    let runs = step_runs p.program w.tables s (Ended r t) is (ended_runs r t) in
    let next = one_further w log o.call p o.turns known ∙ ap (next_moment (step p.program w.tables)) now ∙ is in
    both (makes_look w log o) gone (λ h g. no_more w log o (ap looks_of next ∙ ap (λ (x : State). x.looks) (sym (exit_is w.tables runs.0 s r t runs.2)) ∙ sym (ap looks_of now)) h)
looks_at_kept w log o p gone s Stuck known now is apart fresh = absurd (apart refl)

pub looks_at_nothing_at_its_end : (w : Setting) (log : Log) (o : OpenCall) (p : StoredProcedure) (gone : Bool) (reply : ℕ) (s : State) → procedure_of w log o.call ≡ just p → moment_at w log o.call o.turns ≡ Ended reply s → looks_at_gone w log gone o ≡ false
looks_at_nothing_at_its_end w log o p gone reply s known now =
    let next = one_further w log o.call p o.turns known ∙ ap (next_moment (step p.program w.tables)) now in
    both (makes_look w log o) gone (λ h g. no_more w log o (ap looks_of next ∙ sym (ap looks_of now)) h)

both_true : (a b : Bool) → a ≡ true → IsTrue b → (a && b) ≡ true
both_true true true h g = refl
both_true true false h g = absurd cc
both_true false b h g = absurd cc

pub looks_at_what_is_gone : (w : Setting) (log : Log) (o : OpenCall) (p : StoredProcedure) (gone : Bool) (s : State) → procedure_of w log o.call ≡ just p → moment_at w log o.call o.turns ≡ Going s
    → IsStaleAt (accepted_of w.tables p) gone s → looks_at_gone w log gone o ≡ true
looks_at_what_is_gone w log o p gone s known now stale =
    let next = one_further w log o.call p o.turns known ∙ ap (next_moment (step p.program w.tables)) now ∙ stale.1 in
    both_true (makes_look w log o) gone (looks_there w log o s stale.0 now next stale.2.1) stale.2.0

-- ---- row helpers

wants : (i : Option Instruction) → MayWantMemory i → calls_row_helper i ≡ true
wants (Some (CallInstruction n)) h = ap is_row_helper h.1 ∙ is_row h.0 h.2
wants None h = absurd h
wants (Some (LoadWide a b)) h = absurd h
wants (Some (Load a b c d)) h = absurd h
wants (Some (StoreImmediate a b c d)) h = absurd h
wants (Some (StoreRegister a b c d)) h = absurd h
wants (Some (Arithmetic a b c d)) h = absurd h
wants (Some (Negate a b)) h = absurd h
wants (Some (MoveSignExtended a b c)) h = absurd h
wants (Some (End a b c)) h = absurd h
wants (Some (Jump a)) h = absurd h
wants (Some (LongJump a)) h = absurd h
wants (Some (Branch a b c d f)) h = absurd h
wants (Some ExitInstruction) h = absurd h

pub at_row_helper_is : (w : Setting) (log : Log) (o : OpenCall) (p : StoredProcedure) (s : State) → procedure_of w log o.call ≡ just p → moment_at w log o.call o.turns ≡ Going s
    → MayWantMemory (instruction_at p.program s.slot) → at_row_helper (procedure_of w log o.call) (moment_at w log o.call o.turns) ≡ true
at_row_helper_is w log o p s known now h =
    ap (λ (q : Option StoredProcedure). at_row_helper q (moment_at w log o.call o.turns)) known ∙ ap (λ (m : Moment). at_row_helper (just p) m) now ∙ wants (instruction_at p.program s.slot) h

-- ---- what a turn answers and leaves

-- an accepted procedure's run of the call, which isn't stuck
pub record HasCallRun (w : Setting) (log : Log) (o : OpenCall) (p : StoredProcedure) : Type 0 where
  pub known : procedure_of w log o.call ≡ just p
  pub r : Run
  pub is_run : run p.program w.tables o.call.args (rows_after w log o.call.snapshot) ≡ Some r
  pub not_stuck : moment p.program w.tables (o.turns + 1) (entry_state o.call.args (rows_after w log o.call.snapshot)) ≡ Stuck → ⊥

le_or_more : (m n : ℕ) → (m ≤ n) ⊎ (n < m)
le_or_more m n = elim (nat_le m n) as (λ b. nat_le m n ≡ b → (m ≤ n) ⊎ (n < m)) [ true ↦ λ e. inl (grind (arith, nat_tests)) | false ↦ λ e. inr (grind (arith, nat_tests)) ] refl

going_on : (s t : State) (reply : ℕ) → Going s ≡ Ended reply t → ⊥
going_on s t reply e = cc

same_run : (r q : Run) → just r ≡ just q → r ≡ q
same_run r q e = cc

pub before_its_end : (p : Program) (tables : Tables) (args : List ℕ) (rows : Rows) (r : Run) (k : ℕ) (s : State) → run p tables args rows ≡ just r → moment p tables k (entry_state args rows) ≡ Going s → k < r.steps
before_its_end p tables args rows r k s e at = elim (le_or_more r.steps k) [
  | inl le ↦ let end = from_its_length_on p tables args rows r k e le in absurd (going_on s end.0 r.reply (sym at ∙ end.1))
  | inr lt ↦ lt
]

pub step_from : (w : Setting) (log : Log) (o : OpenCall) (p : StoredProcedure) (s : State) (m : Moment) → HasCallRun w log o p → moment_at w log o.call o.turns ≡ Going s → moment_at w log o.call (o.turns + 1) ≡ m → step p.program w.tables s ≡ m
step_from w log o p s m c now next = sym (one_further w log o.call p o.turns c.known ∙ ap (next_moment (step p.program w.tables)) now) ∙ next

-- an instruction before the last that isn't stale
pub more_is : (w : Setting) (log : Log) (o : OpenCall) (p : StoredProcedure) (gone : Bool) (s : State) (c : HasCallRun w log o p) → moment p.program w.tables o.turns (entry_state o.call.args (rows_after w log o.call.snapshot)) ≡ Going s
    → IsNotStale (accepted_of w.tables p) o.call.args (rows_after w log o.call.snapshot) gone o.turns → o.turns + 1 < c.r.steps → IsTurn w log gone o More (record o { turns = o.turns + 1 })
more_is w log o p gone s c at fresh lt =
    let now = moment_is w log o.call p o.turns c.known ∙ at in
    let next = moment_is w log o.call p (o.turns + 1) c.known in
    let is = step_from w log o p s _ c now next in
    let same = run_is w log o.call p c.r c.known c.is_run in (
      looks_at_kept w log o p gone s _ c.known now is c.not_stuck (fresh s at),
      subst (λ (r : Run). o.turns + 1 < r.steps) (sym same) lt,
      refl,
    )

pub turn_is : (w : Setting) (log : Log) (o : OpenCall) (p : StoredProcedure) (gone : Bool) (turn : Turn) (s : State) (n : MachineState) (after : Effects) → HasCallRun w log o p
    → moment p.program w.tables o.turns (entry_state o.call.args (rows_after w log o.call.snapshot)) ≡ Going s
    → AfterTurn (accepted_of w.tables p) o.call.args (rows_after w log o.call.snapshot) gone o.turns turn n after
    → IsTurn w log gone o turn (record o { turns = cond (stays_open turn) (o.turns + 1) o.turns })
turn_is w log o p gone More s n after c at a =
    let lt = before_its_end p.program w.tables o.call.args (rows_after w log o.call.snapshot) c.r (o.turns + 1) a.0.here.state c.is_run a.0.here.at in
    more_is w log o p gone s c at a.1 lt
turn_is w log o p gone (Exit reply) s n after c at a =
    let now = moment_is w log o.call p o.turns c.known ∙ at in
    let same = run_is w log o.call p a.r c.known a.is_run in
    let steps : (run_in w log o.call).steps ≡ o.turns + 1 = ap (λ (r : Run). r.steps) same ∙ a.steps in
    let end = from_its_length_on p.program w.tables o.call.args (rows_after w log o.call.snapshot) a.r (o.turns + 1) a.is_run (let count = a.steps in omega arith) in
    let next = moment_is w log o.call p (o.turns + 1) c.known ∙ end.1 in
    let is = step_from w log o p s _ c now next in (
      looks_at_kept w log o p gone s _ c.known now is (λ e. cc) (λ stale. going_on stale.0 end.0 a.r.reply (sym stale.1 ∙ is)),
      omega arith,
      sym a.replied ∙ ap (λ (r : Run). r.reply) (sym same),
      ap (λ (k : ℕ). record o { turns = k }) (sym steps),
    )
turn_is w log o p gone Stale s n after c at a =
    looks_at_what_is_gone w log o p gone a.0.state c.known (moment_is w log o.call p o.turns c.known ∙ a.0.at) a.1
turn_is w log o p gone NoMemory s n after c at a =
    let now = moment_is w log o.call p o.turns c.known ∙ a.0.at in
    let is = step_from w log o p a.0.state _ c now (moment_is w log o.call p (o.turns + 1) c.known) in (
      looks_at_kept w log o p gone a.0.state _ c.known now is c.not_stuck (a.2 a.0.state a.0.at),
      at_row_helper_is w log o p a.0.state c.known now a.1,
    )

-- ---- the end

-- a call at its end answers the same again
pub turn_at_its_end : (w : Setting) (log : Log) (o : OpenCall) (p : StoredProcedure) (gone : Bool) (reply : ℕ) (effects : Effects) → procedure_of w log o.call ≡ just p
    → HasEnded (accepted_of w.tables p) o.call.args (rows_after w log o.call.snapshot) o.turns reply effects → IsTurn w log gone o (Exit reply) o
turn_at_its_end w log o p gone reply effects known a =
    let same = run_is w log o.call p a.r known a.is_run in
    let steps : (run_in w log o.call).steps ≡ o.turns = ap (λ (r : Run). r.steps) same ∙ a.steps in
    let end = from_its_length_on p.program w.tables o.call.args (rows_after w log o.call.snapshot) a.r o.turns a.is_run (let count = a.steps in omega arith) in (
      looks_at_nothing_at_its_end w log o p gone a.r.reply end.0 known (moment_is w log o.call p o.turns known ∙ end.1),
      omega arith,
      sym a.replied ∙ ap (λ (r : Run). r.reply) (sym same),
      ap (λ (k : ℕ). record o { turns = k }) (sym steps),
    )
