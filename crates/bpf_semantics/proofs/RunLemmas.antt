-- How far a run goes, and what stays.
use Rattle.std.proofs.Common.{◌≡◌, ℕ, zero, suc, ℤ, pos, negsuc, Bool, true, false, cond, ◌+◌, ◌≤◌, List, length, Option, Some, None, refl, sym, ap, subst, ◌∙◌, arith, inl, inr}
use Rattle.bpf_code.specs.declared.instruction.Register.TheVariants.{R0}
use Rattle.bpf_code.specs.declared.instruction.Instruction.{Instruction}
use Rattle.bpf_code.specs.declared.instruction.Instruction.TheVariants.{LoadWide, Load, StoreImmediate, StoreRegister, Arithmetic, Negate, MoveSignExtended, End, Jump, LongJump, Branch, Call, Exit}
use Rattle.bpf_code.specs.Program.{Program, instruction_at}
use Rattle.schema.specs.Schema.{Tables}
use Rattle.schema.specs.Rows.{Rows}
use Rattle.bpf_semantics.specs.State.{State, past, entry_state, number, register}
use Rattle.bpf_semantics.specs.Step.{Moment, Going, Ended, Stuck, or_stuck, after_jump, with_store, execute, step}
use Rattle.bpf_semantics.specs.Run.{next_moment, moment, Run, run_of, run_at, run}
use Rattle.bpf_semantics.specs.Path.{fall_through, jump_of, from_there, one_more, path, longest_path}
use Rattle.bpf_semantics.specs.Fit.{Leads}
use Rattle.bpf_semantics.proofs.StepLemmas.{just, Steps, execute_leads, set_goes}

-- ---- the first step first

pub first_moment : (p : Program) (tables : Tables) (s : State) → Going s ≡ moment p tables zero s
unfolding moment
first_moment p tables s = refl

pub moment-front : (p : Program) (tables : Tables) (k : ℕ) (s : State) → moment p tables (suc k) s ≡ next_moment (moment p tables k) (step p tables s)
unfolding moment
moment-front p tables zero s = elim (step p tables s) as (λ m. m ≡ next_moment (λ t. Going t) m) [ Going t ↦ refl | Ended r t ↦ refl | Stuck ↦ refl ]
moment-front p tables (suc k) s =
    ap (next_moment (step p tables)) (moment-front p tables k s)
    ∙ elim (step p tables s) as (λ m. next_moment (step p tables) (next_moment (moment p tables k) m) ≡ next_moment (moment p tables (suc k)) m) [ Going t ↦ refl | Ended r t ↦ refl | Stuck ↦ refl ]

-- ---- what has ended or is stuck stays so

pub stuck_stays : (p : Program) (tables : Tables) (k n : ℕ) (s : State) → moment p tables k s ≡ Stuck → moment p tables (n + k) s ≡ Stuck
unfolding moment
stuck_stays p tables k zero s e = let same : 0 + k ≡ k = omega arith in ap (λ (j : ℕ). moment p tables j s) same ∙ e
stuck_stays p tables k (suc n) s e =
    let same : suc n + k ≡ suc (n + k) = omega arith in
    ap (λ (j : ℕ). moment p tables j s) same ∙ ap (next_moment (step p tables)) (stuck_stays p tables k n s e)

pub ended_stays : (p : Program) (tables : Tables) (k n reply : ℕ) (s t : State) → moment p tables k s ≡ Ended reply t → moment p tables (n + k) s ≡ Ended reply t
unfolding moment
ended_stays p tables k zero reply s t e = let same : 0 + k ≡ k = omega arith in ap (λ (j : ℕ). moment p tables j s) same ∙ e
ended_stays p tables k (suc n) reply s t e =
    let same : suc n + k ≡ suc (n + k) = omega arith in
    ap (λ (j : ℕ). moment p tables j s) same ∙ ap (next_moment (step p tables)) (ended_stays p tables k n reply s t e)

-- ---- the length of a run

pub ended_is : (r : ℕ) (s : State) (q : ℕ) (t : State) → Ended r s ≡ Ended q t → s ≡ t
ended_is r s q t e = cc

ended_reply : (r : ℕ) (s : State) (q : ℕ) (t : State) → Ended r s ≡ Ended q t → r ≡ q
ended_reply r s q t e = cc

pub ending : {X : Type 0} (o : Option X) (next : X → Moment) (r : ℕ) (t : State) → or_stuck o next ≡ Ended r t → (x : X) × (o ≡ Some x) × (next x ≡ Ended r t)
unfolding or_stuck
ending None next r t e = absurd cc
ending (Some x) next r t e = (x, refl, e)

pub jump_goes : (d : ℤ) (s : State) (r : ℕ) (t : State) → after_jump d s ≡ Ended r t → ⊥
jump_goes (pos n) s r t e = cc
jump_goes (negsuc n) s r t e = cc

pub branch_goes : (b : Bool) (d : ℤ) (s : State) (r : ℕ) (t : State) → cond b (after_jump d s) (Going (past 1 s)) ≡ Ended r t → ⊥
branch_goes true d s r t e = jump_goes d s r t e
branch_goes false d s r t e = cc

pub store_goes : (o : Option (List (Option ℕ))) (s : State) (r : ℕ) (t : State) → with_store o s ≡ Ended r t → ⊥
store_goes o s r t e = let a = ending o _ r t e in let bad = a.2 in cc

-- EXIT is counted, and replies what r0 holds; nothing else ends
pub exit_ends : (tables : Tables) (i : Instruction) (s : State) (reply : ℕ) (t : State) → execute tables i s ≡ Ended reply t → (past 0 s ≡ t) × (number (register s R0) ≡ just reply)
unfolding execute
exit_ends tables (LoadWide dst value) s r t e = absurd (set_goes 2 dst _ s r t e)
exit_ends tables (Load kind dst src offset) s r t e = let a = ending _ _ r t e in absurd (set_goes 1 dst _ s r t a.2)
exit_ends tables (StoreImmediate size dst offset immediate) s r t e = absurd (store_goes _ s r t e)
exit_ends tables (StoreRegister size dst src offset) s r t e = let a = ending _ _ r t e in absurd (store_goes _ s r t a.2)
exit_ends tables (Arithmetic width op dst src) s r t e = let a = ending _ _ r t e in absurd (set_goes 1 dst _ s r t a.2)
exit_ends tables (Negate width dst) s r t e = let a = ending _ _ r t e in absurd (set_goes 1 dst _ s r t a.2)
exit_ends tables (MoveSignExtended kind dst src) s r t e = let a = ending _ _ r t e in absurd (set_goes 1 dst _ s r t a.2)
exit_ends tables (End order width dst) s r t e = let a = ending _ _ r t e in absurd (set_goes 1 dst _ s r t a.2)
exit_ends tables (Jump distance) s r t e = absurd (jump_goes distance s r t e)
exit_ends tables (LongJump distance) s r t e = absurd (jump_goes distance s r t e)
exit_ends tables (Branch width condition dst src distance) s r t e =
    let a = ending _ _ r t e in
    let b = ending _ _ r t a.2 in
    absurd (branch_goes _ distance s r t b.2)
exit_ends tables (Call helper) s r t e = let a = ending _ _ r t e in let bad = a.2 in absurd cc
exit_ends tables Exit s r t e =
    let a = ending _ _ r t e in
    (ended_is a.0 (past 0 s) r t a.2, a.1 ∙ ap (λ (n : ℕ). just n) (ended_reply a.0 (past 0 s) r t a.2))

pub exit_is : (tables : Tables) (i : Instruction) (s : State) (reply : ℕ) (t : State) → execute tables i s ≡ Ended reply t → past 0 s ≡ t
exit_is tables i s reply t e = (exit_ends tables i s reply t e).0

pub exit_reply : (tables : Tables) (i : Instruction) (s : State) (reply : ℕ) (t : State) → execute tables i s ≡ Ended reply t → number (register s R0) ≡ just reply
exit_reply tables i s reply t e = (exit_ends tables i s reply t e).1

exit_counts : (tables : Tables) (i : Instruction) (s : State) (reply : ℕ) (t : State) → execute tables i s ≡ Ended reply t → t.steps ≡ s.steps + 1
exit_counts tables i s reply t e = sym (ap (λ (u : State). u.steps) (exit_is tables i s reply t e))

leads_most : (f : ℕ → ℕ) (o : Option ℕ) (from to : ℕ) → Leads o from to → f to ≤ from_there f from o
leads_most f None from to h = absurd h
leads_most f (Some slots) from to h = subst (λ (k : ℕ). f k ≤ f (from + slots)) (sym h) (omega arith)

step_most : (f : ℕ → ℕ) (i : Instruction) (s t : State) → Steps i s t → 1 + f t.slot ≤ one_more f s.slot (Some i)
step_most f i s t h =
    elim h.leads [
      | inl l ↦ let m = leads_most f (fall_through i) s.slot t.slot l in omega arith
      | inr l ↦ let m = leads_most f (jump_of i) s.slot t.slot l in omega arith
    ]

pub not_ended : (p : Program) (tables : Tables) (s : State) (reply : ℕ) (t : State) → moment p tables zero s ≡ Ended reply t → ⊥
unfolding moment
not_ended p tables s reply t e = cc

-- a step runs the instruction that begins at its slot
pub step_runs : (p : Program) (tables : Tables) (s : State) (m : Moment) → step p tables s ≡ m → (m ≡ Stuck → ⊥) → (i : Instruction) × (instruction_at p s.slot ≡ Some i) × (execute tables i s ≡ m)
unfolding step or_stuck
step_runs p tables s m e runs =
    elim (instruction_at p s.slot) as (λ o. or_stuck o (λ i. execute tables i s) ≡ m → (i : Instruction) × (o ≡ Some i) × (execute tables i s ≡ m)) [
      | None ↦ λ h. absurd (runs (sym h))
      | Some i ↦ λ h. (i, refl, h)
    ] e

pub going_runs : (s : State) → Going s ≡ Stuck → ⊥
going_runs s e = cc

pub ended_runs : (r : ℕ) (s : State) → Ended r s ≡ Stuck → ⊥
ended_runs r s e = cc

-- a run of so many steps takes no more than the longest path of so many instructions
ended_within : (p : Program) (tables : Tables) (k : ℕ) (s : State) (reply : ℕ) (t : State) → moment p tables k s ≡ Ended reply t → t.steps ≤ s.steps + path p k s.slot
unfolding path
ended_within p tables zero s reply t e = absurd (not_ended p tables s reply t e)
ended_within p tables (suc k) s reply t e =
    elim (step p tables s) as (λ m. step p tables s ≡ m → next_moment (moment p tables k) m ≡ Ended reply t → t.steps ≤ s.steps + one_more (path p k) s.slot (instruction_at p s.slot)) [
      | Going u ↦ λ is h.
          let runs = step_runs p tables s (Going u) is (going_runs u) in
          let leads = execute_leads tables runs.0 s u runs.2 in
          let most = step_most (path p k) runs.0 s u leads in
          let rest = ended_within p tables k u reply t h in
          let counts = leads.counts in
          subst (λ o. t.steps ≤ s.steps + one_more (path p k) s.slot o) (sym runs.1) (omega arith)
      | Ended r u ↦ λ is h.
          let runs = step_runs p tables s (Ended r u) is (ended_runs r u) in
          let counts = exit_counts tables runs.0 s r u runs.2 in
          let same : u.steps ≡ t.steps = ap (λ (v : State). v.steps) (ended_is r u reply t h) in
          subst (λ o. t.steps ≤ s.steps + one_more (path p k) s.slot o) (sym runs.1) (omega arith)
      | Stuck ↦ λ is h. absurd (ended_runs reply t (sym h))
    ] refl (sym (moment-front p tables k s) ∙ e)

some_run : (r q : Run) → just r ≡ just q → r ≡ q
some_run r q e = cc

pub run_ended : (rows : Rows) (m : Moment) (r : Run) → run_at rows m ≡ just r → (reply : ℕ) × (s : State) × (m ≡ Ended reply s) × (run_of rows reply s ≡ r)
run_ended rows (Going s) r e = absurd cc
run_ended rows (Ended reply s) r e = (reply, s, refl, some_run (run_of rows reply s) r e)
run_ended rows Stuck r e = absurd cc

pub run_within : (p : Program) (tables : Tables) (args : List ℕ) (rows : Rows) (r : Run) → run p tables args rows ≡ Some r → r.steps ≤ longest_path p
unfolding run
run_within p tables args rows r e =
    let at = run_ended rows (moment p tables (length p) (entry_state args rows)) r e in
    let most = ended_within p tables (length p) (entry_state args rows) at.0 at.1 at.2 in
    subst (λ (q : Run). q.steps ≤ longest_path p) at.3 (omega arith)

-- ---- the longest path and the instructions
