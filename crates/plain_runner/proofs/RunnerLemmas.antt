-- What the plain runner's parts come to.
use Rattle.std.proofs.Common.{◌≡◌, ℕ, zero, suc, ◌+◌, ◌≤◌, List, length, refl, ap, ◌∙◌, arith}
use Rattle.bpf_code.specs.Program.{Program}
use Rattle.schema.specs.Schema.{Tables}
use Rattle.schema.specs.Rows.{Rows}
use Rattle.bpf_semantics.specs.State.{State, entry_state}
use Rattle.bpf_semantics.specs.Step.{Moment, Going, Ended, Stuck, step}
use Rattle.bpf_semantics.specs.Run.{moment, next_moment, run, run_at}
use Rattle.plain_runner.specs.Runner.{steps_before}
use Rattle.bpf_semantics.proofs.StepLemmas.{execute_leads}
use Rattle.bpf_semantics.proofs.RunLemmas.{step_runs, going_runs}

-- after so many steps that many instructions were run
going_on_after : (p : Program) (tables : Tables) (k : ℕ) (m : Moment) → steps_before m ≤ k → steps_before (next_moment (step p tables) m) ≤ suc k
going_on_after p tables k (Ended reply s) h = omega arith
going_on_after p tables k Stuck h = omega arith
going_on_after p tables k (Going s) h =
    elim (step p tables s) as (λ m. step p tables s ≡ m → steps_before m ≤ suc k) [
      | Going t ↦ λ e.
          let runs = step_runs p tables s (Going t) e (going_runs t) in
          let leads = execute_leads tables runs.0 s t runs.2 in
          let counts = leads.counts in
          omega arith
      | Ended reply t ↦ λ e. omega arith
      | Stuck ↦ λ e. omega arith
    ] refl

pub few_steps : (p : Program) (tables : Tables) (args : List ℕ) (rows : Rows) (k : ℕ) → steps_before (moment p tables k (entry_state args rows)) ≤ k
unfolding moment
few_steps p tables args rows zero = omega arith
few_steps p tables args rows (suc k) = going_on_after p tables k (moment p tables k (entry_state args rows)) (few_steps p tables args rows k)

pub one_later : (p : Program) (tables : Tables) (s : State) (k : ℕ) (m n : Moment) → m ≡ moment p tables k s → n ≡ next_moment (step p tables) m → n ≡ moment p tables (k + 1) s
unfolding moment
one_later p tables s k m n e f = let same : suc k ≡ k + 1 = omega arith in f ∙ ap (next_moment (step p tables)) e ∙ ap (λ (j : ℕ). moment p tables j s) same

pub first_moment : (p : Program) (tables : Tables) (s t : State) → s ≡ t → Going s ≡ moment p tables 0 t
unfolding moment
first_moment p tables s t e = ap (λ u. Going u) e

pub read_off : (p : Program) (tables : Tables) (args : List ℕ) (rows : Rows) (m : Moment) → m ≡ moment p tables (length p) (entry_state args rows) → run_at rows m ≡ run p tables args rows
unfolding run
read_off p tables args rows m e = ap (run_at rows) e
