-- A run ends or is stuck: each step goes on, and the program has an end.
use Rattle.std.proofs.Common.{◌≡◌, ◌⊎◌, inl, inr, ℕ, zero, suc, ◌+◌, ◌≤◌, List, [], ◌∷◌, length, Option, Some, None, refl, sym, ap, ◌∙◌, arith}
use Rattle.std.specs.Prelude.{◌↔◌}
use Rattle.bpf_code.specs.declared.instruction.Instruction.{Instruction}
use Rattle.bpf_code.specs.Program.{Program, instruction_at, distance_of}
use Rattle.schema.specs.Schema.{Tables}
use Rattle.schema.specs.Rows.{Rows}
use Rattle.bpf_semantics.specs.State.{State, entry_state}
use Rattle.bpf_semantics.specs.Step.{Moment, Going, Ended, Stuck, or_stuck, execute, step}
use Rattle.bpf_semantics.specs.Run.{next_moment, moment, run, run_at, run_of}
use Rattle.bpf_semantics.specs.Path.{fall_through, jump_of}
use Rattle.bpf_semantics.specs.Fit.{Leads}
use Rattle.bpf_semantics.proofs.StepLemmas.{just, Steps, execute_leads}
use Rattle.bpf_semantics.proofs.PathLemmas.{fall_further, jump_further}
use Rattle.bpf_semantics.proofs.RunLemmas.{stuck_stays, ended_stays, step_runs, going_runs, ended_runs}

-- ---- after so many steps the slot is at least that far on

leads_further : (o : Option ℕ) (from to : ℕ) → ((n : ℕ) → o ≡ just n → 1 ≤ n) → Leads o from to → from + 1 ≤ to
leads_further None from to further h = absurd h
leads_further (Some n) from to further h = let least = further n refl in omega arith

step_further : (i : Instruction) (s t : State) → Steps i s t → s.slot + 1 ≤ t.slot
step_further i s t steps = elim steps.leads [
  | inl h ↦ leads_further (fall_through i) s.slot t.slot (fall_further i) h
  | inr h ↦ leads_further (jump_of i) s.slot t.slot (jump_further (distance_of i)) h
]

abbrev FarOn : ℕ → Moment → Type 0
FarOn k (Going s) = k ≤ s.slot
FarOn k _ = Unit {0}

step_far : (p : Program) (tables : Tables) (k : ℕ) (m : Moment) → FarOn k m → FarOn (suc k) (next_moment (step p tables) m)
step_far p tables k (Ended reply s) h = tt
step_far p tables k Stuck h = tt
step_far p tables k (Going s) h =
    elim (step p tables s) as (λ m. step p tables s ≡ m → FarOn (suc k) m) [
      | Going t ↦ λ e.
          let runs = step_runs p tables s (Going t) e (going_runs t) in
          let further = step_further runs.0 s t (execute_leads tables runs.0 s t runs.2) in
          omega arith
      | Ended reply t ↦ λ e. tt
      | Stuck ↦ λ e. tt
    ] refl

far_on : (p : Program) (tables : Tables) (args : List ℕ) (rows : Rows) (k : ℕ) → FarOn k (moment p tables k (entry_state args rows))
unfolding moment
far_on p tables args rows zero = omega arith
far_on p tables args rows (suc k) = step_far p tables k (moment p tables k (entry_state args rows)) (far_on p tables args rows k)

-- ---- behind the program there is no step

none_behind : (p : Program) (slot : ℕ) → length p ≤ slot → instruction_at p slot ≡ None
none_behind [] slot h = refl
none_behind (i ∷ p) zero h = absurd (omega arith)
none_behind (i ∷ p) (suc slot) h = none_behind p slot (omega arith)

no_step : (p : Program) (tables : Tables) (m : Moment) → FarOn (length p) m → (m ≡ Stuck) ⊎ ((s : State) × (m ≡ Going s)) → next_moment (step p tables) m ≡ Stuck
unfolding step or_stuck
no_step p tables (Going s) h either = ap (λ o. or_stuck o (λ i. execute tables i s)) (none_behind p s.slot h)
no_step p tables (Ended reply s) h either = elim either [ inl e ↦ absurd cc | inr e ↦ absurd (let f = e.1 in cc) ]
no_step p tables Stuck h either = refl

not_ended_then : (rows : Rows) (m : Moment) → run_at rows m ≡ None → (m ≡ Stuck) ⊎ ((s : State) × (m ≡ Going s))
not_ended_then rows (Going s) e = inr (s, refl)
not_ended_then rows (Ended reply s) e = absurd cc
not_ended_then rows Stuck e = inl refl

one_later : (p : Program) (tables : Tables) (args : List ℕ) (rows : Rows) → moment p tables (length p + 1) (entry_state args rows) ≡ next_moment (step p tables) (moment p tables (length p) (entry_state args rows))
unfolding moment
one_later p tables args rows = let same : length p + 1 ≡ suc (length p) = omega arith in ap (λ (k : ℕ). moment p tables k (entry_state args rows)) same

stuck_at_the_end : (p : Program) (tables : Tables) (args : List ℕ) (rows : Rows) → run p tables args rows ≡ None → moment p tables (length p + 1) (entry_state args rows) ≡ Stuck
unfolding run
stuck_at_the_end p tables args rows e =
    one_later p tables args rows
    ∙ no_step p tables (moment p tables (length p) (entry_state args rows)) (far_on p tables args rows (length p)) (not_ended_then rows _ e)

none_of : (rows : Rows) (next : State → Moment) (m : Moment) → next_moment next m ≡ Stuck → run_at rows m ≡ None
none_of rows next (Going s) e = refl
none_of rows next (Ended reply s) e = absurd cc
none_of rows next Stuck e = refl

none_at_the_end : (p : Program) (tables : Tables) (args : List ℕ) (rows : Rows) → moment p tables (length p + 1) (entry_state args rows) ≡ Stuck → run p tables args rows ≡ None
unfolding run
none_at_the_end p tables args rows e =
    none_of rows (step p tables) (moment p tables (length p) (entry_state args rows)) (sym (one_later p tables args rows) ∙ e)

pub none_where_stuck : (p : Program) (tables : Tables) (args : List ℕ) (rows : Rows) → (run p tables args rows ≡ None) ↔ (moment p tables (length p + 1) (entry_state args rows) ≡ Stuck)
none_where_stuck p tables args rows = (stuck_at_the_end p tables args rows, none_at_the_end p tables args rows)

-- ---- what has ended is the run

ended_one : (r q : ℕ) (s t : State) → Ended r s ≡ Ended q t → (r ≡ q) × (s ≡ t)
ended_one r q s t e = (cc, cc)

-- where the last moment hasn't ended, none has
ended_past : (p : Program) (tables : Tables) (args : List ℕ) (rows : Rows) (k reply : ℕ) (s : State)
    → (moment p tables (length p) (entry_state args rows) ≡ Stuck) ⊎ ((t : State) × (moment p tables (length p) (entry_state args rows) ≡ Going t))
    → moment p tables k (entry_state args rows) ≡ Ended reply s → ⊥
ended_past p tables args rows k reply s either e =
    let stuck : moment p tables (length p + 1) (entry_state args rows) ≡ Stuck =
    one_later p tables args rows ∙ no_step p tables (moment p tables (length p) (entry_state args rows)) (far_on p tables args rows (length p)) either in
    let order : k + (length p + 1) ≡ (length p + 1) + k = omega arith in
    let later : moment p tables ((length p + 1) + k) (entry_state args rows) ≡ Stuck =
    ap (λ (j : ℕ). moment p tables j (entry_state args rows)) (sym order) ∙ stuck_stays p tables (length p + 1) k (entry_state args rows) stuck in
    let ends : moment p tables ((length p + 1) + k) (entry_state args rows) ≡ Ended reply s = ended_stays p tables k (length p + 1) reply (entry_state args rows) s e in
    ended_runs reply s (sym ends ∙ later)

-- the last moment, where a moment has ended
read_at : (p : Program) (tables : Tables) (args : List ℕ) (rows : Rows) (k reply : ℕ) (s : State) (m : Moment)
    → moment p tables (length p) (entry_state args rows) ≡ m → moment p tables k (entry_state args rows) ≡ Ended reply s → run_at rows m ≡ Some (run_of rows reply s)
read_at p tables args rows k reply s (Ended q t) last e =
    let first : moment p tables (length p + k) (entry_state args rows) ≡ Ended reply s = ended_stays p tables k (length p) reply (entry_state args rows) s e in
    let order : k + length p ≡ length p + k = omega arith in
    let second : moment p tables (length p + k) (entry_state args rows) ≡ Ended q t = ap (λ (j : ℕ). moment p tables j (entry_state args rows)) (sym order) ∙ ended_stays p tables (length p) k q (entry_state args rows) t last in
    let one = ended_one q reply t s (sym second ∙ first) in
    ap (λ (x : State). Some (run_of rows q x)) one.1 ∙ ap (λ (x : ℕ). Some (run_of rows x s)) one.0
read_at p tables args rows k reply s (Going t) last e = absurd (ended_past p tables args rows k reply s (inr (t, last)) e)
read_at p tables args rows k reply s Stuck last e = absurd (ended_past p tables args rows k reply s (inl last) e)

pub ended_is_run : (p : Program) (tables : Tables) (args : List ℕ) (rows : Rows) (k reply : ℕ) (s : State) → moment p tables k (entry_state args rows) ≡ Ended reply s → run p tables args rows ≡ Some (run_of rows reply s)
unfolding run
ended_is_run p tables args rows k reply s e = read_at p tables args rows k reply s (moment p tables (length p) (entry_state args rows)) refl e
