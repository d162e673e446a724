-- Runs of accepted programs, moment by moment.
use Rattle.std.proofs.Common.{◌≡◌, ℕ, zero, suc, ◌+◌, ◌<◌, ◌≤◌, ◌^◌, ◌==◌, ◌⊎◌, inl, inr, Bool, true, List, [], ◌∷◌, length, Option, Some, None, refl, sym, subst, arith}
use Rattle.std.specs.Prelude.{IfSome, IsSome, ℤ, pos, negsuc, ◌≤ℤ◌, if◌then◌else◌}
use Rattle.std.specs.Option.{IsSomeAnd}
use Rattle.std.proofs.lemmas.Bool.{false≢true}
use Rattle.std.proofs.lemmas.Bool.Decides.{nat_tests}
use Rattle.std.proofs.lemmas.Int.{ints}
use Rattle.bpf_code.specs.declared.instruction.Instruction.{Instruction}
use Rattle.bpf_code.specs.Program.{Program, IsProgram, instruction_at, distance_of, Lands}
use Rattle.bpf_code.proofs.RangeLemmas.{range_at}
use Rattle.schema.specs.Schema.{Tables, AreTables}
use Rattle.schema.specs.Rows.{Rows, AreRows}
use Rattle.bpf_semantics.specs.State.{State, entry_state}
use Rattle.bpf_semantics.specs.Step.{Moment, Going, Ended, Stuck, or_stuck, execute, step}
use Rattle.bpf_semantics.specs.Run.{Run, next_moment, moment, run}
use Rattle.bpf_semantics.specs.Path.{fall_through, jump_of, longest_path}
use Rattle.bpf_semantics.specs.Fit.{IsState}
use Rattle.bpf_semantics.proofs.PathLemmas.{fall_further, jump_further}
use Rattle.bpf_semantics.proofs.NextLemmas.{first_begins, next_begins, jump_begins}
use Rattle.bpf_semantics.proofs.RunLemmas.{run_within}
use Rattle.bpf_semantics.proofs.EndLemmas.{none_where_stuck}
use Rattle.bpf_semantics.proofs.StateLemmas.{MomentFits, moment_fits}
use Rattle.bpf_semantics.proofs.FitRunLemmas.{run_fits}
use Rattle.abs_state.specs.declared.state.AbsState.{AbsState}
use Rattle.abs_state.specs.State.{abs_entry}
use Rattle.abs_step.specs.Cause.{cause_of}
use Rattle.abs_step.specs.Result.{next_state, jump_state}
use Rattle.bpf_verify.specs.Flow.{Procedure, edge_states, state_at, IsAccepted}
use Rattle.acceptance.specs.Description.{Describes, Suits, IsAbsState, IsEdgeTo, IsStepAlongEdge, IsOfProgram, StepsAlong}
use Rattle.acceptance.proofs.Entry.{entry_described}
use Rattle.acceptance.proofs.Reaching.{AllSend, AllOfProgram, One, One-left, One-right, edge_known, entry_here, state_known}

-- each sound instruction steps along an edge
abbrev pub AllStep : Tables → ℕ → Type 0
AllStep tables args_len = (i : Instruction) → IsOfProgram i → StepsAlong tables args_len i

-- ---- the instructions of a program

forward : (p : Program) (slot : ℕ) (d : Option ℤ) → ((z : ℤ) → d ≡ Some z → Lands p slot z) → IfSome d (λ z. pos 0 ≤ℤ z)
forward p slot None h = tt
forward p slot (Some (pos n)) h = grind (arith, ints)
forward p slot (Some (negsuc n)) h = absurd (h (negsuc n) refl)

pub program_instructions : (p : Program) → IsProgram p → AllOfProgram p
program_instructions p is slot i e = (range_at p slot i is.in_range e, forward p slot (distance_of i) (λ z d. is.jumps slot i z e d))

-- ---- an edge

eq_self : (n : ℕ) → (n == n) ≡ true
eq_self n = grind (arith, nat_tests)

when_equal : (a b : ℕ) → a ≡ b → (a == b) ≡ true
when_equal a b e = rw e (eq_self b)

arrives : (args_len : ℕ) (s t : State) (slots : Option ℕ) (o : Option AbsState) → IsEdgeTo args_len slots o s t → One (λ k. Describes args_len k t) (edge_states s.slot t.slot slots o)
arrives args_len s t None o h = absurd h
arrives args_len s t (Some n) None h = absurd h
arrives args_len s t (Some n) (Some known) h =
    subst (λ (b : Bool). One (λ k. Describes args_len k t) (if b then known ∷ [] else [])) (sym (when_equal t.slot (s.slot + n) h.0)) (inl h.1)

further : (args_len : ℕ) (s t : State) (slots : Option ℕ) (o : Option AbsState) → IsEdgeTo args_len slots o s t → ((n : ℕ) → slots ≡ Some n → 1 ≤ n) → s.slot < t.slot
further args_len s t None o h least = absurd h
further args_len s t (Some n) None h least = absurd h
further args_len s t (Some n) (Some known) h least = let one : 1 ≤ n = least n refl in omega (arith, h.0)

begins : (args_len : ℕ) (p : Program) (s t : State) (slots : Option ℕ) (o : Option AbsState) → IsEdgeTo args_len slots o s t → ((n : ℕ) → slots ≡ Some n → IsSome (instruction_at p (s.slot + n))) → IsSome (instruction_at p t.slot)
begins args_len p s t None o h at = absurd h
begins args_len p s t (Some n) None h at = absurd h
begins args_len p s t (Some n) (Some known) h at = subst (λ (j : ℕ). IsSome (instruction_at p j)) (sym h.0) (at n refl)

-- ---- a moment

-- an instruction begins at the state's slot, and what is known there is true of it
pub record IsFine (p : Procedure) (s : State) : Type 0 where
  pub begun : IsSome (instruction_at p.program s.slot)
  pub known : IsSomeAnd (state_at p s.slot) (λ k. Describes p.args_len k s)

abbrev pub IsFineMoment : Procedure → Moment → Type 0
IsFineMoment p (Going s) = IsFine p s
IsFineMoment p (Ended reply s) = Unit {0}
IsFineMoment p Stuck = ⊥

-- where a state goes on to, from an instruction of the program and what is known before it
next_fine : (p : Procedure) (s t : State) (i : Instruction) (known : AbsState) → IsProgram p.program → AllSend p.tables
    → instruction_at p.program s.slot ≡ Some i → state_at p s.slot ≡ Some known
    → IsEdgeTo p.args_len (fall_through i) (next_state p.tables i known) s t ⊎ IsEdgeTo p.args_len (jump_of i) (jump_state i known) s t → IsFine p t
next_fine p s t i known is sends at here (inl h) = record {
  begun = begins p.args_len p.program s t (fall_through i) (next_state p.tables i known) h (λ n e. next_begins p.program s.slot n i is at e);
  known = edge_known p t s.slot t.slot sends (program_instructions p.program is) (further p.args_len s t (fall_through i) (next_state p.tables i known) h (fall_further i))
      (rw (at, here) (One-left (λ k. Describes p.args_len k t) (edge_states s.slot t.slot (fall_through i) (next_state p.tables i known)) (edge_states s.slot t.slot (jump_of i) (jump_state i known)) (arrives p.args_len s t (fall_through i) (next_state p.tables i known) h)));
}
next_fine p s t i known is sends at here (inr h) = record {
  begun = begins p.args_len p.program s t (jump_of i) (jump_state i known) h (λ n e. jump_begins p.program s.slot n i is at e);
  known = edge_known p t s.slot t.slot sends (program_instructions p.program is) (further p.args_len s t (jump_of i) (jump_state i known) h (jump_further (distance_of i)))
      (rw (at, here) (One-right (λ k. Describes p.args_len k t) (edge_states s.slot t.slot (fall_through i) (next_state p.tables i known)) (edge_states s.slot t.slot (jump_of i) (jump_state i known)) (arrives p.args_len s t (jump_of i) (jump_state i known) h)));
}

along_fine : (p : Procedure) (s : State) (i : Instruction) (known : AbsState) (m : Moment) → IsProgram p.program → AllSend p.tables
    → instruction_at p.program s.slot ≡ Some i → state_at p s.slot ≡ Some known
    → IsStepAlongEdge p.tables p.args_len i known s m → IsFineMoment p m
along_fine p s i known (Going t) is sends at here h = next_fine p s t i known is sends at here h
along_fine p s i known (Ended reply t) is sends at here h = tt
along_fine p s i known Stuck is sends at here h = absurd h

-- ---- a step

no_cause : (p : Procedure) (slot : ℕ) (i : Instruction) (known : AbsState) → IsAccepted p → instruction_at p.program slot ≡ Some i → state_at p slot ≡ Some known → cause_of p.tables p.args_len i known ≡ None
no_cause p slot i known accepted at here = rw (at, here) at (accepted slot)

step_at : (p : Program) (tables : Tables) (s : State) (i : Instruction) → instruction_at p s.slot ≡ Some i → step p tables s ≡ execute tables i s
unfolding step or_stuck
step_at p tables s i e = rw e refl

step_of : (p : Procedure) (s : State) (at : Option Instruction) (here : Option AbsState) → IsProgram p.program → AreTables p.tables → AllSend p.tables → AllStep p.tables p.args_len → IsAccepted p
    → IsState p.tables s → instruction_at p.program s.slot ≡ at → state_at p s.slot ≡ here → IsSome at → IsSomeAnd here (λ k. Describes p.args_len k s) → IsFineMoment p (step p.program p.tables s)
step_of p s None here is are sends steps accepted state e f begun known = absurd (false≢true begun)
step_of p s (Some i) None is are sends steps accepted state e f begun known = absurd known
step_of p s (Some i) (Some k) is are sends steps accepted state e f begun known =
    let sound = program_instructions p.program is s.slot i e in
    let fits = subst (λ (o : Option AbsState). IfSome o IsAbsState) f (state_known p s.slot sends (program_instructions p.program is)) in
    subst (IsFineMoment p) (sym (step_at p.program p.tables s i e))
    (along_fine p s i k (execute p.tables i s) is sends e f (steps i sound k s are fits state known (no_cause p s.slot i k accepted e f)))

step_fine : (p : Procedure) (s : State) → IsProgram p.program → AreTables p.tables → AllSend p.tables → AllStep p.tables p.args_len → IsAccepted p → IsState p.tables s → IsFine p s → IsFineMoment p (step p.program p.tables s)
step_fine p s is are sends steps accepted state fine =
    step_of p s (instruction_at p.program s.slot) (state_at p s.slot) is are sends steps accepted state refl refl fine.begun fine.known

next_moment_fine : (p : Procedure) (m : Moment) → IsProgram p.program → AreTables p.tables → AllSend p.tables → AllStep p.tables p.args_len → IsAccepted p → MomentFits p.tables m → IsFineMoment p m → IsFineMoment p (next_moment (step p.program p.tables) m)
next_moment_fine p (Going s) is are sends steps accepted fits fine = step_fine p s is are sends steps accepted fits fine
next_moment_fine p (Ended reply s) is are sends steps accepted fits fine = tt
next_moment_fine p Stuck is are sends steps accepted fits fine = absurd fine

-- ---- the run

pub record IsGiven (p : Procedure) (args : List ℕ) (rows : Rows) : Type 0 where
  pub program : IsProgram p.program
  pub tables : AreTables p.tables
  pub accepted : IsAccepted p
  pub suited : Suits p args rows

moments_fine : (p : Procedure) (args : List ℕ) (rows : Rows) (k : ℕ) → IsGiven p args rows → AllSend p.tables → AllStep p.tables p.args_len → IsFineMoment p (moment p.program p.tables k (entry_state args rows))
unfolding moment
moments_fine p args rows zero given sends steps = record {
  begun = first_begins p.program given.program.slots given.program.not_empty;
  known = entry_here p (entry_state args rows) sends (program_instructions p.program given.program) (subst (λ (n : ℕ). Describes n abs_entry (entry_state args rows)) given.suited.long (entry_described args rows));
}
moments_fine p args rows (suc k) given sends steps =
    next_moment_fine p (moment p.program p.tables k (entry_state args rows)) given.program given.tables sends steps given.accepted
    (moment_fits p.program p.tables args rows k given.program.in_range given.suited.bytes given.suited.of_schema)
    (moments_fine p args rows k given sends steps)

pub moment_described : (p : Procedure) (args : List ℕ) (rows : Rows) (k : ℕ) (s : State) → IsGiven p args rows → AllSend p.tables → AllStep p.tables p.args_len
    → moment p.program p.tables k (entry_state args rows) ≡ Going s → IsSomeAnd (state_at p s.slot) (λ known. Describes p.args_len known s)
moment_described p args rows k s given sends steps e = let fine : IsFine p s = subst (IsFineMoment p) e (moments_fine p args rows k given sends steps) in fine.known

pub never_stuck : (p : Procedure) (args : List ℕ) (rows : Rows) (k : ℕ) → IsGiven p args rows → AllSend p.tables → AllStep p.tables p.args_len → moment p.program p.tables k (entry_state args rows) ≡ Stuck → ⊥
never_stuck p args rows k given sends steps e = subst (IsFineMoment p) e (moments_fine p args rows k given sends steps)

read_run : (p : Procedure) (args : List ℕ) (rows : Rows) (o : Option Run) → IsGiven p args rows → AllSend p.tables → AllStep p.tables p.args_len → run p.program p.tables args rows ≡ o
    → IsSomeAnd o (λ r. (r.steps ≤ longest_path p.program) × (r.reply < 2 ^ 64) × AreRows p.tables r.effect)
read_run p args rows None given sends steps e = absurd (never_stuck p args rows (length p.program + 1) given sends steps ((none_where_stuck p.program p.tables args rows).0 e))
read_run p args rows (Some r) given sends steps e =
    let fits = run_fits p.program p.tables args rows r given.program given.suited.bytes given.suited.of_schema e in
    (run_within p.program p.tables args rows r e, fits.reply, fits.effect)

pub has_run : (p : Procedure) (args : List ℕ) (rows : Rows) → IsGiven p args rows → AllSend p.tables → AllStep p.tables p.args_len
    → IsSomeAnd (run p.program p.tables args rows) (λ r. (r.steps ≤ longest_path p.program) × (r.reply < 2 ^ 64) × AreRows p.tables r.effect)
has_run p args rows given sends steps = read_run p args rows (run p.program p.tables args rows) given sends steps refl
