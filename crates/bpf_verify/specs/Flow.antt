-- What is known before each instruction of a program, and which programs are accepted.
use Rattle.std.specs.Prelude.{◌≡◌, ℕ, zero, suc, ◌+◌, ◌<◌, ◌==◌, if◌then◌else◌, List, [], ◌∷◌, ◌++◌, Option, Some, None}
use Rattle.bpf_code.specs.declared.instruction.Instruction.{Instruction}
use Rattle.bpf_code.specs.Program.{Program, instruction_at}
use Rattle.schema.specs.Schema.{Tables}
use Rattle.bpf_semantics.specs.Path.{fall_through, jump_of}
use Rattle.abs_state.specs.declared.state.AbsState.{AbsState}
use Rattle.abs_state.specs.State.{state_join, abs_entry}
use Rattle.abs_step.specs.declared.cause.Cause.{Cause}
use Rattle.abs_step.specs.Cause.{cause_of}
use Rattle.abs_step.specs.Result.{next_state, jump_state}

-- a program to be verified, with the tables that its calls may name and how many bytes its arguments have
pub record Procedure : Type 0 where
  pub program : Program
  pub tables : Tables
  pub args_len : ℕ

-- what an edge that leads so many slots on from a slot brings to slot j
abbrev pub edge_states : ℕ → ℕ → Option ℕ → Option AbsState → List AbsState
edge_states slot j (Some slots) (Some s) = if j == slot + slots then s ∷ [] else []
edge_states slot j _ _ = []

-- what an instruction sends to slot j: by the edge to the next instruction, and then by its jump
abbrev pub states_from : Tables → ℕ → ℕ → Option Instruction → Option AbsState → List AbsState
states_from tables slot j (Some i) (Some s) =
    edge_states slot j (fall_through i) (next_state tables i s) ++ edge_states slot j (jump_of i) (jump_state i s)
states_from tables slot j _ _ = []

-- what the first n slots, before which these states are known, send to slot j
unfoldable pub states_from_before : Procedure → (ℕ → Option AbsState) → ℕ → ℕ → List AbsState
states_from_before p states zero j = []
states_from_before p states (suc n) j = states_from_before p states n j ++ states_from p.tables n j (instruction_at p.program n) (states n)

abbrev pub join_one : Option AbsState → AbsState → AbsState
join_one None s = s
join_one (Some t) s = state_join t s

-- the join of a state, where there is one, and others
unfoldable pub join_with : Option AbsState → List AbsState → Option AbsState
join_with known [] = known
join_with known (s ∷ rest) = join_with (Some (join_one known s)) rest

-- the join of states; None where there are none
abbrev pub join_of : List AbsState → Option AbsState
join_of = join_with None

-- a run begins at slot 0
abbrev pub at_entry : ℕ → List AbsState
at_entry zero = abs_entry ∷ []
at_entry (suc _) = []

-- what is known before each of the first n slots: the join of what is sent there
unfoldable pub states_before : Procedure → ℕ → ℕ → Option AbsState
states_before p zero j = None
states_before p (suc n) j =
    if j == n then join_of (at_entry j ++ states_from_before p (states_before p n) n j) else states_before p n j

-- what is known before a slot; None where no taken edge reaches it
abbrev pub state_at : Procedure → ℕ → Option AbsState
state_at p j = states_before p (suc j) j

abbrev pub cause_if : Tables → ℕ → Option Instruction → Option AbsState → Option Cause
cause_if tables args_len (Some i) (Some s) = cause_of tables args_len i s
cause_if tables args_len _ _ = None

-- the lowest cause for which a slot's instruction is refused; None too where it isn't reached
abbrev pub cause_at : Procedure → ℕ → Option Cause
cause_at p j = cause_if p.tables p.args_len (instruction_at p.program j) (state_at p j)

-- no reached instruction has a cause
abbrev pub IsAccepted : Procedure → Type 0
IsAccepted p = (j : ℕ) → cause_at p j ≡ None

-- the lowest slot that has a cause, and its lowest
abbrev pub IsRefused : Procedure → ℕ → Cause → Type 0
IsRefused p slot cause = (cause_at p slot ≡ Some cause) × ((j : ℕ) → j < slot → cause_at p j ≡ None)
