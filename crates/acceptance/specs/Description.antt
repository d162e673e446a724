-- What is known of a state, as the verifier has it, and the states that it is true of.
use Rattle.std.specs.Prelude.{◌≡◌, ◌⊎◌, ℕ, ◌+◌, ◌<◌, All, List, pos, ◌≤ℤ◌, false, IsTrue, length, slice_index_or, Option, Some, None, IsSome, IfSome}
use Rattle.bpf_code.specs.declared.instruction.Instruction.{Instruction}
use Rattle.bpf_code.specs.declared.instruction.Register.{Register}
use Rattle.bpf_code.specs.Program.{distance_of, IsInRange}
use Rattle.schema.specs.Schema.{Tables, AreTables}
use Rattle.schema.specs.Rows.{Rows, AreRows}
use Rattle.bpf_semantics.specs.declared.value.Value.{Value}
use Rattle.bpf_semantics.specs.declared.value.Value.TheVariants as value
use Rattle.bpf_semantics.specs.State.{State, register}
use Rattle.bpf_semantics.specs.Step.{Moment, Going, Ended, Stuck, execute}
use Rattle.bpf_semantics.specs.Path.{fall_through, jump_of}
use Rattle.bpf_semantics.specs.Fit.{IsState}
use Rattle.interval.specs.Range.{IsRange, IsWithin}
use Rattle.abs_state.specs.declared.kind.Kind.{Kind}
use Rattle.abs_state.specs.declared.kind.Kind.TheVariants.{Nothing, Number, Stack, Args}
use Rattle.abs_state.specs.declared.state.AbsState.{AbsState}
use Rattle.abs_state.specs.State.{kind_of}
use Rattle.abs_step.specs.Cause.{cause_of}
use Rattle.abs_step.specs.Result.{next_state, jump_state}
use Rattle.bpf_verify.specs.Flow.{Procedure}

-- the value is one of the kind; any is, where nothing is known
abbrev pub IsOf : Kind → Value → Type 0
IsOf Nothing v = Unit {0}
IsOf (Number r) (value.Number n) = IsWithin r n
IsOf (Stack lo hi) (value.Stack place) = (lo ≤ℤ place) × (place ≤ℤ hi)
IsOf (Args lo hi) (value.Args place) = (lo ≤ℤ place) × (place ≤ℤ hi)
IsOf _ _ = ⊥

-- what is known is true of the state: each register's value is of its kind, each byte that is initialised is known, and
-- the arguments are so long
pub record Describes (args_len : ℕ) (known : AbsState) (s : State) : Type 0 where
  pub registers : (r : Register) → IsOf (kind_of known r) (register s r)
  pub stack : (k : ℕ) → IsTrue (slice_index_or known.initialised k false) → IsSome (slice_index_or s.stack k None)
  pub args : length s.args ≡ args_len

abbrev pub IsKind : Kind → Type 0
IsKind (Number r) = IsRange r
IsKind _ = Unit {0}

-- what may be known of a state: of 11 registers and 512 bytes, and ranges of words
pub record IsAbsState (known : AbsState) : Type 0 where
  pub registers : length known.kinds ≡ 11
  pub kinds : (r : Register) → IsKind (kind_of known r)
  pub stack : length known.initialised ≡ 512

-- ---- one step

-- an edge leads from s so many slots on to t, and what is sent along it is true of t
abbrev pub IsEdgeTo : ℕ → Option ℕ → Option AbsState → State → State → Type 0
IsEdgeTo args_len (Some slots) (Some known) s t = (t.slot ≡ s.slot + slots) × Describes args_len known t
IsEdgeTo args_len _ _ s t = ⊥

-- the step isn't stuck; where it goes on, it goes along an edge
abbrev pub IsStepAlongEdge : Tables → ℕ → Instruction → AbsState → State → Moment → Type 0
IsStepAlongEdge tables args_len i known s Stuck = ⊥
IsStepAlongEdge tables args_len i known s (Ended reply t) = Unit {0}
IsStepAlongEdge tables args_len i known s (Going t) =
    IsEdgeTo args_len (fall_through i) (next_state tables i known) s t ⊎ IsEdgeTo args_len (jump_of i) (jump_state i known) s t

-- jumps go forward, and numbers fit their fields, as in each program
abbrev pub IsOfProgram : Instruction → Type 0
IsOfProgram i = IsInRange i × IfSome (distance_of i) (λ d. pos 0 ≤ℤ d)

-- of a state that is described an instruction without a cause leads to a state that is
abbrev pub StepsAlong : Tables → ℕ → Instruction → Type 0
StepsAlong tables args_len i = (known : AbsState) (s : State) → AreTables tables → IsAbsState known → IsState tables s
    → Describes args_len known s → cause_of tables args_len i known ≡ None
    → IsStepAlongEdge tables args_len i known s (execute tables i s)

-- what it sends may be known of a state
pub record SendsKnown (tables : Tables) (i : Instruction) (known : AbsState) : Type 0 where
  pub on : IfSome (next_state tables i known) IsAbsState
  pub by_jump : IfSome (jump_state i known) IsAbsState

-- ---- a run

-- arguments and rows for which a procedure was verified: so many bytes, and rows of its tables
pub record Suits (p : Procedure) (args : List ℕ) (rows : Rows) : Type 0 where
  pub long : length args ≡ p.args_len
  pub bytes : All (λ b. b < 256) args
  pub of_schema : AreRows p.tables rows
