-- What a machine is, and what a turn of it answers and leaves.
use Rattle.std.specs.Prelude.{◌≡◌, ◌≢◌, Bool, Option, Some}
use Rattle.bpf_code.specs.declared.instruction.Instruction.{Instruction}
use Rattle.bpf_code.specs.declared.instruction.Instruction.TheVariants.{Call}
use Rattle.bpf_code.specs.Program.{instruction_at}
use Rattle.schema.specs.Schema.{Tables}
use Rattle.schema.specs.Rows.{Rows, AreRows}
use Rattle.schema.specs.Helper.{helper_of}
use Rattle.schema.specs.declared.helper.Helper.{Helper}
use Rattle.schema.specs.declared.helper.Helper.TheVariants.{Cancel}
use Rattle.bpf_semantics.specs.State.{State}
use Rattle.bpf_semantics.specs.Step.{Moment, Going, Ended, Stuck, execute, step}
use Rattle.bpf_verify.specs.Flow.{Procedure}
use Rattle.vm_state.specs.Words.{Words, Holds}
use Rattle.txn_view.specs.declared.view.Own.{Own}
use Rattle.txn_view.specs.View.{IsViewOf}
use Rattle.bpf_vm.specs.Calls.{LooksMore}
use Rattle.bpf_vm.specs.declared.turn.Turn.{Turn}
use Rattle.bpf_vm.specs.declared.turn.Turn.TheVariants.{More, Exit, Stale, NoMemory}

pub record MachineState : Type 0 where
  pub words : Words
  pub last : Turn  -- what the last turn answered, and before the first that there is more

-- ---- which states there are

-- a state that words and view stand for, on rows of the procedure's tables, has a step
abbrev pub CanStep : {A : Type 0} → Procedure → (Rows → Type 0) → Words → Own A → Type 0
CanStep p answers_from m own =
    (s : State) × Holds s m × IsViewOf answers_from own s × AreRows p.tables s.rows × (step p.program p.tables s ≢ Stuck)

-- the machine may have another turn
abbrev pub CanTurn : {A : Type 0} → Procedure → (Rows → Type 0) → MachineState → Own A → Type 0
CanTurn p answers_from m own = m.last ≡ More → CanStep p answers_from m.words own

-- ---- what a turn answers and leaves

-- an instruction that may want memory: a call of a helper other than that which cancels
abbrev pub MayWantMemory : Option Instruction → Type 0
MayWantMemory (Some (Call number)) = (h : Helper) × (helper_of number ≡ Some h) × (h ≢ Cancel)
MayWantMemory _ = ⊥

-- of a state that words and view stood for, by its instruction and what comes next in the definition; of what is stuck
-- nothing is said
abbrev pub FollowsMoment : {A : Type 0} → (Rows → Type 0) → Bool → State → Option Instruction → Moment → Turn → Words → Own A → Type 0
FollowsMoment answers_from gone s i (Going t) More m own = Holds t m × IsViewOf answers_from own t × (LooksMore gone s t → ⊥)
FollowsMoment answers_from gone s i (Going t) Stale m own = LooksMore gone s t
FollowsMoment answers_from gone s i (Going t) NoMemory m own = MayWantMemory i × (LooksMore gone s t → ⊥)
FollowsMoment answers_from gone s i (Ended reply t) (Exit answer) m own = (answer ≡ reply) × Holds t m × IsViewOf answers_from own t
FollowsMoment answers_from gone s i Stuck turn m own = Unit {0}
FollowsMoment answers_from gone s i next turn m own = ⊥

-- by a step of the procedure
abbrev pub FollowsStep : {A : Type 0} → Procedure → (Rows → Type 0) → Bool → State → Turn → Words → Own A → Type 0
FollowsStep p answers_from gone s turn m own =
    FollowsMoment answers_from gone s (instruction_at p.program s.slot) (step p.program p.tables s) turn m own

-- a turn that did nothing
abbrev pub DoesNothing : Turn → Type 0
DoesNothing Stale = Unit {0}
DoesNothing NoMemory = Unit {0}
DoesNothing _ = ⊥

-- No clause that a caller sees speaks of what follows.

-- a state that words and view stand for, on rows of the tables, can run an instruction
abbrev pub CanExecute : {A : Type 0} → Tables → (Rows → Type 0) → Instruction → Words → Own A → Type 0
CanExecute tables answers_from i m own =
    (s : State) × Holds s m × IsViewOf answers_from own s × AreRows tables s.rows × (execute tables i s ≢ Stuck)

-- by an instruction
abbrev pub FollowsInstruction : {A : Type 0} → Tables → (Rows → Type 0) → Bool → Instruction → State → Turn → Words → Own A → Type 0
FollowsInstruction tables answers_from gone i s turn m own =
    FollowsMoment answers_from gone s (Some i) (execute tables i s) turn m own
