-- Turns along a run of the definition.
use Rattle.std.specs.Prelude.{◌≡◌, ℕ, ◌+◌, ◌<◌, ◌≤◌, Bool, List, [], Option, Some, None}
use Rattle.std.specs.FinMap.{empty}
use Rattle.bpf_code.specs.Program.{instruction_at, IsProgram}
use Rattle.schema.specs.Schema.{AreTables}
use Rattle.schema.specs.declared.look.Look.{Look}
use Rattle.schema.specs.Rows.{Rows, Writes}
use Rattle.bpf_semantics.specs.State.{State, entry_state}
use Rattle.bpf_semantics.specs.Step.{Going, step}
use Rattle.bpf_semantics.specs.Run.{Run, moment, run, unless_cancelled}
use Rattle.bpf_semantics.specs.Path.{longest_path}
use Rattle.bpf_verify.specs.Flow.{Procedure, IsAccepted}
use Rattle.acceptance.specs.Description.{Suits}
use Rattle.vm_state.specs.Words.{Words, Holds}
use Rattle.txn_view.specs.declared.view.Own.{Own}
use Rattle.bpf_vm.specs.Calls.{LooksMore}
use Rattle.bpf_vm.specs.declared.turn.Turn.{Turn}
use Rattle.bpf_vm.specs.declared.turn.Turn.TheVariants.{More, Exit, Stale, NoMemory}
use Rattle.bpf_vm.specs.Turns.{MachineState, MayWantMemory}

-- what a call has done so far
pub record Effects : Type 0 where
  pub looks : List Look
  pub writes : Writes
  pub cancel_code : Option ℕ

abbrev pub no_effects : Effects
no_effects = record { looks = []; writes = empty; cancel_code = None }

abbrev pub effects_of : State → Effects
effects_of s = record { looks = s.looks; writes = s.writes; cancel_code = s.cancel_code }

abbrev pub own_effects : {A : Type 0} → Own A → Effects
own_effects own = record { looks = own.looks; writes = own.writes; cancel_code = own.cancel_code }

-- what is known of each procedure that was accepted
pub record IsAcceptedProcedure (p : Procedure) : Type 0 where
  pub program : IsProgram p.program
  pub tables : AreTables p.tables
  pub accepted : IsAccepted p

-- the words, and what was done so far, are those after so many instructions of an accepted procedure's run on these
-- arguments and rows
pub record IsAfter (p : Procedure) (args : List ℕ) (rows : Rows) (k : ℕ) (m : Words) (effects : Effects) : Type 0 where
  pub sound : IsAcceptedProcedure p
  pub state : State
  pub at : moment p.program p.tables k (entry_state args rows) ≡ Going state
  pub held : Holds state m
  pub done : effects ≡ effects_of state

-- the machine has run so many instructions of it, and there is more
pub record HasRun (p : Procedure) (args : List ℕ) (rows : Rows) (k : ℕ) (m : MachineState) (effects : Effects) : Type 0 where
  pub here : IsAfter p args rows k m.words effects
  pub going : m.last ≡ More

-- the run has ended with so many instructions, and this is what came of it
pub record HasEnded (p : Procedure) (args : List ℕ) (rows : Rows) (k reply : ℕ) (effects : Effects) : Type 0 where
  pub r : Run
  pub is_run : run p.program p.tables args rows ≡ Some r
  pub steps : r.steps ≡ k
  pub replied : r.reply ≡ reply
  pub looks : r.looks ≡ effects.looks
  pub writes : r.writes ≡ unless_cancelled effects.cancel_code effects.writes empty
  pub cancelled : r.cancel_code ≡ effects.cancel_code

-- the store has its rows no more, and the next instruction looks at more
abbrev pub IsStaleAt : Procedure → Bool → State → Type 0
IsStaleAt p gone s = (t : State) × (step p.program p.tables s ≡ Going t) × LooksMore gone s t

-- the instruction after so many of the run isn't one that looks at a store that is gone
abbrev pub IsNotStale : Procedure → List ℕ → Rows → Bool → ℕ → Type 0
IsNotStale p args rows gone k = (s : State) → moment p.program p.tables k (entry_state args rows) ≡ Going s → IsStaleAt p gone s → ⊥

-- what a turn after so many instructions of the run answers and leaves
abbrev pub AfterTurn : Procedure → List ℕ → Rows → Bool → ℕ → Turn → MachineState → Effects → Type 0
AfterTurn p args rows gone k More m effects = HasRun p args rows (k + 1) m effects × IsNotStale p args rows gone k
AfterTurn p args rows gone k (Exit reply) m effects = HasEnded p args rows (k + 1) reply effects
AfterTurn p args rows gone k Stale m effects = (h : IsAfter p args rows k m.words effects) × IsStaleAt p gone h.state
AfterTurn p args rows gone k NoMemory m effects =
    (h : IsAfter p args rows k m.words effects) × MayWantMemory (instruction_at p.program h.state.slot) × IsNotStale p args rows gone k

-- none of so many instructions from there on is one that looks at a store that is gone
abbrev pub NoneIsStale : Procedure → List ℕ → Rows → Bool → ℕ → ℕ → Type 0
NoneIsStale p args rows gone k count = (j : ℕ) → k ≤ j → j < k + count → IsNotStale p args rows gone j

-- what so many turns that answer that there is more, and then one that answers this, leave
abbrev pub AfterRun : Procedure → List ℕ → Rows → Bool → ℕ → ℕ → Turn → MachineState → Effects → Type 0
AfterRun p args rows gone k before turn m effects =
    (k + before < longest_path p.program) × NoneIsStale p args rows gone k before × AfterTurn p args rows gone (k + before) turn m effects

-- the machine is somewhere on a run over rows that the store answers from, or at its end
abbrev pub IsOnRun : Procedure → (Rows → Type 0) → MachineState → Effects → Type 0
IsOnRun p answers_from m effects =
    m.last ≡ More → (args : List ℕ) × (rows : Rows) × (k : ℕ) × Suits p args rows × answers_from rows × HasRun p args rows k m effects
