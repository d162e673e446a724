-- A run of plain instructions: what stops it, and where it leads.
use Rattle.std.specs.Prelude.{◌≡◌, ◌≢◌, ℕ, Option, Some, None}
use Rattle.bpf_code.specs.declared.instruction.Instruction.{Instruction}
use Rattle.bpf_code.specs.declared.instruction.Instruction.TheVariants.{Call, Exit, LongJump}
use Rattle.bpf_code.specs.Program.{Program}
use Rattle.schema.specs.Schema.{Tables}
use Rattle.bpf_semantics.specs.State.{State}
use Rattle.bpf_semantics.specs.Step.{Going, Stuck}
use Rattle.bpf_semantics.specs.Run.{moment}
use Rattle.vm_state.specs.Words.{Words, Holds}

-- no call, no long jump and not the end
abbrev pub IsPlain : Instruction → Type 0
IsPlain (Call _) = ⊥
IsPlain Exit = ⊥
IsPlain (LongJump _) = ⊥
IsPlain _ = Unit {0}

-- an instruction that isn't plain
abbrev pub IsStop : Option Instruction → Type 0
IsStop None = ⊥
IsStop (Some i) = IsPlain i → ⊥

-- no step from this state on is stuck
abbrev pub IsNeverStuck : Program → Tables → State → Type 0
IsNeverStuck p tables s = (k : ℕ) → moment p tables k s ≢ Stuck

-- one of the states that the words stand for never gets stuck
abbrev pub CanRunOn : Program → Words → Type 0
CanRunOn p m = (tables : Tables) × (s : State) × Holds s m × IsNeverStuck p tables s

-- what a run has done so far, and the rows as it sees them, are the same in both
pub record SameEffects (s t : State) : Type 0 where
  pub looks : t.looks ≡ s.looks
  pub writes : t.writes ≡ s.writes
  pub rows : t.rows ≡ s.rows
  pub code : t.cancel_code ≡ s.cancel_code

-- so many steps lead from a state to one that the words stand for, and look at nothing and write nothing
abbrev pub Reaches : Program → Tables → State → ℕ → Words → Type 0
Reaches p tables s k m = (t : State) × (moment p tables k s ≡ Going t) × Holds t m × SameEffects s t
