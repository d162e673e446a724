-- What the world answers to a turn and to an order. No public clause speaks of it.
use Rattle.std.specs.Prelude.{◌≡◌, ◌+◌, ◌<◌, ◌≤◌, List, [], ◌∷◌, ◌++◌, length}
use Rattle.bpf_vm.specs.declared.turn.Turn.{Turn}
use Rattle.bpf_vm.specs.declared.turn.Turn.TheVariants as answer
use Rattle.dsm_model.specs.declared.outcome.StepRefusal.TheVariants.{LogFull}
use Rattle.dsm_model.specs.declared.outcome.StepRefusal.TheVariants as step_refusal
use Rattle.dsm_model.specs.declared.outcome.Outcome.{Outcome}
use Rattle.dsm_model.specs.declared.outcome.Outcome.TheVariants.{More, Exit, Stale, NoMemory, Ordered, Refused}
use Rattle.dsm_model.specs.World.{max_calls}

abbrev pub outcome_of : Turn → Outcome
outcome_of answer.More = More
outcome_of (answer.Exit reply) = Exit reply
outcome_of answer.Stale = Stale
outcome_of answer.NoMemory = NoMemory

-- an entry was appended, or the log is full, or there was no memory
abbrev pub IsAppended : {X : Type 0} → List X → X → Outcome → List X → Type 0
IsAppended old e (Ordered position) new = (length old < max_calls) × (position ≡ length old + 1) × (new ≡ old ++ e ∷ [])
IsAppended old e (Refused LogFull) new = (max_calls ≤ length old) × (new ≡ old)
IsAppended old e (Refused step_refusal.NoMemory) new = (length old < max_calls) × (new ≡ old)
IsAppended old e _ new = ⊥
