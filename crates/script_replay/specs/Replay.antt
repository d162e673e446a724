-- What a script prints, and how it ends.
use Rattle.std.specs.Prelude.{◌≡◌, ℕ, ◌+◌, List, [], ◌∷◌, ◌++◌}
use Rattle.dsm_model.specs.World.{World}
use Rattle.script.specs.Text.{lines_of}
use Rattle.script.specs.Script.{line_says}
use Rattle.script.specs.declared.cause.ScriptFault.{ScriptFault}
use Rattle.script_replay.specs.Actions.{Does}
use Rattle.script_replay.specs.Stage.{Stage, Acting, first_stage, Effect, Fails, Goes, Acts, effect_of}

pub data Ending : Type 0 where
  Finished : Ending
  Faulty : ScriptFault → Ending

-- what an effect prints, followed by what is printed from the stage behind it
abbrev pub PrintsEffect : ℕ → Effect → (Stage → List ℕ → Type 0) → List ℕ → Ending → Type 0
PrintsEffect number (Fails cause) Behind text ending = (text ≡ []) × (ending ≡ Faulty (record { line = number; cause = cause }))
PrintsEffect number (Goes stage) Behind text ending = Behind stage text
PrintsEffect number (Acts w before c) Behind text ending =
    (here rest : List ℕ) × (after : World) × Does w before c here after × (text ≡ here ++ rest) × Behind (Acting w after) rest

-- what lines print from a stage on, and how they end; the first of them has this number. A line at fault ends the script
unfoldable pub Prints : Stage → ℕ → List (List ℕ) → List ℕ → Ending → Type 0
Prints stage number [] text ending = (text ≡ []) × (ending ≡ Finished)
Prints stage number (line ∷ lines) text ending =
    PrintsEffect number (effect_of stage (line_says line)) (λ after rest. Prints after (number + 1) lines rest ending) text ending

-- what a script of these bytes prints
abbrev pub ScriptPrints : List ℕ → List ℕ → Ending → Type 0
ScriptPrints bytes text ending = Prints first_stage 1 (lines_of bytes) text ending
