-- What a line of a script that acts does to a world, and what it prints.
use Rattle.std.specs.Prelude.{◌≡◌, ℕ, zero, suc, Bool, true, false, List, [], ◌∷◌, Option, Some, None, option_map}
use Rattle.std.specs.List.{concat}
use Rattle.bpf_code.specs.Program.{max_slots}
use Rattle.dsm_model.specs.declared.outcome.Outcome.{Outcome}
use Rattle.dsm_model.specs.declared.outcome.Outcome.TheVariants.{More, Delivered}
use Rattle.log_model.specs.Log.{Setting, by_name, procedures_after}
use Rattle.log_model.specs.declared.request.RequestId.{RequestId}
use Rattle.dsm_world.specs.System.{check_of}
use Rattle.dsm_model.specs.World.{World, Step, Begin, Add, Turn, Order, Deliver, Rebuild, IsStep, after_begin, numbered, position_of}
use Rattle.script.specs.Script.{ScriptAction}
use Rattle.script.specs.declared.statements.Action.TheVariants as action
use Rattle.script_replay.specs.Printed.{step_text, rows_text, log_text, entry_text}
-- a world as its engine sees it
pub use Rattle.dsm_world.specs.System.{SystemWorld, setting_of, world_of}

-- ---- steps that are taken again

-- what follows an outcome: more of the same, or nothing
abbrev pub Later : Bool → Type 0 → List (List ℕ) → World → World → Type 0
Later true more lines between after = more
Later false more lines between after = (lines ≡ []) × (between ≡ after)

-- a step again and again, at most so many times, as long as its outcome goes on; with the line of each outcome
unfoldable pub Repeats : Setting → Step → (Outcome → Bool) → ℕ → World → List (List ℕ) → World → Type 0
Repeats w step goes zero before lines after = (lines ≡ []) × (before ≡ after)
Repeats w step goes (suc n) before lines after =
    (first : Outcome) × (rest : List (List ℕ)) × (between : World) × (lines ≡ step_text w between.log step first ∷ rest)
    × IsStep w before step first between × Later (goes first) (Repeats w step goes n between rest after) rest between after

abbrev pub is_more : Outcome → Bool
is_more More = true
is_more _ = false

abbrev pub is_delivery : Outcome → Bool
is_delivery (Delivered position verdict) = true
is_delivery _ = false

-- the last of some lines
abbrev pub last_line : List (List ℕ) → List ℕ
last_line [] = []
last_line (line ∷ []) = line
last_line (line ∷ next ∷ more) = last_line (next ∷ more)

-- up to so many turns, as long as there is more to run; the last answer is printed
abbrev pub Turns : Setting → World → ℕ → ℕ → List ℕ → World → Type 0
Turns w before call most text after =
    (lines : List (List ℕ)) × Repeats w (Turn call) is_more most before lines after × (text ≡ last_line lines)

-- up to so many deliveries, up to the first that is refused; each answer is printed
abbrev pub Deliveries : Setting → World → ℕ → ℕ → List ℕ → World → Type 0
Deliveries w before r most text after =
    (lines : List (List ℕ)) × Repeats w (Deliver r) is_delivery most before lines after × (text ≡ concat lines)

-- ---- one step

abbrev pub OneStep : Setting → World → Step → List ℕ → World → Type 0
OneStep w before step text after = (outcome : Outcome) × IsStep w before step outcome after × (text ≡ step_text w after.log step outcome)

-- a name that no procedure has at the replica's position is refused as a number that none has, and no step is taken
abbrev pub Begins : Setting → World → ℕ → List ℕ → Option RequestId → Option ℕ → List ℕ → World → Type 0
Begins w before r args request (Some procedure) text after = OneStep w before (Begin r procedure args request) text after
Begins w before r args request None text after =
    (text ≡ step_text w before.log (Begin r 0 args request) (after_begin before r 0 args request (numbered before.replicas r) None).0)
    × (before ≡ after)

-- the procedure of a name at a replica's position, by its number
abbrev pub number_of_name : Setting → World → ℕ → List ℕ → Option ℕ
number_of_name w world r name =
    option_map (λ p. p.number) (by_name (procedures_after w world.log (position_of (numbered world.replicas r))) name)

-- ---- a line

-- the action that begins a call with a request, or without one
abbrev pub begin_action : ℕ → List ℕ → List ℕ → Option RequestId → ScriptAction
begin_action r name args None = action.Begin r name args
begin_action r name args (Some request) = action.BeginNumbered r name args request.session request.sequence

-- no program runs more instructions than it has slots, of which there are at most so many
abbrev pub longest_run : ℕ
longest_run = max_slots

-- what a line that acts prints, and the world after it; `exec` runs a call to its end
unfoldable pub Does : Setting → World → ScriptAction → List ℕ → World → Type 0
Does w before (action.Begin r name args) text after = Begins w before r args None (number_of_name w before r name) text after
Does w before (action.BeginNumbered r name args session sequence) text after =
    Begins w before r args (Some (record { session = session; sequence = sequence })) (number_of_name w before r name) text after
Does w before (action.Add p) text after = OneStep w before (Add p.name p.number p.args_len (check_of w.tables p.args_len p.program)) text after
Does w before (action.Turn call most) text after = Turns w before call most text after
Does w before (action.Exec call) text after = Turns w before call longest_run text after
Does w before (action.Order call) text after = OneStep w before (Order call) text after
Does w before (action.Deliver r most) text after = Deliveries w before r most text after
Does w before (action.Rebuild r) text after = OneStep w before (Rebuild r) text after
Does w before (action.Rows r) text after = (text ≡ rows_text w before.log r (numbered before.replicas r)) × (before ≡ after)
Does w before action.Log text after = (text ≡ log_text w before) × (before ≡ after)
Does w before (action.Entry position) text after = (text ≡ entry_text w before.log position) × (before ≡ after)
