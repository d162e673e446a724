-- What a script may print from a stage on.
use Rattle.std.proofs.Common.{inl, ℕ, ◌+◌, List, [], ◌∷◌, ◌++◌, Option, Some, None, Result, refl}
use Rattle.std.specs.List.{concat}
use Rattle.log_model.specs.declared.request.RequestId.{RequestId}
use Rattle.log_model.specs.Log.{Setting}
use Rattle.dsm_model.specs.World.{World, Step, Begin, Turn, Order, Deliver, Rebuild, after_step, after_begin, numbered}
use Rattle.script.specs.declared.fault.LineFault.{LineFault}
use Rattle.script.specs.declared.statements.Action.TheVariants as action
use Rattle.script.specs.Script.{ScriptStatement, ScriptAction, line_says}
use Rattle.script_replay.specs.Printed.{step_text, rows_text, log_text, entry_text}
use Rattle.script_replay.specs.Actions.{is_more, is_delivery, last_line, longest_run, number_of_name, Turns, Deliveries, OneStep, Begins, Does}
use Rattle.script_replay.proofs.RepeatLemmas.{repeats_can}
use Rattle.script_replay.specs.Stage.{Stage, Acting, Effect, Fails, Goes, Acts, effect_of}
use Rattle.script_replay.specs.Replay.{Ending, Finished, Faulty, Prints}
use Rattle.script_replay.specs.Doing.{PrintsFrom}

-- ---- there is always a way on

abbrev CanDo : (List ℕ → World → Type 0) → Type 0
CanDo P = (text : List ℕ) × (after : World) × P text after

one_can : (w : Setting) (before : World) (step : Step) → CanDo (OneStep w before step)
one_can w before step = (step_text w (after_step w before step).1.log step (after_step w before step).0, (after_step w before step).1, ((after_step w before step).0, inl refl, refl))

begin_can : (w : Setting) (before : World) (r : ℕ) (args : List ℕ) (request : Option RequestId) (o : Option ℕ) → CanDo (Begins w before r args request o)
begin_can w before r args request (Some procedure) = one_can w before (Begin r procedure args request)
begin_can w before r args request None =
    (step_text w before.log (Begin r 0 args request) (after_begin before r 0 args request (numbered before.replicas r) None).0, before, (refl, refl))

turns_can : (w : Setting) (before : World) (call most : ℕ) → CanDo (Turns w before call most)
turns_can w before call most = let way = repeats_can w (Turn call) is_more most before in (last_line way.0, way.1, (way.0, way.2, refl))

deliveries_can : (w : Setting) (before : World) (r most : ℕ) → CanDo (Deliveries w before r most)
deliveries_can w before r most = let way = repeats_can w (Deliver r) is_delivery most before in (concat way.0, way.1, (way.0, way.2, refl))

-- each action does something
can_do : (w : Setting) (before : World) (action : ScriptAction) → CanDo (Does w before action)
unfolding Does
can_do w before (action.Begin r name args) = begin_can w before r args None (number_of_name w before r name)
can_do w before (action.BeginNumbered r name args session sequence) =
    begin_can w before r args (Some (record { session = session; sequence = sequence })) (number_of_name w before r name)
can_do w before (action.Add p) = one_can w before _
can_do w before (action.Turn call most) = turns_can w before call most
can_do w before (action.Exec call) = turns_can w before call longest_run
can_do w before (action.Order call) = one_can w before (Order call)
can_do w before (action.Deliver r most) = deliveries_can w before r most
can_do w before (action.Rebuild r) = one_can w before (Rebuild r)
can_do w before (action.Rows r) = (rows_text w before.log r (numbered before.replicas r), before, (refl, refl))
can_do w before action.Log = (log_text w before, before, (refl, refl))
can_do w before (action.Entry position) = (entry_text w before.log position, before, (refl, refl))

-- ---- a line, and what is printed behind it

abbrev pub CanPrint : (List ℕ → Ending → Type 0) → Type 0
CanPrint P = (text : List ℕ) × (ending : Ending) × P text ending

pub nothing_left : (stage : Stage) (n : ℕ) → Prints stage n [] [] Finished
unfolding Prints
nothing_left stage n = (refl, refl)

pub prints_line : (stage : Stage) (n : ℕ) (line : List ℕ) (more : List (List ℕ)) (text : List ℕ) (ending : Ending) → PrintsFrom n (effect_of stage (line_says line)) more text ending
    → Prints stage n (line ∷ more) text ending
unfolding Prints
prints_line stage n line more text ending h = h

goes_on : (n : ℕ) (more : List (List ℕ)) → ((s : Stage) → CanPrint (Prints s (n + 1) more)) → (effect : Effect) → CanPrint (PrintsFrom n effect more)
goes_on n more later (Fails cause) = ([], Faulty (record { line = n; cause = cause }), (refl, refl))
goes_on n more later (Goes stage) = later stage
goes_on n more later (Acts w world action) =
    let here = can_do w world action in
    let rest = later (Acting w here.1) in
    (here.0 ++ rest.0, rest.1, (here.0, rest.0, here.1, here.2, refl, rest.2))

-- from each stage each list of lines prints something
pub can_print : (stage : Stage) (n : ℕ) (lines : List (List ℕ)) → CanPrint (Prints stage n lines)
can_print stage n [] = ([], Finished, nothing_left stage n)
can_print stage n (line ∷ more) =
    let on = goes_on n more (λ s. can_print s (n + 1) more) (effect_of stage (line_says line)) in
    (on.0, on.1, prints_line stage n line more on.0 on.1 on.2)

pub effect_can : (stage : Stage) (said : Result (Option ScriptStatement) LineFault) (n : ℕ) (more : List (List ℕ)) → CanPrint (PrintsFrom n (effect_of stage said) more)
effect_can stage said n more = goes_on n more (λ s. can_print s (n + 1) more) (effect_of stage said)
