-- What lines do, by what was done.
use Rattle.std.proofs.Common.{◌≡◌, ◌≢◌, ◌<◌, inl, ℕ, List, Option, Some, None, Result, Ok, Err, refl, sym, ap, subst, ◌∙◌}
use Rattle.std.specs.Prelude.{option_map}
use Rattle.std.specs.List.{concat}
use Rattle.byte_output.specs.declared.paged.PagedOutput.{PagedOutput}
use Rattle.dsm_model.specs.declared.outcome.Outcome.{Outcome}
use Rattle.dsm_model.specs.declared.outcome.Outcome.TheVariants.{More, Refused}
use Rattle.dsm_model.specs.declared.outcome.StepRefusal.TheVariants.{NoReplica, NoProcedure}
use Rattle.log_model.specs.declared.request.RequestId.{RequestId}
use Rattle.bpf_code.specs.Program.{max_slots}
use Rattle.dsm_world.specs.System.{check_of, progress_of}
use Rattle.dsm_world.specs.Execution.{IsExecution}
use Rattle.replica.specs.Replica.{Replica as ReplicaState}
use Rattle.log_model.specs.Log.{Setting, by_number, by_name, procedures_after}
use Rattle.dsm_model.specs.World.{World, Replica, Begin, Turn, Order, Deliver, Rebuild, Add, after_begin, after_step, numbered, position_of}
use Rattle.script.specs.declared.procedure_fields.ProcedureFields.{ProcedureFields}
use Rattle.script.specs.declared.statements.Action.TheVariants as action
use Rattle.script.specs.Script.{ScriptAction}
use Rattle.script_replay.specs.Printed.{step_text, rows_text, log_text, entry_text}
use Rattle.script_replay.specs.Actions.{Repeats, OneStep, Begins, Does, begin_action, is_more, is_delivery, longest_run, number_of_name}
use Rattle.script_replay.specs.Acting.{Gives, HasDone, HasPrinted}
use Rattle.script_replay.proofs.GivenLemmas.{gives_done}
use Rattle.script_replay.proofs.RepeatLemmas.{AllRan, ran_at_once}

-- what may be printed by one may be printed by another
pub printed_so : {W T E : Type 0} (contents : W → Option (List ℕ)) (One Other : List ℕ → World → Type 0) (old new : PagedOutput W) (result : Result T E) (now : World) → ((text : List ℕ) (after : World) → One text after → Other text after)
    → HasPrinted contents One old new result now → HasPrinted contents Other old new result now
printed_so contents One Other old new (Ok x) now so (text, one, given) = (text, so text now one, given)
printed_so contents One Other old new (Err x) now so (text, after, one, given) = (text, after, so text after one, given)

-- an action was done, by what it is
pub done_as : {W T E : Type 0} (contents : W → Option (List ℕ)) (w : Setting) (before : World) (is this : ScriptAction) (old new : PagedOutput W) (result : Result T E) (now : World) → is ≡ this
    → HasDone contents w before this old new result now → HasDone contents w before is old new result now
done_as contents w before is this old new result now same done = subst (λ (k : ScriptAction). HasDone contents w before k old new result now) (sym same) done

-- an action that prints what may be printed by something, by what it is
pub done_so : {W T E : Type 0} (contents : W → Option (List ℕ)) (w : Setting) (before : World) (is this : ScriptAction) (One : List ℕ → World → Type 0) (old new : PagedOutput W) (result : Result T E) (now : World) → is ≡ this
    → ((text : List ℕ) (after : World) → One text after → Does w before this text after) → HasPrinted contents One old new result now → HasDone contents w before is old new result now
done_so contents w before is this One old new result now same so done =
    done_as contents w before is this old new result now same (printed_so contents One (Does w before this) old new result now so done)

pub orders : (w : Setting) (before : World) (call : ℕ) (text : List ℕ) (after : World) → OneStep w before (Order call) text after → Does w before (action.Order call) text after
unfolding Does
orders w before call text after one = one

pub rebuilds : (w : Setting) (before : World) (r : ℕ) (text : List ℕ) (after : World) → OneStep w before (Rebuild r) text after → Does w before (action.Rebuild r) text after
unfolding Does
rebuilds w before r text after one = one

-- a line that begins a call with a request, or without one, is done by cases of that
does_begin : (w : Setting) (before : World) (r : ℕ) (name args : List ℕ) (request : Option RequestId) (text : List ℕ) (after : World) → Begins w before r args request (number_of_name w before r name) text after
    → Does w before (begin_action r name args request) text after
unfolding Does
does_begin w before r name args None text after begins = begins
does_begin w before r name args (Some request) text after begins = begins

pub begins : (w : Setting) (before : World) (r : ℕ) (name args : List ℕ) (request : Option RequestId) (procedure : ℕ) (text : List ℕ) (after : World) → number_of_name w before r name ≡ Some procedure → OneStep w before (Begin r procedure args request) text after
    → Does w before (begin_action r name args request) text after
begins w before r name args request procedure text after named one = does_begin w before r name args request text after
    (subst (λ (o : Option ℕ). Begins w before r args request o text after) (sym named) one)

pub begins_unnamed : (w : Setting) (before : World) (r : ℕ) (name args : List ℕ) (request : Option RequestId) (kept : Replica) → number_of_name w before r name ≡ None → numbered before.replicas r ≡ Some kept
    → Does w before (begin_action r name args request) (step_text w before.log (Begin r 0 args request) (Refused NoProcedure)) before
begins_unnamed w before r name args request kept named there = does_begin w before r name args request _ before
    (subst (λ (o : Option ℕ). Begins w before r args request o (step_text w before.log (Begin r 0 args request) (Refused NoProcedure)) before) (sym named)
    (ap (λ (k : Option Replica). step_text w before.log (Begin r 0 args request) (after_begin before r 0 args request k None).0) (sym there), refl))

nowhere : (w : Setting) (before : World) (r procedure : ℕ) (args : List ℕ) (request : Option RequestId) → numbered before.replicas r ≡ None → after_step w before (Begin r procedure args request) ≡ (Refused NoReplica, before)
unfolding after_step
nowhere w before r procedure args request none =
    ap (λ (k : Option Replica). after_begin before r procedure args request k (by_number (procedures_after w before.log (position_of k)) procedure)) none

-- the procedure of a name at a replica that there is
pub named_at : (w : Setting) (world : World) (r : ℕ) (name : List ℕ) (kept : Replica) (o : Option ℕ) → numbered world.replicas r ≡ Some kept
    → o ≡ option_map (λ p. p.number) (by_name (procedures_after w world.log kept.position) name) → number_of_name w world r name ≡ o
named_at w world r name kept o there is =
    ap (λ (k : Option Replica). option_map (λ p. p.number) (by_name (procedures_after w world.log (position_of k)) name)) there ∙ sym is

pub begins_nowhere : (w : Setting) (before : World) (r : ℕ) (name args : List ℕ) (request : Option RequestId) → numbered before.replicas r ≡ None
    → Does w before (begin_action r name args request) (step_text w before.log (Begin r 0 args request) (Refused NoReplica)) before
begins_nowhere w before r name args request none = does_begin w before r name args request _ before (go (number_of_name w before r name))
  where
    go : (o : Option ℕ) → Begins w before r args request o (step_text w before.log (Begin r 0 args request) (Refused NoReplica)) before
    go None = (ap (λ (k : Option Replica). step_text w before.log (Begin r 0 args request) (after_begin before r 0 args request k None).0) (sym none), refl)
    go (Some p) = (Refused NoReplica, inl (nowhere w before r p args request none), refl)

pub adds : (w : Setting) (before : World) (p : ProcedureFields (List ℕ)) (name program : List ℕ) → name ≡ p.name → program ≡ p.program → (text : List ℕ) (after : World)
    → OneStep w before (Add name p.number p.args_len (check_of w.tables p.args_len program)) text after → Does w before (action.Add p) text after
unfolding Does
adds w before p name program same_name same_program text after one =
    subst (λ (n : List ℕ). OneStep w before (Add n p.number p.args_len (check_of w.tables p.args_len p.program)) text after) same_name
    (subst (λ (b : List ℕ). OneStep w before (Add name p.number p.args_len (check_of w.tables p.args_len b)) text after) same_program one)

pub delivers : (w : Setting) (before : World) (r most : ℕ) (lines : List (List ℕ)) (after : World) → Repeats w (Deliver r) is_delivery most before lines after → Does w before (action.Deliver r most) (concat lines) after
unfolding Does
delivers w before r most lines after r-is = (lines, r-is, refl)

pub turns : (w : Setting) (before : World) (call most : ℕ) (text : List ℕ) (after : World) → AllRan w (Turn call) is_more most before after text → Does w before (action.Turn call most) text after
unfolding Does
turns w before call most text after ran = ran

pub executes : (w : Setting) (start : World) (call before : ℕ) (outcome : Outcome) (after : World) → before < max_slots → outcome ≢ More → IsExecution w start call before outcome after
    → Does w start (action.Exec call) (step_text w after.log (Turn call) outcome) after
unfolding Does
executes w start call before outcome after few ends is = ran_at_once w call before longest_run start outcome after few ends is

pub shows_rows : {W T E : Type 0} (contents : W → Option (List ℕ)) (w : Setting) (world : World) (r : ℕ) (old new : PagedOutput W) (result : Result T E) → Gives contents old new result (rows_text w world.log r (numbered world.replicas r))
    → HasDone contents w world (action.Rows r) old new result world
unfolding Does
shows_rows contents w world r old new result given = gives_done contents w world (action.Rows r) old new result world (rows_text w world.log r (numbered world.replicas r)) (refl, refl) given

pub shows_log : {W T E : Type 0} (contents : W → Option (List ℕ)) (w : Setting) (world : World) (old new : PagedOutput W) (result : Result T E) → Gives contents old new result (log_text w world) → HasDone contents w world action.Log old new result world
unfolding Does
shows_log contents w world old new result given = gives_done contents w world action.Log old new result world (log_text w world) (refl, refl) given

pub shows_entry : {W T E : Type 0} (contents : W → Option (List ℕ)) (w : Setting) (world : World) (position : ℕ) (old new : PagedOutput W) (result : Result T E) → Gives contents old new result (entry_text w world.log position)
    → HasDone contents w world (action.Entry position) old new result world
unfolding Does
shows_entry contents w world position old new result given = gives_done contents w world (action.Entry position) old new result world (entry_text w world.log position) (refl, refl) given

-- the procedure of a name, where a look-up finds one
pub named_there : (w : Setting) (world : World) (r procedure : ℕ) (name : List ℕ) (replicas : List ReplicaState) (at : Option ReplicaState) (found : Option ℕ) → numbered replicas r ≡ at
    → numbered world.replicas r ≡ option_map progress_of at → found ≡ Some procedure → (numbered replicas r ≡ None → found ≡ None)
    → ((k : ReplicaState) → numbered replicas r ≡ Some k → found ≡ option_map (λ p. p.number) (by_name (procedures_after w world.log k.position) name)) → number_of_name w world r name ≡ Some procedure
named_there w world r procedure name replicas None found stands there is none by = let no : found ≡ None = none stands in absurd cc
named_there w world r procedure name replicas (Some k) found stands there is none by = named_at w world r name (progress_of k) (Some procedure) there (sym is ∙ by k stands)

-- a name that a look-up doesn't find
pub not_named : (w : Setting) (world : World) (r : ℕ) (name : List ℕ) (found : Option ℕ) (k : ReplicaState) → numbered world.replicas r ≡ Some (progress_of k) → found ≡ None
    → found ≡ option_map (λ p. p.number) (by_name (procedures_after w world.log k.position) name) → number_of_name w world r name ≡ None
not_named w world r name found k there none by = named_at w world r name (progress_of k) None there (sym none ∙ by)
