-- Lines that are done, and those that stop a script.
use Rattle.std.proofs.Common.{◌≡◌, ◌⊎◌, inl, inr, ℕ, ◌+◌, List, [], ◌++◌, Option, Some, Result, Ok, Err, IfOk, IfErr, refl, sym, ap, subst, ◌∙◌}
use Rattle.byte_output.specs.declared.paged.PagedOutput.{PagedOutput}
use Rattle.byte_output.specs.Pending.{Passes}
use Rattle.script.specs.Settings.{SystemCatalogue}
use Rattle.log_model.specs.Log.{Setting}
use Rattle.dsm_model.specs.World.{World, first_world}
use Rattle.script_replay.specs.Actions.{SystemWorld, setting_of, world_of}
use Rattle.script.specs.declared.fault.LineFault.{LineFault}
use Rattle.script.specs.declared.fault.LineFault.TheVariants as line
use Rattle.script.specs.declared.statements.Statement.TheVariants as statement
use Rattle.script.specs.Script.{ScriptStatement, ScriptAction, line_says}
use Rattle.script.specs.declared.cause.FaultCause.{FaultCause}
use Rattle.script.specs.declared.cause.FaultCause.TheVariants.{NoMemory}
use Rattle.script.specs.SettingsFault.{cause_of_line_fault}
use Rattle.script.specs.Settings.{ScriptSettings}
use Rattle.script_replay.specs.Acting.{HasDone}
use Rattle.script_replay.specs.declared.stage.Stage as code
use Rattle.script.specs.declared.stop.Stop.{Stop}
use Rattle.script.specs.declared.stop.Stop.TheVariants.{Fault, Input, Output}
use Rattle.script_replay.specs.declared.stage.Stage.TheVariants.{SettingUp as SettingUpCode, Acting as ActingCode}
use Rattle.script_replay.specs.Stage.{Stage, Acting, Effect, Fails, Goes, Acts, first_effect, effect_of}
use Rattle.script_replay.specs.Replay.{Ending, Faulty, Prints}
use Rattle.script_replay.specs.Doing.{stage_of, PrintsFrom, IsFaultOf, GivesBeginning, GivesUpTo, GivesEffect, StopsBy}
use Rattle.script_replay.proofs.PassesLemmas.{Passes-nothing, PassesBeginning-front, PassesBeginning-more}
use Rattle.script_replay.proofs.ReplayLemmas.{can_print, effect_can}
use Rattle.catalogue.specs.Catalogue.{system_setting}

-- nothing was printed, and it goes on at a stage
pub goes : {A W : Type 0} (contents : W → Option (List ℕ)) (n : ℕ) (a : Effect) (page : PagedOutput W) (next : code.Stage A) → a ≡ Goes (stage_of next) → GivesEffect contents n a page page (Ok next)
goes contents n a page next e =
    ([], Passes-nothing contents page, λ more text ending p. subst (λ (b : Effect). PrintsFrom n b more text ending) (sym e) p)

-- nothing was printed, and it stops
pub stops : {W : Type 0} (contents : W → Option (List ℕ)) (n : ℕ) (stage : Stage) (said : Result (Option ScriptStatement) LineFault) (page : PagedOutput W) (stop : Stop) → IsFaultOf n (effect_of stage said) stop
    → (more : List (List ℕ)) → GivesUpTo contents page page (PrintsFrom n (effect_of stage said) more) stop
stops contents n stage said page (Fault fault) (same, inl memory) more =
    let way = effect_can stage said n more in inl (memory, (way.0, way.1, way.2, PassesBeginning-front contents page page [] way.0 (Passes-nothing contents page)))
stops contents n stage said page (Fault fault) (same, inr e) more =
    inr ([], subst (λ (b : Effect). PrintsFrom n b more [] (Faulty fault)) (sym e) (refl, ap (λ (k : ℕ). Faulty (record { line = k; cause = fault.cause })) same), Passes-nothing contents page)
stops contents n stage said page (Input error) h more = absurd h
stops contents n stage said page (Output error) h more = absurd h

-- it stops with what a `?` returns
pub stops_by : {A W : Type 0} (contents : W → Option (List ℕ)) (n : ℕ) (stage : Stage) (said : Result (Option ScriptStatement) LineFault) (page : PagedOutput W) (result : Result (code.Stage A) Stop) (passed stop : Stop)
    → result ≡ Err passed → passed ≡ stop → IsFaultOf n (effect_of stage said) stop → GivesEffect contents n (effect_of stage said) page page result
stops_by contents n stage said page (Ok next) passed stop e same h = absurd cc
stops_by contents n stage said page (Err given) passed stop e same h =
    let is : stop ≡ given = cc in subst (λ (s : Stop). (more : List (List ℕ)) → GivesUpTo contents page page (PrintsFrom n (effect_of stage said) more) s) is (stops contents n stage said page stop h)

-- the same effect
pub by_effect : {A W : Type 0} (contents : W → Option (List ℕ)) (n : ℕ) (a b : Effect) (old new : PagedOutput W) (result : Result (code.Stage A) Stop) → a ≡ b → GivesEffect contents n b old new result
    → GivesEffect contents n a old new result
by_effect contents n a b old new result e h = subst (λ (x : Effect). GivesEffect contents n x old new result) (sym e) h

-- a line that sets something, or is at fault
pub sets_or_stops : {A W : Type 0} (contents : W → Option (List ℕ)) (n : ℕ) (stage : Stage) (said : Result (Option ScriptStatement) LineFault) (page : PagedOutput W) (result : Result (code.Stage A) Stop)
    → IfOk result (λ next. effect_of stage said ≡ Goes (stage_of next)) → IfErr result (IsFaultOf n (effect_of stage said)) → GivesEffect contents n (effect_of stage said) page page result
sets_or_stops contents n stage said page (Ok next) ok err = goes contents n (effect_of stage said) page next ok
sets_or_stops contents n stage said page (Err stop) ok err = stops contents n stage said page stop err

-- an action of a world was done
pub acted : {W : Type 0} (contents : W → Option (List ℕ)) (n : ℕ) (w v : Setting) (before after : World) (c : ScriptAction) (old new : PagedOutput W) → v ≡ w
    → HasDone {T = ℕ} {E = ℕ} contents w before c old new (Ok 0) after
    → (here : List ℕ) × Passes contents old new here
    × ((more : List (List ℕ)) (text : List ℕ) (ending : Ending) → Prints (Acting v after) (n + 1) more text ending → PrintsFrom n (Acts w before c) more (here ++ text) ending)
acted contents n w v before after c old new same (here, does, passes) =
    (here, passes, λ more text ending p. (here, text, after, does, refl, subst (λ (u : Setting). Prints (Acting u after) (n + 1) more text ending) same p))

-- it was begun
pub broke : {W : Type 0} (contents : W → Option (List ℕ)) (n : ℕ) (w : Setting) (before now : World) (c : ScriptAction) (old new : PagedOutput W) → HasDone {T = ℕ} {E = ℕ} contents w before c old new (Err 0) now
    → (more : List (List ℕ)) → GivesBeginning contents old new (PrintsFrom n (Acts w before c) more)
broke contents n w before now c old new (here, after, does, passes) more =
    let rest = can_print (Acting w after) (n + 1) more in
    (here ++ rest.0, rest.1, (here, rest.0, after, does, refl, rest.2), PassesBeginning-more contents old new here rest.0 passes)

-- memory was wanting
pub wanting : {W : Type 0} (contents : W → Option (List ℕ)) (n : ℕ) (old new : PagedOutput W) (P : List ℕ → Ending → Type 0) (stop : Stop) → stop ≡ Fault (record { line = n; cause = NoMemory }) → GivesBeginning contents old new P
    → GivesUpTo contents old new P stop
wanting contents n old new P stop e h = subst (GivesUpTo contents old new P) (sym e) (inl (refl, h))

-- ---- which stops are faults by an effect

pub fault_of_line : (n : ℕ) (stage : Stage) (said : Result (Option ScriptStatement) LineFault) (fault : LineFault) (cause : FaultCause) (stop : Stop) → (fault ≡ line.NoMemory) ⊎ (said ≡ Err fault)
    → cause ≡ cause_of_line_fault fault → stop ≡ Fault (record { line = n; cause = cause }) → IsFaultOf n (effect_of stage said) stop
fault_of_line n stage said fault cause stop (inl memory) is e = subst (IsFaultOf n (effect_of stage said)) (sym e) (refl, inl (is ∙ ap cause_of_line_fault memory))
fault_of_line n stage said fault cause stop (inr says) is e =
    subst (IsFaultOf n (effect_of stage said)) (sym e) (refl, inr (ap (effect_of stage) says ∙ ap Fails (sym is)))

-- the world that is made acts
pub set_up_acts : (s : ScriptSettings) (o p : Option ℕ) (catalogue : SystemCatalogue) (window replicas : ℕ) (w : Setting) (world : World) (c : ScriptAction) → o ≡ Some window → p ≡ Some replicas → catalogue ≡ s.catalogue
    → w ≡ system_setting catalogue window → world ≡ first_world replicas → first_effect s o p c ≡ Acts w world c
set_up_acts s o p catalogue window replicas w world c e f same is first =
    ap (λ (q : Option ℕ). first_effect s q p c) e
    ∙ ap (λ (q : Option ℕ). first_effect s (Some window) q c) f
    ∙ ap (λ (k : SystemCatalogue). Acts (system_setting k window) (first_world replicas) c) (sym same)
    ∙ ap (λ (u : Setting). Acts u (first_world replicas) c) (sym is)
    ∙ ap (λ (v : World). Acts w v c) (sym first)

-- ---- at a stage of the code

pub fault_of_first : {A X : Type 0} (n : ℕ) (stage : code.Stage A) (s : ScriptSettings) (result : Result X Stop) → stage ≡ SettingUpCode s
    → IfErr result (λ stop. (c : ScriptAction) → IsFaultOf n (first_effect s s.window s.replicas c) stop)
    → IfErr result (λ stop. (c : ScriptAction) → IsFaultOf n (effect_of (stage_of stage) (Ok (Some (statement.Action c)))) stop)
fault_of_first n stage s (Ok x) e h = tt
fault_of_first n stage s (Err stop) e h = λ c.
    subst (λ (a : Effect). IsFaultOf n a stop) (sym (ap (λ st. effect_of (stage_of st) (Ok (Some (statement.Action c)))) e)) (h c)

pub acting_at : {A : Type 0} (stage : code.Stage A) (w : SystemWorld) → stage ≡ ActingCode w → (c : ScriptAction)
    → effect_of (stage_of stage) (Ok (Some (statement.Action c))) ≡ Acts (setting_of w) (world_of w) c
acting_at stage w e c = ap (λ st. effect_of (stage_of st) (Ok (Some (statement.Action c)))) e

pub says_by : (line : List ℕ) (o p : Option ScriptStatement) → line_says line ≡ Ok o → o ≡ p → line_says line ≡ Ok p
says_by line o p says e = subst (λ (q : Option ScriptStatement). line_says line ≡ Ok q) e says

-- ---- by which line it stops, with nothing lost

pub stops_at : {W : Type 0} (contents : W → Option (List ℕ)) (n : ℕ) (page : PagedOutput W) (stop : Stop) (cause : FaultCause) → stop ≡ Fault (record { line = n; cause = cause }) → StopsBy contents n page page stop
stops_at contents n page stop cause is = subst (StopsBy contents n page page) (sym is) (refl, [], Passes-nothing contents page)

fault_stops : {W : Type 0} (contents : W → Option (List ℕ)) (n : ℕ) (a : Effect) (page : PagedOutput W) (stop : Stop) → IsFaultOf n a stop → StopsBy contents n page page stop
fault_stops contents n a page (Fault fault) (same, why) = (same, [], Passes-nothing contents page)
fault_stops contents n a page (Input error) h = absurd h
fault_stops contents n a page (Output error) h = absurd h

pub faults_stop : {T W : Type 0} (contents : W → Option (List ℕ)) (n : ℕ) (a : Effect) (page : PagedOutput W) (result : Result T Stop) → IfErr result (IsFaultOf n a) → IfErr result (StopsBy contents n page page)
faults_stop contents n a page (Ok t) h = tt
faults_stop contents n a page (Err stop) h = fault_stops contents n a page stop h

-- with what a `?` returns
pub faults_stop_by : {T W : Type 0} (contents : W → Option (List ℕ)) (n : ℕ) (a : Effect) (page : PagedOutput W) (result : Result T Stop) (passed stop : Stop) → result ≡ Err passed → passed ≡ stop → IsFaultOf n a stop
    → IfErr result (StopsBy contents n page page)
faults_stop_by contents n a page (Ok t) passed stop e same h = tt
faults_stop_by contents n a page (Err given) passed stop e same h = let is : stop ≡ given = cc in subst (StopsBy contents n page page) is (fault_stops contents n a page stop h)
