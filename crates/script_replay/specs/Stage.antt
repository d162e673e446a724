-- How far a script has come: it sets things, or its world acts.
use Rattle.std.specs.Prelude.{ℕ, Option, Some, None, Result, Ok, Err}
use Rattle.log_model.specs.Log.{Setting}
use Rattle.dsm_model.specs.World.{World, first_world}
use Rattle.script.specs.declared.fault.LineFault.{LineFault}
use Rattle.script.specs.declared.statements.Statement.TheVariants as statement
use Rattle.script.specs.Script.{ScriptStatement, ScriptAction}
use Rattle.script.specs.declared.cause.FaultCause.{FaultCause}
use Rattle.script.specs.declared.cause.FaultCause.TheVariants as cause
use Rattle.script.specs.SettingsFault.{cause_of_line_fault}
use Rattle.script.specs.Settings.{ScriptSettings, no_settings, setting_after}
use Rattle.catalogue.specs.Catalogue.{system_setting}

pub data Stage : Type 0 where
  Setup : ScriptSettings → Stage
  Acting : Setting → World → Stage

abbrev pub first_stage : Stage
first_stage = Setup no_settings

-- what a line comes to at a stage: it is at fault; it prints nothing, and the script goes on at a stage; or it acts on a
-- world
pub data Effect : Type 0 where
  Fails : FaultCause → Effect
  Goes : Stage → Effect
  Acts : Setting → World → ScriptAction → Effect

abbrev pub setting_effect : Result ScriptSettings FaultCause → Effect
setting_effect (Ok s) = Goes (Setup s)
setting_effect (Err cause) = Fails cause

-- the first line that acts makes the world, of which window and replicas have to be set
abbrev pub first_effect : ScriptSettings → Option ℕ → Option ℕ → ScriptAction → Effect
first_effect s (Some window) (Some replicas) action = Acts (system_setting s.catalogue window) (first_world replicas) action
first_effect s _ _ action = Fails cause.Place

-- no line sets anything once a world acts
abbrev pub effect_of : Stage → Result (Option ScriptStatement) LineFault → Effect
effect_of stage (Err fault) = Fails (cause_of_line_fault fault)
effect_of stage (Ok None) = Goes stage
effect_of (Setup s) (Ok (Some (statement.Setting setting))) = setting_effect (setting_after s setting)
effect_of (Setup s) (Ok (Some (statement.Action action))) = first_effect s s.window s.replicas action
effect_of (Acting w world) (Ok (Some (statement.Setting setting))) = Fails cause.Place
effect_of (Acting w world) (Ok (Some (statement.Action action))) = Acts w world action
