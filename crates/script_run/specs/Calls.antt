-- What a script says that has only settings and, behind them, calls.
use Rattle.std.specs.Prelude.{ℕ, ◌==◌, Bool, ◌&&◌, if◌then◌else◌, List, [], ◌∷◌, ◌++◌, length, Option, Some, None, is_some, Result, Ok, Err}
use Rattle.script.specs.declared.statements.Statement.TheVariants as statement
use Rattle.script.specs.declared.statements.Action.{Action}
use Rattle.script.specs.declared.statements.Action.TheVariants.{Begin, BeginNumbered}
use Rattle.script.specs.declared.fault.LineFault.{LineFault}
use Rattle.script.specs.Text.{lines_of}
use Rattle.script.specs.Script.{ScriptStatement, ScriptSetting, line_says}
use Rattle.script.specs.declared.cause.FaultCause.{FaultCause}
use Rattle.script.specs.declared.cause.FaultCause.TheVariants.{Place}
use Rattle.script.specs.declared.cause.ScriptFault.{ScriptFault}
use Rattle.script.specs.SettingsFault.{cause_of_line_fault}
use Rattle.script.specs.Settings.{ScriptSettings, no_settings, setting_after, then_with}
use Rattle.script.specs.Said.{fault_at, said_from}
use Rattle.script_run.specs.declared.call.ScriptCall.{ScriptCall}

-- settings, and then calls in the order of their lines
pub record Said : Type 0 where
  pub settings : ScriptSettings
  pub calls : List (ScriptCall (List ℕ))

abbrev pub nothing_said : Said
nothing_said = record { settings = no_settings; calls = [] }

-- ---- a line

-- the call that an action begins, where it is one that does
abbrev pub call_of : {B : Type 0} → Action B → Option (ScriptCall B)
call_of (Begin replica name args) = Some (record { replica = replica; name = name; args = args; request = None })
call_of (BeginNumbered replica name args session sequence) =
    Some (record { replica = replica; name = name; args = args; request = Some (record { session = session; sequence = sequence }) })
call_of _ = None

abbrev pub are_set : ScriptSettings → Bool
are_set s = is_some s.window && is_some s.replicas

-- no setting stands behind a call
abbrev pub with_setting : Said → ScriptSetting → Result Said FaultCause
with_setting said setting =
    if length said.calls == 0 then then_with (setting_after said.settings setting) (λ settings. Ok (record said { settings = settings }))
    else Err Place

-- a call stands behind window and replicas; nothing else that acts may stand
abbrev pub with_call : Said → Option (ScriptCall (List ℕ)) → Result Said FaultCause
with_call said (Some call) = if are_set said.settings then Ok (record said { calls = said.calls ++ call ∷ [] }) else Err Place
with_call said None = Err Place

-- what is said with one more line
abbrev pub after_line : Said → Result (Option ScriptStatement) LineFault → Result Said FaultCause
after_line said (Err fault) = Err (cause_of_line_fault fault)
after_line said (Ok None) = Ok said
after_line said (Ok (Some (statement.Setting setting))) = with_setting said setting
after_line said (Ok (Some (statement.Action action))) = with_call said (call_of action)

-- ---- a whole script

-- a script that ends without window or replicas is at fault as a whole
abbrev pub at_end : Said → Result Said ScriptFault
at_end said = if are_set said.settings then Ok said else Err (fault_at 0 Place)

-- what is said with one more line of these bytes
abbrev pub with_line : Said → List ℕ → Result Said FaultCause
with_line said line = after_line said (line_says line)

-- what a script of these bytes says, or its first fault
abbrev pub script_says : List ℕ → Result Said ScriptFault
script_says bytes = said_from with_line at_end nothing_said 1 (lines_of bytes)
