-- The calls of a script, as they are planned.
use Rattle.std.specs.Prelude.{ℕ, List, map}
use Rattle.order_log.specs.declared.seen.LogIdentity.{Ghosts as IdentityOf}
use Rattle.locked_replica.specs.declared.fact.LogSetting.{Ghosts as SettingOf}
use Rattle.script_run.specs.declared.call.ScriptCall.{ScriptCall}
use Rattle.script_run.specs.declared.planned.PlannedCall.{PlannedCall}

-- the calls themselves
abbrev pub planned_calls : {J : Type 0} {S : SettingOf J} {I : IdentityOf J} → List (PlannedCall J S I) → List (ScriptCall (List ℕ))
planned_calls planned = map (λ p. p.call) planned
