-- What the code's values stand for.
use Rattle.std.specs.Prelude.{◌≤◌, Some}
use Rattle.schema.specs.declared.limits.TheConstants.{MAX_REPLICAS, MAX_WINDOW}
use Rattle.script_run.specs.declared.reading.Reading.{Reading}
use Rattle.script_run.specs.declared.call_script.CallScript.{CallScript}
use Rattle.script_run.specs.Calls.{Said}

abbrev pub so_far : {A : Type 0} → Reading A → Said
so_far reading = record { settings = reading.settings; calls = reading.calls.items }

-- a whole script has window and replicas
abbrev pub said_by : {A : Type 0} → CallScript A → Said
said_by script = record {
  settings = record { window = Some script.window; replicas = Some script.replicas; catalogue = script.catalogue };
  calls = script.calls.items;
}

-- what is known of the numbers of a whole script
abbrev pub IsWithinLimits : {A : Type 0} → CallScript A → Type 0
IsWithinLimits script = (1 ≤ script.window) × (script.window ≤ MAX_WINDOW) × (1 ≤ script.replicas) × (script.replicas ≤ MAX_REPLICAS)
