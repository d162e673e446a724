use Rattle.std.proofs.Common.{◌≡◌, ℕ, ◌&&◌, is_some, cond, Some, None, Ok, Err, rules}
use Rattle.script.specs.declared.cause.FaultCause.TheVariants.{Place}
use Rattle.script.specs.Said.{fault_at}
use Rattle.script_run.specs.Calls.{Said, at_end}
use Rattle.script_run.specs.Reading.{so_far}
use Rattle.script_run.proofs.reading.ReadingLineReader.into_whole.Goals as goal
use Rattle.script_run.proofs.reading.ReadingLineReader.into_whole.Goals.{in_default-via-in-Some+in_default, in_default-via-in_default}

no_replicas : (said : Said) (window : ℕ) → said.settings.window ≡ Some window → said.settings.replicas ≡ None → at_end said ≡ Err (fault_at 0 Place)
no_replicas said window some none = λ i. cond (is_some (some i) && is_some (none i)) (Ok said) (Err (fault_at 0 Place))

pub returns-in_default-clause-fault : goal.returns-in_default-clause-fault
returns-in_default-clause-fault g c = elim c.in_default.branch [
  | in_default-via-in-Some+in_default w ↦ no_replicas (so_far c.args.self) w.in_default.field-0-0 (search rules) (search rules)
  | in_default-via-in_default w ↦ search rules
]
