use Rattle.std.proofs.Common.{◌≡◌, drop}
use Rattle.log_model.specs.Log.{by_name}
use Rattle.plain_replayer.specs.Replay.{added_from}
use Rattle.plain_replayer.proofs.procedures.added_by_name.Given as goal

-- those that are left answer what all do
abbrev pub invariant-loop-place : goal.invariant-loop-place
invariant-loop-place g l = by_name (added_from l.log 0 l.reports) l.name ≡ by_name (added_from l.log l.place (drop l.place l.reports)) l.name
