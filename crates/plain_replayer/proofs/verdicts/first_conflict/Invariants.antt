use Rattle.std.proofs.Common.{◌≡◌, ◌+◌, map, drop}
use Rattle.log_model.specs.Log.{conflicts, first_position}
use Rattle.plain_replayer.specs.Replay.{certified_of}
use Rattle.plain_replayer.proofs.verdicts.first_conflict.Given as goal

-- none conflicts so far
abbrev pub invariant-loop-report : goal.invariant-loop-report
invariant-loop-report g l =
    (l.position ≡ l.first + l.report-index)
    × (first_position (conflicts l.looks) l.first (map certified_of l.reports) ≡ first_position (conflicts l.looks) l.position (map certified_of (drop l.report-index l.reports)))
