use Rattle.std.proofs.Common.{◌≡◌, ◌+◌, map, drop}
use Rattle.log_model.specs.Log.{repeats, first_position}
use Rattle.plain_replayer.specs.Replay.{certified_of}
use Rattle.plain_replayer.proofs.verdicts.first_repeated.Given as goal

-- none carried the request so far
abbrev pub invariant-loop-report : goal.invariant-loop-report
invariant-loop-report g l =
    (l.position ≡ 1 + l.report-index)
    × (first_position (repeats l.request) 1 (map certified_of l.past) ≡ first_position (repeats l.request) l.position (map certified_of (drop l.report-index l.past)))
