use Rattle.std.proofs.Common.{◌≡◌, ◌+◌, ◌++◌, map, drop}
use Rattle.certify.specs.Comparisons.{comparisons_from}
use Rattle.plain_replayer.specs.Replay.{certified_of}
use Rattle.plain_replayer.proofs.verdicts.comparisons_from.Given as goal

-- those so far and those from here on are all
abbrev pub invariant-loop-report : goal.invariant-loop-report
invariant-loop-report g l =
    (l.position ≡ l.first + l.report-index)
    × (comparisons_from l.looks l.first (map certified_of l.reports) ≡ l.list.items ++ comparisons_from l.looks l.position (map certified_of (drop l.report-index l.reports)))
