use Rattle.std.proofs.Common.{◌≡◌, take}
use Rattle.plain_runner.specs.Listed.{rows_of}
use Rattle.plain_runner.proofs.key_map.KeyMap+Bytes+A+A.from_rows.Given as goal

-- the rows so far are in the map
abbrev pub invariant-loop-row : goal.invariant-loop-row
invariant-loop-row g l = l.map ≡ rows_of (take l.row-index l.rows)
