use Rattle.std.proofs.Common.{◌≡◌, take}
use Rattle.schema.specs.Rows.{AreRows}
use Rattle.plain_runner.specs.Listed.{rows_of}
use Rattle.plain_site.proofs.run.site_rows.Given as goal

-- the rows so far are in the map, and are the schema's
abbrev pub invariant-loop-row : goal.invariant-loop-row
invariant-loop-row g l = record {
  rows : l.map ≡ rows_of (take l.row-index l.rows);
  fit : AreRows l.schema l.map;
}
