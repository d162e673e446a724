-- The rows of a look that are left.
use Rattle.std.specs.Prelude.{ℕ, List, [], Option, Some, None, take}
use Rattle.std.specs.FinMap.{entries}
use Rattle.schema.specs.declared.look.Look.{Look}
use Rattle.schema.specs.Rows.{Key, Rows, rows_in}

-- a scan of a table, and the look at the keys that are left
pub record ScanState : Type 0 where
  pub table : ℕ
  pub left : Option Look

-- the rows that a look covers in the order of their keys, and none without a look
abbrev pub rows_left : Option Look → Rows → List (Key × List ℕ)
rows_left None rows = []
rows_left (Some look) rows = entries (rows_in look rows)

-- the first of the rows that a look covers: as many as are asked for, or as there are
abbrev pub first_rows : ℕ → Look → Rows → List (Key × List ℕ)
first_rows most look rows = take most (entries (rows_in look rows))
