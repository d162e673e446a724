-- The rows that a scan asks for.
use Rattle.std.specs.Prelude.{ℕ, List}
use Rattle.schema.specs.declared.look.Look.{Look}
use Rattle.schema.specs.Rows.{Key, Rows}
use Rattle.row_scan.specs.Left.{first_rows}
use Rattle.site_service.specs.declared.line.Scan.{Scan}

-- the keys among which it asks for them
abbrev pub look_of : Scan → Look
look_of scan = record { table = scan.table; lo = scan.lo; hi = scan.hi }

-- the first from its least key to its greatest, as many as it asks for, or as there are
abbrev pub scanned_rows : Scan → Rows → List (Key × List ℕ)
scanned_rows scan rows = first_rows scan.most (look_of scan) rows
