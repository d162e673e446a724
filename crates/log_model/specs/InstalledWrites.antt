-- The rows after each position, by write sets that were installed at positions.
use Rattle.std.specs.Prelude.{ℕ, nat_le, if◌then◌else◌, List}
use Rattle.std.specs.List.{fold}
use Rattle.schema.specs.Rows.{Rows, Writes, after_writes}

-- a write set, and the position at which it was installed
pub record InstalledWrites : Type 0 where
  pub position : ℕ
  pub writes : Writes

abbrev pub with_installed : ℕ → Rows → InstalledWrites → Rows
with_installed position rows one = if nat_le one.position position then after_writes one.writes rows else rows

-- the rows after a position: those at first, with the write sets of the positions up to it laid on in order
unfoldable pub map_after : Rows → List InstalledWrites → ℕ → Rows
map_after rows installed position = fold (with_installed position) rows installed
