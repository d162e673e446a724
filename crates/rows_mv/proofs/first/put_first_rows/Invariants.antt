use Rattle.std.proofs.Common.{◌≡◌, ℕ, length}
use Rattle.std.specs.FinMap.{get}
use Rattle.schema.specs.Rows.{Key}
use Rattle.rows_mv.specs.Versions.{row_seen, width_of}
use Rattle.rows_mv.proofs.LoopLemmas.{AreSorted}
use Rattle.rows_mv.proofs.FirstLemmas.{AreLeftOf, unless_left}
use Rattle.rows_mv.proofs.first.put_first_rows.Given as goal

abbrev pub invariant-loop-row : goal.invariant-loop-row
invariant-loop-row g l = record {
  sorted : AreSorted l.row-iterator;
  left : AreLeftOf l.fn.rows l.row-iterator;
  answers : (s : ℕ) (k : Key) → row_seen l.tables.items s k ≡ unless_left l.row-iterator (get l.fn.rows k) k;
  widths : (t : ℕ) → width_of l.tables.items t ≡ width_of l.fn.tables.items t;
  count : length l.tables.items ≡ length l.fn.tables.items;
}
