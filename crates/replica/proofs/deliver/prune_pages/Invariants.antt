use Rattle.std.proofs.Common.{◌≡◌, ◌≤◌, ℕ, length}
use Rattle.schema.specs.Rows.{Rows}
use Rattle.rows_mv.specs.Versions.{AnswersFrom, width_of}
use Rattle.replica.proofs.deliver.prune_pages.Given as goal

abbrev pub invariant-loop : goal.invariant-loop
invariant-loop g l = record {
  seen : (s : ℕ) (rows : Rows) → l.below ≤ s → AnswersFrom l.fn.versions.tables s rows → AnswersFrom l.versions.tables s rows;
  horizon : l.versions.horizon ≤ l.below;
  widths : (t : ℕ) → width_of l.versions.tables t ≡ width_of l.fn.versions.tables t;
  tables : length l.versions.tables ≡ length l.fn.versions.tables;
}
