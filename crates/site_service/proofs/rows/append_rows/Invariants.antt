use Rattle.std.proofs.Common.{◌≡◌, ℕ, List, ◌++◌, drop, map}
use Rattle.std.specs.List.{concat}
use Rattle.site_report.specs.Answers.{row_text}
use Rattle.site_service.proofs.rows.append_rows.Given as goal

-- the lines of the rows that are left follow what was appended of all
abbrev pub invariant-loop-row : goal.invariant-loop-row
invariant-loop-row g l = (front : List ℕ) × g.S.ByteSink.appends l.initial.sink l.sink front
    × (front ++ concat (map row_text (drop l.row-index l.rows)) ≡ concat (map row_text l.rows))
