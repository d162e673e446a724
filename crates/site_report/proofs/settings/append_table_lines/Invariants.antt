use Rattle.std.proofs.Common.{◌≡◌, ℕ, List, ◌++◌, drop, map}
use Rattle.std.specs.List.{concat}
use Rattle.site_report.specs.SettingsText.{table_line}
use Rattle.site_report.proofs.settings.append_table_lines.Given as goal

-- the lines that are left follow what was appended of all
abbrev pub invariant-loop-table : goal.invariant-loop-table
invariant-loop-table g l = (front : List ℕ) × g.S.ByteSink.appends l.initial.sink l.sink front
    × (front ++ concat (map table_line (drop l.table-index l.tables)) ≡ concat (map table_line l.tables))
