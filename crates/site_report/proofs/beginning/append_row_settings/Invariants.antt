use Rattle.std.proofs.Common.{◌≡◌, ℕ, List, ◌++◌, drop, map}
use Rattle.std.specs.List.{concat}
use Rattle.site_report.specs.SettingsText.{row_setting_line}
use Rattle.site_report.proofs.beginning.append_row_settings.Given as goal

-- the lines that are left follow what was appended of all
abbrev pub invariant-loop-row : goal.invariant-loop-row
invariant-loop-row g l = (front : List ℕ) × g.S.ByteSink.appends l.initial.sink l.sink front
    × (front ++ concat (map row_setting_line (drop l.row-index l.rows)) ≡ concat (map row_setting_line l.rows))
