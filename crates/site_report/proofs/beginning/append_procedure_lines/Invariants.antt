use Rattle.std.proofs.Common.{◌≡◌, ℕ, ◌+◌, List, ◌++◌, length, map}
use Rattle.std.specs.List.{concat}
use Rattle.catalogue.specs.Stored.{stored_procedures}
use Rattle.site_report.specs.SettingsText.{procedure_line}
use Rattle.site_report.proofs.beginning.append_procedure_lines.Given as goal

-- those that are left follow what was appended of all, and were not counted
abbrev pub invariant-loop-procedure : goal.invariant-loop-procedure
invariant-loop-procedure g l = (goal.iterator-loop-procedure g).can_next l.procedure-iterator × (goal.iterator-loop-procedure g).is_finite l.procedure-iterator
    × (l.count + length l.procedure-iterator ≡ length l.fn.procedures)
    × (front : List ℕ) × g.S.ByteSink.appends l.initial.sink l.sink front
    × (front ++ concat (map procedure_line (stored_procedures l.procedure-iterator)) ≡ concat (map procedure_line (stored_procedures l.fn.procedures)))
