use Rattle.std.proofs.Common.{◌≡◌, ℕ, ◌+◌, List, ◌++◌, length, map}
use Rattle.std.specs.List.{concat}
use Rattle.site_report.specs.SettingsText.{request_line}
use Rattle.site_report.proofs.beginning.append_request_lines.Given as goal

-- those that are left follow what was appended of all, and were not counted
abbrev pub invariant-loop-request : goal.invariant-loop-request
invariant-loop-request g l = (goal.iterator-loop-request g).can_next l.request-iterator × (goal.iterator-loop-request g).is_finite l.request-iterator
    × (l.count + length l.request-iterator ≡ length l.fn.requests)
    × (front : List ℕ) × g.S.ByteSink.appends l.initial.sink l.sink front
    × (front ++ concat (map request_line l.request-iterator) ≡ concat (map request_line l.fn.requests))
