use Rattle.std.proofs.Common.{◌≡◌, [], ℕ, List, Some}
use Rattle.std.specs.Io.KnownBytes.{Appends}
use Rattle.site.specs.Replica.{setting_of}
use Rattle.site_service.specs.Answering.{ComesTo}
use Rattle.site_service.proofs.lines.answer_lines.Given as goal

-- the lines so far are answered
abbrev pub invariant-loop : goal.invariant-loop
invariant-loop g l = (setting_of l.site ≡ setting_of l.initial.site)
    × ((bytes : List ℕ) → g.R.Read.remaining l.initial.input ≡ Some bytes
    → ComesTo (setting_of l.initial.site) [] bytes (g.R.Read.remaining l.input) 1 (Appends (g.W.Write.contents l.initial.output) (g.W.Write.contents l.output)) l.site l.number)
