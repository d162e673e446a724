use Rattle.std.proofs.Common.{◌≡◌, ℕ, List, Some}
use Rattle.byte_output.specs.Taken.{HasTakenMore}
use Rattle.site_model.specs.Order.{Order}
use Rattle.site.specs.Replica.{StandsForOrder, setting_of}
use Rattle.site_service.specs.Answering.{ComesTo}
use Rattle.site_service.proofs.lines.append_answers.Given as goal

-- the lines so far are answered
abbrev pub invariant-loop-number : goal.invariant-loop-number
invariant-loop-number g l = (setting_of l.site ≡ setting_of l.initial.site)
    × ((bytes : List ℕ) → g.R.Read.remaining l.initial.input ≡ Some bytes → (order : Order) → StandsForOrder l.initial.site order
    → ComesTo (setting_of l.initial.site) order bytes (g.R.Read.remaining l.input) l.initial.first (HasTakenMore g.W.Write.contents l.initial.sink l.sink) l.site l.number)
