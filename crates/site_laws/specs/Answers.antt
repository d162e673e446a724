-- What is answered to the byte strings of an order.
use Rattle.std.specs.Prelude.{List, [], ◌∷◌, ◌++◌}
use Rattle.site_model.specs.declared.outcome.EntryOutcome.{EntryOutcome}
use Rattle.site_model.specs.Standing.{SiteSetting}
use Rattle.site_model.specs.Order.{Order, next_outcome}

-- to more byte strings behind an order, one after another
unfoldable pub outcomes_behind : SiteSetting → Order → Order → List EntryOutcome
outcomes_behind s order [] = []
outcomes_behind s order (bytes ∷ more) = next_outcome s order bytes ∷ outcomes_behind s (order ++ bytes ∷ []) more

-- and to all of an order
abbrev pub outcomes : SiteSetting → Order → List EntryOutcome
outcomes s order = outcomes_behind s [] order
