-- An order that goes on is answered as its beginning was.
use Rattle.std.proofs.Common.{◌≡◌, List, [], ◌∷◌, ◌++◌, sym, ap, ◌∙◌, append_assoc, append-nil}
use Rattle.site_model.specs.declared.outcome.EntryOutcome.{EntryOutcome}
use Rattle.site_model.specs.Standing.{SiteSetting}
use Rattle.site_model.specs.Order.{Order, next_outcome}
use Rattle.site_laws.specs.Answers.{outcomes_behind}

pub answered_alike : (s : SiteSetting) (before order more : Order) → outcomes_behind s before (order ++ more) ≡ outcomes_behind s before order ++ outcomes_behind s (before ++ order) more
unfolding outcomes_behind
answered_alike s before [] more = ap (λ (o : Order). outcomes_behind s o more) (sym (append-nil before))
answered_alike s before (bytes ∷ order) more =
    ap (λ (os : List EntryOutcome). next_outcome s before bytes ∷ os)
    (answered_alike s (before ++ bytes ∷ []) order more
    ∙ ap (λ (o : Order). outcomes_behind s (before ++ bytes ∷ []) order ++ outcomes_behind s o more) (append_assoc before (bytes ∷ []) order))
