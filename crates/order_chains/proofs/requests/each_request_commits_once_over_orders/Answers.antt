use Rattle.std.proofs.Common.{◌≡◌, ◌≤◌, List, [], ◌∷◌, sym, subst}
use Rattle.log_model.specs.declared.request.RequestId.{RequestId}
use Rattle.site_model.specs.Standing.{SiteSetting}
use Rattle.site_model.specs.Order.{Order}
use Rattle.order_chains.specs.GoingOn.{GoesOn, IsTooLate, LeadsTo}
use Rattle.order_chains.proofs.requests.each_request_commits_once_over_orders.Goals as goal

too_late_at_end : (request : RequestId) → ((t u : SiteSetting) (order : Order) → IsTooLate t request → GoesOn t order u → IsTooLate u request) → (s t : SiteSetting) (orders : List Order) → IsTooLate s request → LeadsTo s orders t → IsTooLate t request
too_late_at_end request stays s t [] late same = subst (λ (x : SiteSetting). IsTooLate x request) (sym same) late
too_late_at_end request stays s t (order ∷ orders) late (next, on, rest) = too_late_at_end request stays next t orders (stays s next order late on) rest

pub returns : goal.returns
returns c s t order more last orders a b x y told other reply again request origin has are some head_a carries_a head_b carries_b commits (next, on, rest) =
    let law = c.too_late_is_so_for_good.ensures in
    let late = law.committed s next order more a request x told reply origin has are head_a carries_a commits on in
    law.never t last b request y other again
    (too_late_at_end request (λ t u order late on. law.stays t u order request late some on) next t orders late rest) some head_b carries_b
