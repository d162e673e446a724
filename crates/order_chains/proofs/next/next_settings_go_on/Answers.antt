use Rattle.std.proofs.Common.{◌≡◌, ◌≤◌, ◌+◌, List, length, Option, Some, None, refl, sym, ap, subst, ◌∙◌}
use Rattle.std.specs.List.{AllByRecursion}
use Rattle.std.specs.Option.{option_map}
use Rattle.site_model.specs.declared.origin.Origin.{Origin}
use Rattle.site_model.specs.Standing.{SiteSetting}
use Rattle.site_model.specs.Order.{Order, sessions_after}
use Rattle.site_model.specs.Next.{next_origin, origin_behind, requests_of}
use Rattle.order_chains.specs.GoingOn.{AreNumbered}
use Rattle.order_chains.proofs.RequestLemmas.{all_numbered}
use Rattle.order_chains.proofs.NextLemmas.{numbered_requests, told_back}
use Rattle.order_chains.proofs.next.next_settings_go_on.Goals as goal

pub returns : goal.returns
returns c s order are =
    let next = c.sessions_go_on.ensures.next in
    let at_first = c.sessions_go_on.ensures.first s in
    record {
      rows = refl;
      origin = refl;
      lasts = told_back next s at_first order (λ origin. origin_behind origin (length order) (sessions_after s order));
      numbered = by_origin s.origin refl;
    }
  where
    by_origin : (o : Option Origin) → s.origin ≡ o → (origin : Origin) → option_map (λ origin. origin_behind origin (length order) (sessions_after s order)) o ≡ Some origin
        → AllByRecursion (λ d. d.request.session ≤ origin.sessions) (requests_of (sessions_after s order).lasts)
    by_origin None has origin e = absurd cc
    by_origin (Some before) has origin e =
        let same : origin_behind before (length order) (sessions_after s order) ≡ origin = cc in
        subst (λ (x : Origin). AllByRecursion (λ d. d.request.session ≤ x.sessions) (requests_of (sessions_after s order).lasts)) same
        (numbered_requests c.sessions_go_on.ensures.next s (c.sessions_go_on.ensures.first s) order (before.sessions + (sessions_after s order).opened)
        (all_numbered s before has c.sessions_go_on.ensures.next (c.sessions_go_on.ensures.first s) are order))
