use Rattle.std.proofs.Common.{◌∙◌, ap}
use Rattle.std.specs.FinMap.{get}
use Rattle.site_model.specs.Sessions.{LastRequests}
use Rattle.site.proofs.LastLemmas.{got}
use Rattle.site.proofs.lasts.LastRequests.last.Goals as goal

pub returns : goal.returns
returns g c =
    c.get.ensures.value ∙ got c.args.session c.self.inside.requests.entries c.self.invariant
    ∙ ap (λ (l : LastRequests). get l c.args.session) c.self.view_is
