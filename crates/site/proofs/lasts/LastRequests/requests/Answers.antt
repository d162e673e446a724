use Rattle.std.proofs.Common.{◌∙◌, ap}
use Rattle.site_model.specs.Next.{requests_of}
use Rattle.site.proofs.LastLemmas.{listed}
use Rattle.site.proofs.lasts.LastRequests.requests.Goals as goal

pub returns-clause-requests : goal.returns-clause-requests
returns-clause-requests g c =
    c.values.ensures.rest ∙ listed c.self.inside.requests.entries c.self.invariant ∙ ap requests_of c.self.view_is
