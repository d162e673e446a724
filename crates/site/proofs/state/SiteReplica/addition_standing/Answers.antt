use Rattle.std.proofs.Common.{◌≡◌, ◌∙◌, ap, subst}
use Rattle.schema.specs.Schema.{AreTables}
use Rattle.site.specs.Replica.{SiteReplica}
use Rattle.site.proofs.SiteLemmas.{addition_taken}
use Rattle.site.proofs.state.SiteReplica.addition_standing.Goals as goal

pub returns-in-Ok-clause-ready : goal.returns-in-Ok-clause-ready
returns-in-Ok-clause-ready g c =
    let tables : c.schema.result.now ≡ c.args.self.now.catalogue.tables = c.schema.ensures.tables ∙ ap (λ (x : SiteReplica). x.catalogue.tables) c.self.view_is in
    addition_taken c.args.self.now.catalogue.tables c.in-Ok.added c.accepted_procedures_are_safe.ensures
    (subst (λ (x : SiteReplica). AreTables x.catalogue.tables) c.self.view_is c.each_catalogue_is_consistent.ensures.tables) c.in-Ok.ensures.shape (c.in-Ok.ensures.given.0 ∙ tables) c.in-Ok.ensures.accepted.0 c.in-Ok.ensures.accepted.1
