use Rattle.std.proofs.Common.{refl, sym, subst}
use Rattle.log_model.specs.Fit.{BeginsSafely}
use Rattle.site.proofs.SiteLemmas.{stands_at_first}
use Rattle.site.proofs.state.SiteReplica.new.Goals as goal
use Rattle.catalogue.specs.Catalogue.{system_setting}

pub returns-clause-stands : goal.returns-clause-stands
returns-clause-stands g c =
    stands_at_first _ c.new-2.ensures.items c.new-3.ensures.items c.in_ok-replica.ensures.running
    (record { delivered = c.in_ok-replica.ensures.stands; window = refl; tables = c.in_ok-replica.ensures.tables; procedures = c.in_ok-replica.ensures.for_tables })
    (subst (λ n. BeginsSafely (system_setting c.args.settings.catalogue n)) (sym c.in_ok-replica.ensures.window) (c.catalogues_are_safe.ensures c.args.settings.window))
