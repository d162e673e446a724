use Rattle.std.proofs.Common.{[], sym, ap, subst, ◌∙◌}
use Rattle.site_model.specs.Standing.{SiteSetting}
use Rattle.site_model.specs.Sessions.{Sessions, lasts_of}
use Rattle.site.specs.Replica.{StandsForLog, setting_of}
use Rattle.site.proofs.site.Site.new.Goals as goal

abbrev first_known : SiteSetting → Sessions
first_known s = record { opened = 0; lasts = lasts_of s.origin s.setting.beginning.requests }

pub returns-clause-stands : goal.returns-clause-stands
returns-clause-stands g c = record {
  log = subst (StandsForLog c.in_ok-replica.replica) (sym (c.orders_grow.ensures.first (setting_of c.in_ok-replica.replica))) c.in_ok-replica.ensures.stands;
  sessions =
      c.in_ok-replica.ensures.sessions
      ∙ ap (λ (s : SiteSetting). first_known s) (sym c.in_ok-replica.ensures.setting)
      ∙ sym (c.sessions_go_on.ensures.first (setting_of c.in_ok-replica.replica));
}

pub invariant_of-result : goal.invariant_of-result
invariant_of-result g c = ([], returns-clause-stands g c)
