use Rattle.site_laws.proofs.OrderFitLemmas.{order_is_fit}
use Rattle.site_laws.proofs.fitting.orders_of_bytes_fit.Goals as goal

pub returns : goal.returns
returns c s order is are =
    order_is_fit c.fit_entries_go_on.ensures.one_more c.what_stands_is_of_the_log.ensures.placed c.what_stands_is_of_the_log.ensures.carried c.what_stands_is_of_the_log.ensures.fits
    c.programs_pass_where_they_are_accepted.ensures.passed c.accepted_procedures_are_safe.ensures s is order are
