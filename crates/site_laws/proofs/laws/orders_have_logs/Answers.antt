use Rattle.site_laws.proofs.LogLemmas.{order_is_log}
use Rattle.site_laws.proofs.laws.orders_have_logs.Goals as goal

pub returns : goal.returns
returns c s order = order_is_log s order c.what_stands_is_of_the_log.ensures.placed
