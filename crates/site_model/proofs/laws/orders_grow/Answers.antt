use Rattle.site_model.proofs.OrderLemmas.{next_entries, count_entries}
use Rattle.site_model.proofs.laws.orders_grow.Goals as goal

pub returns-clause-next : goal.returns-clause-next
returns-clause-next c s order bytes = next_entries s order bytes

pub returns-clause-count : goal.returns-clause-count
returns-clause-count c s order = count_entries s order
