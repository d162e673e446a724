use Rattle.site_model.proofs.OrderLemmas.{next_sessions, opened_few}
use Rattle.site_model.proofs.laws.sessions_go_on.Goals as goal

pub returns-clause-next : goal.returns-clause-next
returns-clause-next c s order bytes = next_sessions s order bytes

pub returns-clause-count : goal.returns-clause-count
returns-clause-count c s order = opened_few s order
