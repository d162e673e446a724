use Rattle.dsm_model.proofs.RefusalLemmas.{order_ends, stale_ends, no_memory_ends}
use Rattle.dsm_model.proofs.LeadLemmas.{over_stays}
use Rattle.dsm_model.proofs.worlds.calls_end.Goals as goal

pub returns-clause-order : goal.returns-clause-order
returns-clause-order c = order_ends

pub returns-clause-stale : goal.returns-clause-stale
returns-clause-stale c = stale_ends

pub returns-clause-memory : goal.returns-clause-memory
returns-clause-memory c = no_memory_ends

pub returns-clause-stays : goal.returns-clause-stays
returns-clause-stays c = over_stays
