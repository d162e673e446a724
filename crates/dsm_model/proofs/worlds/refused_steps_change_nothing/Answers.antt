use Rattle.dsm_model.proofs.RefusalLemmas.{refused_same, begin_memory, order_memory, deliver_memory, rebuild_memory, add_memory}
use Rattle.dsm_model.proofs.worlds.refused_steps_change_nothing.Goals as goal

pub returns-clause-nothing : goal.returns-clause-nothing
returns-clause-nothing c = refused_same

pub returns-clause-begin : goal.returns-clause-begin
returns-clause-begin c = begin_memory

pub returns-clause-order : goal.returns-clause-order
returns-clause-order c = order_memory

pub returns-clause-deliver : goal.returns-clause-deliver
returns-clause-deliver c = deliver_memory

pub returns-clause-rebuild : goal.returns-clause-rebuild
returns-clause-rebuild c = rebuild_memory

pub returns-clause-add : goal.returns-clause-add
returns-clause-add c = add_memory
