use Rattle.log_model.proofs.CallLemmas.{procedures_first, procedures_next, procedures_after_addition}
use Rattle.log_model.proofs.laws.procedures_after_each_item.Goals as goal

pub returns-clause-first : goal.returns-clause-first
returns-clause-first c = procedures_first

pub returns-clause-call : goal.returns-clause-call
returns-clause-call c = procedures_next

pub returns-clause-addition : goal.returns-clause-addition
returns-clause-addition c = procedures_after_addition
