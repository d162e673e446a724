use Rattle.log_model.proofs.CallLemmas.{rows_first, rows_next, rows_after_addition}
use Rattle.dsm_model.proofs.log.rows_after_each_call.Goals as goal

pub returns-clause-first : goal.returns-clause-first
returns-clause-first c = rows_first

pub returns-clause-next : goal.returns-clause-next
returns-clause-next c = rows_next

pub returns-clause-addition : goal.returns-clause-addition
returns-clause-addition c = rows_after_addition
