use Rattle.log_model.proofs.NextLemmas.{next_looks, next_calls, never_at_end}
use Rattle.log_model.proofs.call_laws.what_the_next_instruction_does.Goals as goal

pub returns-clause-look : goal.returns-clause-look
returns-clause-look c = next_looks

pub returns-clause-helper : goal.returns-clause-helper
returns-clause-helper c = next_calls

pub returns-clause-ended : goal.returns-clause-ended
returns-clause-ended c = never_at_end
