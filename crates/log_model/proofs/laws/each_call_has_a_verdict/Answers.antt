use Rattle.log_model.proofs.EntryLemmas.{verdict_there, none_beyond}
use Rattle.log_model.proofs.laws.each_call_has_a_verdict.Goals as goal

pub returns-clause-within : goal.returns-clause-within
returns-clause-within c = verdict_there

pub returns-clause-beyond : goal.returns-clause-beyond
returns-clause-beyond c = none_beyond
