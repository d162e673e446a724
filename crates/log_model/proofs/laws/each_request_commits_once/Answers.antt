use Rattle.log_model.proofs.RepetitionLemmas.{not_before, once}
use Rattle.log_model.proofs.laws.each_request_commits_once.Goals as goal

pub returns-clause-not_before : goal.returns-clause-not_before
returns-clause-not_before c = not_before

pub returns-clause-once : goal.returns-clause-once
returns-clause-once c = once
