use Rattle.log_model.proofs.GrowthLemmas.{rows_grown, procedures_grown, verdict_grown, moment_grown}
use Rattle.log_model.proofs.laws.a_log_only_grows.Goals as goal

pub returns-clause-rows : goal.returns-clause-rows
returns-clause-rows c = rows_grown

pub returns-clause-verdicts : goal.returns-clause-verdicts
returns-clause-verdicts c = verdict_grown

pub returns-clause-runs : goal.returns-clause-runs
returns-clause-runs c = moment_grown

pub returns-clause-procedures : goal.returns-clause-procedures
returns-clause-procedures c = procedures_grown
