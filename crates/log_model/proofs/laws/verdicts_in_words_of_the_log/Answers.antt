use Rattle.log_model.proofs.MeaningLemmas.{stale_means, conflict_means, commit_means}
use Rattle.log_model.proofs.RepetitionLemmas.{repeated_means}
use Rattle.log_model.proofs.laws.verdicts_in_words_of_the_log.Goals as goal

pub returns-clause-stale : goal.returns-clause-stale
returns-clause-stale c = stale_means

pub returns-clause-conflict : goal.returns-clause-conflict
returns-clause-conflict c = conflict_means

pub returns-clause-commit : goal.returns-clause-commit
returns-clause-commit c = commit_means

pub returns-clause-repeated : goal.returns-clause-repeated
returns-clause-repeated c = repeated_means
