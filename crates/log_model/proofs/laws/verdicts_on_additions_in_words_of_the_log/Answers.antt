use Rattle.log_model.proofs.AdditionLemmas.{name_taken, number_taken, addition_commits}
use Rattle.log_model.proofs.laws.verdicts_on_additions_in_words_of_the_log.Goals as goal

pub returns-clause-name : goal.returns-clause-name
returns-clause-name c = name_taken

pub returns-clause-number : goal.returns-clause-number
returns-clause-number c = number_taken

pub returns-clause-commit : goal.returns-clause-commit
returns-clause-commit c = addition_commits
