use Rattle.dsm_model.proofs.TurnLemmas.{counts_exit, counts_more, counts_no_other}
use Rattle.dsm_model.proofs.worlds.turns_that_run_are_counted.Goals as goal

pub returns-clause-more : goal.returns-clause-more
returns-clause-more c = counts_more

pub returns-clause-exit : goal.returns-clause-exit
returns-clause-exit c = counts_exit

pub returns-clause-other_calls : goal.returns-clause-other_calls
returns-clause-other_calls c = counts_no_other
