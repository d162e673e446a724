use Rattle.dsm_model.proofs.RefusalLemmas.{log_within, never_full}
use Rattle.dsm_model.proofs.worlds.the_log_is_never_full.Goals as goal

pub returns-clause-few : goal.returns-clause-few
returns-clause-few c = log_within

pub returns-clause-never : goal.returns-clause-never
returns-clause-never c = never_full
