use Rattle.dsm_model.proofs.TurnLemmas.{reaches_end, reaches_exit}
use Rattle.dsm_model.proofs.worlds.enough_turns_reach_exit.Goals as goal

pub returns-clause-exit : goal.returns-clause-exit
returns-clause-exit c = reaches_exit

pub returns-clause-end : goal.returns-clause-end
returns-clause-end c = reaches_end
