use Rattle.dsm_model.proofs.TurnLemmas.{exit_stays, run_stays, same_call, step_grows}
use Rattle.dsm_model.proofs.worlds.open_calls_keep_their_replies.Goals as goal

pub returns-clause-log : goal.returns-clause-log
returns-clause-log c = step_grows

pub returns-clause-call : goal.returns-clause-call
returns-clause-call c = same_call

pub returns-clause-reply : goal.returns-clause-reply
returns-clause-reply c = run_stays

pub returns-clause-exit : goal.returns-clause-exit
returns-clause-exit c = exit_stays
