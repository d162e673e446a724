use Rattle.log_model.proofs.CallLemmas.{serial_run}
use Rattle.dsm_model.proofs.SerialLemmas.{committed_rows}
use Rattle.dsm_model.proofs.log.what_commits_is_serial.Goals as goal

pub returns-clause-run : goal.returns-clause-run
returns-clause-run c = serial_run

pub returns-clause-rows : goal.returns-clause-rows
returns-clause-rows c = committed_rows
