use Rattle.dsm_model.proofs.ToldLemmas.{committed_told, repeated_told, done_told, untold}
use Rattle.dsm_model.proofs.log.what_is_told_is_serial.Goals as goal

pub returns-clause-committed : goal.returns-clause-committed
returns-clause-committed c = committed_told

pub returns-clause-repeated : goal.returns-clause-repeated
returns-clause-repeated c = repeated_told

pub returns-clause-done : goal.returns-clause-done
returns-clause-done c = done_told

pub returns-clause-untold : goal.returns-clause-untold
returns-clause-untold c = untold
