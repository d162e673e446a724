use Rattle.log_model.proofs.CallLemmas.{items_fit}
use Rattle.log_model.proofs.EntryLemmas.{rows_of_log}
use Rattle.log_model.proofs.laws.rows_are_installed_writes.Goals as goal

pub returns : goal.returns
returns c w log position safe below items le = rows_of_log w log position safe below (items_fit w log items) le
