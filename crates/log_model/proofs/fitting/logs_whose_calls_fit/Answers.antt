use Rattle.log_model.proofs.CallLemmas.{items_fit, serial_where_fit}
use Rattle.log_model.proofs.EntryLemmas.{rows_of_log}
use Rattle.log_model.proofs.GrowthLemmas.{all_fit_snoc, rows_where_fit}
use Rattle.log_model.proofs.fitting.logs_whose_calls_fit.Goals as goal

pub returns-clause-items : goal.returns-clause-items
returns-clause-items c w log items = items_fit w log items

pub returns-clause-one_more : goal.returns-clause-one_more
returns-clause-one_more c w log item below items le is = all_fit_snoc w log item below items le is

pub returns-clause-installed : goal.returns-clause-installed
returns-clause-installed c w log position safe below items le = rows_of_log w log position safe below items le

pub returns-clause-rows : goal.returns-clause-rows
returns-clause-rows c w log position safe below items le = rows_where_fit w log position safe below items le

pub returns-clause-runs : goal.returns-clause-runs
returns-clause-runs c w log d call safe below items at verdict = serial_where_fit w log d call safe below items at verdict
