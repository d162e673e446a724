use Rattle.log_model.specs.Entries.{items_of}
use Rattle.log_model.proofs.CallLemmas.{certified_by_entries, items_fit, procedures_by_entries}
use Rattle.log_model.proofs.EntryLemmas.{rows_installed}
use Rattle.log_model.proofs.laws.entries_suffice.Goals as goal

pub returns-clause-verdicts : goal.returns-clause-verdicts
returns-clause-verdicts c = certified_by_entries

pub returns-clause-rows : goal.returns-clause-rows
returns-clause-rows c w entries position safe below items carry le = rows_installed w entries position safe below (items_fit w (items_of entries) items) carry le

pub returns-clause-procedures : goal.returns-clause-procedures
returns-clause-procedures c = procedures_by_entries
