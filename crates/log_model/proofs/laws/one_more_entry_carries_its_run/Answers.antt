use Rattle.log_model.proofs.CarryLemmas.{entry_appended}
use Rattle.log_model.proofs.laws.one_more_entry_carries_its_run.Goals as goal

pub returns : goal.returns
returns c = entry_appended
