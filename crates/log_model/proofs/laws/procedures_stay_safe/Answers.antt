use Rattle.log_model.proofs.GrowthLemmas.{procedures_safe}
use Rattle.log_model.proofs.laws.procedures_stay_safe.Goals as goal

pub returns : goal.returns
returns c = procedures_safe
