use Rattle.log_model.proofs.GrowthLemmas.{procedure_stays}
use Rattle.log_model.proofs.laws.procedures_are_never_lost.Goals as goal

pub returns : goal.returns
returns c = procedure_stays
