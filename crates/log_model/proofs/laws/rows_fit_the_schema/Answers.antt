use Rattle.log_model.proofs.GrowthLemmas.{rows_fit}
use Rattle.log_model.proofs.laws.rows_fit_the_schema.Goals as goal

pub returns : goal.returns
returns c = rows_fit
