use Rattle.dsm_model.proofs.AgreeLemmas.{agree}
use Rattle.dsm_model.proofs.worlds.replicas_agree.Goals as goal

pub returns : goal.returns
returns c = agree
