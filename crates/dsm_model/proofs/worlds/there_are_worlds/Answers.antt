use Rattle.dsm_model.proofs.PartLemmas.{first_replicas, no_more_replicas, nothing_yet, steps_lead_on}
use Rattle.dsm_model.proofs.worlds.there_are_worlds.Goals as goal

pub returns-clause-replicas : goal.returns-clause-replicas
returns-clause-replicas c = first_replicas

pub returns-clause-no_more : goal.returns-clause-no_more
returns-clause-no_more c = no_more_replicas

pub returns-clause-nothing : goal.returns-clause-nothing
returns-clause-nothing c = nothing_yet

pub returns-clause-steps : goal.returns-clause-steps
returns-clause-steps c = steps_lead_on
