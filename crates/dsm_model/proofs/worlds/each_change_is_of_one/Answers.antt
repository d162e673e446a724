use Rattle.dsm_model.proofs.PartLemmas.{call_here, call_elsewhere, replica_here, replica_elsewhere, rest_stays, begun_is_open}
use Rattle.dsm_model.proofs.worlds.each_change_is_of_one.Goals as goal

pub returns-clause-call : goal.returns-clause-call
returns-clause-call c = call_here

pub returns-clause-other_calls : goal.returns-clause-other_calls
returns-clause-other_calls c = call_elsewhere

pub returns-clause-replica : goal.returns-clause-replica
returns-clause-replica c = replica_here

pub returns-clause-other_replicas : goal.returns-clause-other_replicas
returns-clause-other_replicas c = replica_elsewhere

pub returns-clause-rest : goal.returns-clause-rest
returns-clause-rest c = rest_stays

pub returns-clause-begun : goal.returns-clause-begun
returns-clause-begun c = begun_is_open
