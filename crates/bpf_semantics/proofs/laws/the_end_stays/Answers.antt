use Rattle.bpf_semantics.proofs.RunLemmas.{stuck_stays, ended_stays}
use Rattle.bpf_semantics.proofs.laws.the_end_stays.Goals as goal

pub returns-clause-stuck : goal.returns-clause-stuck
returns-clause-stuck c = stuck_stays

pub returns-clause-ended : goal.returns-clause-ended
returns-clause-ended c = ended_stays
