use Rattle.bpf_semantics.proofs.TwinLemmas.{elsewhere, elsewhere_each}
use Rattle.bpf_semantics.proofs.laws.writes_elsewhere_leave_the_run.Goals as goal

pub returns-clause-once : goal.returns-clause-once
returns-clause-once c = elsewhere

pub returns-clause-each : goal.returns-clause-each
returns-clause-each c = elsewhere_each
