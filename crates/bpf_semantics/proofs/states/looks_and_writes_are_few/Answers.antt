use Rattle.bpf_semantics.proofs.FitRunLemmas.{sparse_state, sparse_run}
use Rattle.bpf_semantics.proofs.states.looks_and_writes_are_few.Goals as goal

pub returns-clause-going : goal.returns-clause-going
returns-clause-going c = sparse_state

pub returns-clause-run : goal.returns-clause-run
returns-clause-run c = sparse_run
