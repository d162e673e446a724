use Rattle.bpf_semantics.proofs.MomentLemmas.{open_call_goes, open_call_ends}
use Rattle.bpf_semantics.proofs.states.an_open_call_depends_on_its_looks.Goals as goal

pub returns-clause-going : goal.returns-clause-going
returns-clause-going c = open_call_goes

pub returns-clause-ended : goal.returns-clause-ended
returns-clause-ended c = open_call_ends
