use Rattle.bpf_semantics.proofs.MomentLemmas.{before_its_length, from_its_length_on}
use Rattle.bpf_semantics.proofs.states.a_run_goes_on_to_its_length.Goals as goal

pub returns-clause-before : goal.returns-clause-before
returns-clause-before c = before_its_length

pub returns-clause-after : goal.returns-clause-after
returns-clause-after c = from_its_length_on
