use Rattle.bpf_semantics.proofs.RunLemmas.{run_within}
use Rattle.bpf_semantics.proofs.PathLemmas.{longest_path-le}
use Rattle.bpf_semantics.proofs.laws.runs_are_short.Goals as goal

pub returns-clause-path : goal.returns-clause-path
returns-clause-path c = run_within

pub returns-clause-instructions : goal.returns-clause-instructions
returns-clause-instructions c = longest_path-le
