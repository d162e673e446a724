use Rattle.bpf_semantics.proofs.CallLemmas.{removal_leaves}
use Rattle.bpf_semantics.proofs.steps.a_removal_leaves_nothing.Goals as goal

pub returns-clause-row : goal.returns-clause-row
returns-clause-row c tables s t table key e a b = (removal_leaves tables s t table key e a b).0

pub returns-clause-write : goal.returns-clause-write
returns-clause-write c tables s t table key e a b = (removal_leaves tables s t table key e a b).1
