use Rattle.bpf_semantics.proofs.CallLemmas.{get_looks}
use Rattle.bpf_semantics.proofs.steps.gets_look_at_their_key.Goals as goal

pub returns-clause-look : goal.returns-clause-look
returns-clause-look c tables s t table key e a b = (get_looks tables s t table key e a b).0

pub returns-clause-own_write : goal.returns-clause-own_write
returns-clause-own_write c tables s t table key e a b = (get_looks tables s t table key e a b).1
