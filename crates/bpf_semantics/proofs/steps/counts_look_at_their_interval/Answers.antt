use Rattle.bpf_semantics.proofs.CallLemmas.{count_looks}
use Rattle.bpf_semantics.proofs.steps.counts_look_at_their_interval.Goals as goal

pub returns-clause-look : goal.returns-clause-look
returns-clause-look c tables s t table lo hi e a b d = (count_looks tables s t table lo hi e a b d).0

pub returns-clause-empty : goal.returns-clause-empty
returns-clause-empty c tables s t table lo hi e a b d = (count_looks tables s t table lo hi e a b d).1
