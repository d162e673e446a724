use Rattle.bpf_semantics.proofs.CallLemmas.{put_leaves}
use Rattle.bpf_semantics.proofs.steps.a_put_leaves_its_bytes.Goals as goal

pub returns : goal.returns
returns c = put_leaves
