use Rattle.bpf_semantics.proofs.CallLemmas.{put_looks, delete_looks, cancel_looks}
use Rattle.bpf_semantics.proofs.steps.writes_and_cancels_look_at_nothing.Goals as goal

pub returns-clause-put : goal.returns-clause-put
returns-clause-put c = put_looks

pub returns-clause-delete : goal.returns-clause-delete
returns-clause-delete c = delete_looks

pub returns-clause-cancel : goal.returns-clause-cancel
returns-clause-cancel c = cancel_looks
