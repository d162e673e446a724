use Rattle.bpf_verify.proofs.FlowLemmas.{IsPending}
use Rattle.bpf_verify.proofs.flow.scan.Given as goal

abbrev pub invariant-loop-slot : goal.invariant-loop-slot
invariant-loop-slot g l = IsPending (record { program = l.code; tables = l.schema; args_len = l.args_len }) l.slot l.pending
