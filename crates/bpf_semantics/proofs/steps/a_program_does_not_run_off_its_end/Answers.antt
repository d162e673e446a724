use Rattle.bpf_semantics.proofs.NextLemmas.{first_begins, next_begins, jump_begins}
use Rattle.bpf_semantics.proofs.steps.a_program_does_not_run_off_its_end.Goals as goal

pub returns-clause-next : goal.returns-clause-next
returns-clause-next c = next_begins

pub returns-clause-jump : goal.returns-clause-jump
returns-clause-jump c = jump_begins

pub returns-clause-first : goal.returns-clause-first
returns-clause-first c p is = first_begins p is.slots is.not_empty
