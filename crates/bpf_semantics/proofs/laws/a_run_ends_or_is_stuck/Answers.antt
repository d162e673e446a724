use Rattle.bpf_semantics.proofs.EndLemmas.{ended_is_run, none_where_stuck}
use Rattle.bpf_semantics.proofs.laws.a_run_ends_or_is_stuck.Goals as goal

pub returns-clause-ended : goal.returns-clause-ended
returns-clause-ended c = ended_is_run

pub returns-clause-stuck : goal.returns-clause-stuck
returns-clause-stuck c = none_where_stuck
