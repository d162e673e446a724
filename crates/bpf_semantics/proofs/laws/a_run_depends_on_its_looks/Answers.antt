use Rattle.bpf_semantics.proofs.TwinLemmas.{same_on_looks, going_on_alike, stuck_where, none_where}
use Rattle.bpf_semantics.proofs.laws.a_run_depends_on_its_looks.Goals as goal

pub returns-clause-same : goal.returns-clause-same
returns-clause-same c = same_on_looks

pub returns-clause-going : goal.returns-clause-going
returns-clause-going c = going_on_alike

pub returns-clause-stuck : goal.returns-clause-stuck
returns-clause-stuck c = stuck_where

pub returns-clause-none : goal.returns-clause-none
returns-clause-none c = none_where
