use Rattle.bpf_semantics.proofs.LookLemmas.{agree_on_tables}
use Rattle.bpf_semantics.proofs.TwinLemmas.{same_on_tables, none_on_tables, going_on_alike, stuck_where}
use Rattle.bpf_semantics.proofs.laws.a_run_depends_on_its_schemas_tables.Goals as goal

pub returns-clause-same : goal.returns-clause-same
returns-clause-same c = same_on_tables

pub returns-clause-none : goal.returns-clause-none
returns-clause-none c = none_on_tables

pub returns-clause-going : goal.returns-clause-going
returns-clause-going c p tables args m n agree = going_on_alike p tables args m n (agree_on_tables p tables args m n agree)

pub returns-clause-stuck : goal.returns-clause-stuck
returns-clause-stuck c p tables args m n agree = stuck_where p tables args m n (agree_on_tables p tables args m n agree)
