use Rattle.acceptance.proofs.Known.{all_send}
use Rattle.acceptance.proofs.Runs.{moment_described, never_stuck, has_run}
use Rattle.acceptance.proofs.Steps.{all_step}
use Rattle.acceptance.proofs.laws.accepted_programs_never_go_wrong.Goals as goal

pub returns-clause-described : goal.returns-clause-described
returns-clause-described c p args rows k s is are accepted suited =
    moment_described p args rows k s (record { program = is; tables = are; accepted = accepted; suited = suited }) (all_send p.tables) (all_step p.tables p.args_len)

pub returns-clause-never_stuck : goal.returns-clause-never_stuck
returns-clause-never_stuck c p args rows k is are accepted suited =
    never_stuck p args rows k (record { program = is; tables = are; accepted = accepted; suited = suited }) (all_send p.tables) (all_step p.tables p.args_len)

pub returns-clause-run : goal.returns-clause-run
returns-clause-run c p args rows is are accepted suited =
    has_run p args rows (record { program = is; tables = are; accepted = accepted; suited = suited }) (all_send p.tables) (all_step p.tables p.args_len)
