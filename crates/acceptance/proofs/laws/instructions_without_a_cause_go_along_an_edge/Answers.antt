use Rattle.acceptance.proofs.Known.{all_send}
use Rattle.acceptance.proofs.Steps.{all_step}
use Rattle.acceptance.proofs.laws.instructions_without_a_cause_go_along_an_edge.Goals as goal

pub returns-clause-steps : goal.returns-clause-steps
returns-clause-steps c = all_step

pub returns-clause-sends : goal.returns-clause-sends
returns-clause-sends c = all_send
