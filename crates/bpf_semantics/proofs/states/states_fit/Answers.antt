use Rattle.bpf_semantics.proofs.FitRunLemmas.{state_fits, ended_fits, state_rows, run_fits}
use Rattle.bpf_semantics.proofs.states.states_fit.Goals as goal

pub returns-clause-going : goal.returns-clause-going
returns-clause-going c = state_fits

pub returns-clause-rows : goal.returns-clause-rows
returns-clause-rows c = state_rows

pub returns-clause-run : goal.returns-clause-run
returns-clause-run c = run_fits

pub returns-clause-ended : goal.returns-clause-ended
returns-clause-ended c = ended_fits
