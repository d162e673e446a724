use Rattle.script_run.proofs.AnsweredLemmas.{none_there}
use Rattle.script_run.proofs.answers.Found.new.Goals as goal

pub returns-clause-none : goal.returns-clause-none
returns-clause-none g c w replicas calls = none_there w replicas _ calls c.loop-place.answers.items c.loop-place.invariant.1
