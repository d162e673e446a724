use Rattle.script.proofs.SaidLemmas.{ok_gives}
use Rattle.script_run.proofs.call_script.read_script.Goals as goal

pub returns-clause-window : goal.returns-clause-window
returns-clause-window g c = ok_gives c.read_lines.result _ _ c.read_lines.ensures.limits (λ script known. (known.0, known.1))

pub returns-clause-replicas : goal.returns-clause-replicas
returns-clause-replicas g c = ok_gives c.read_lines.result _ _ c.read_lines.ensures.limits (λ script known. (known.2, known.3))
