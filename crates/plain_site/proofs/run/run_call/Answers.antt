use Rattle.std.proofs.Common.{subst}
use Rattle.bpf_vm.specs.Run.{HasEnded, own_effects}
use Rattle.plain_site.proofs.run.run_call.Goals as goal

pub returns-clause-ended : goal.returns-clause-ended
returns-clause-ended g c = λ reply e.
    subst (λ map. HasEnded c.args.procedure.now c.args.args.now map c.take_turns.result.turns reply (own_effects c.take_turns.result.own))
    c.in_ok-map.ensures.rows (c.take_turns.ensures.ended reply e)
