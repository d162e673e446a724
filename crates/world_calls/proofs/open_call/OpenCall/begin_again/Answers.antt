use Rattle.std.specs.FinMap.{empty}
use Rattle.std.proofs.Common.{◌∙◌, refl, ap, arith}
use Rattle.log_model.specs.Log.{rows_after}
use Rattle.bpf_vm.specs.Run.{own_effects}
use Rattle.world_calls.proofs.CallLemmas.{follows_from_the_start}
use Rattle.world_calls.proofs.open_call.OpenCall.begin_again.Goals as goal

pub returns-clause-follows : goal.returns-clause-follows
returns-clause-follows g c w log p known is fit =
    follows_from_the_start w log _ c.args.args.now c.args.accepted.now p (c.new.ensures ∙ c.in_ok-copied.ensures.items) refl (ap (λ own. own_effects own) c.new-2.ensures)
    c.requires (λ i. let f = c.type_inv.args i in omega (arith, f)) (c.in-Ok.ensures.starts (rows_after w log c.args.start.snapshot)) known is fit

pub returns-clause-ready : goal.returns-clause-ready
returns-clause-ready g c = (c.in-Ok.ensures.starts empty).going
