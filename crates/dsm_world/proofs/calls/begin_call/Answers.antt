use Rattle.std.proofs.Common.{sym, subst}
use Rattle.world_calls.specs.OpenCall.{Follows}
use Rattle.world_calls.specs.declared.open_call.OpenCall.{OpenCall as OpenCallState}
use Rattle.dsm_world.proofs.calls.begin_call.Goals as goal

pub returns-in_default-clause-follows : goal.returns-in_default-clause-follows
returns-in_default-clause-follows g c w log p known is fit =
    subst (λ (x : OpenCallState _). Follows w log x) (sym c.in_ok-new.ensures.ok) (c.in_ok-begun.ensures.follows w log p known is fit)
