use Rattle.world_calls.specs.OpenCall.{open_call_of}
use Rattle.dsm_world.proofs.CallLemmas.{one_turn}
use Rattle.std.proofs.Common.{arith, refl}
use Rattle.dsm_world.proofs.turn.take_turns.Goals as goal

pub returns-in-One-clause-turns : goal.returns-in-One-clause-turns
returns-in-One-clause-turns g c w log can = (
  0,
  omega arith,
  λ one. refl,
  one_turn w log (g.S.Store.is_gone c.args.store) (open_call_of c.args.open_call.now) c.turn.result (open_call_of c.turn.new.self) (c.turn.ensures.turn w log can),
)

pub returns-in-ToTheEnd-clause-turns : goal.returns-in-ToTheEnd-clause-turns
returns-in-ToTheEnd-clause-turns g c w log can =
    let (before, few, are) = c.run.ensures.turns w log can in
    let all = c.in-ToTheEnd.is in
    (before, few, λ one. absurd cc, are)
