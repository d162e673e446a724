use Rattle.std.proofs.Common.{sym}
use Rattle.world_calls.proofs.CallLemmas.{run_again}
use Rattle.world_calls.proofs.open_call.OpenCall.run.Goals as goal

pub returns-in_default : goal.returns-in_default
returns-in_default g c = record {
  ends = c.in_default.not-More;
  turns = λ w log h. run_again w log c.args.self.now (g.S.Store.is_gone c.args.store) c.last.result h.follows (sym c.last.ensures) c.in_default.not-More;
  goes_on = λ w log h stays. h;
  last = sym c.last.ensures;
}
