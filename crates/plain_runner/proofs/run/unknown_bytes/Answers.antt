use Rattle.std.proofs.Common.{rules}
use Rattle.std.proofs.lemmas.Result.{IfOk-weaker}
use Rattle.plain_runner.proofs.run.unknown_bytes.Goals as goal

pub returns : goal.returns
returns g c = IfOk-weaker c.vec.result _ _ (λ v h. h (λ y k. search rules)) c.vec.ensures.items_if_clones_equal
