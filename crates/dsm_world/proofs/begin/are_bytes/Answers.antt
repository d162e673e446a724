use Rattle.std.proofs.Common.{arith}
use Rattle.std.proofs.lemmas.Grind.{get_or_default_zero}
use Rattle.dsm_world.proofs.begin.are_bytes.Goals as goal

pub returns : goal.returns
returns c i d lt = let zero = get_or_default_zero c.args.items.now i d lt in let f = c.type_inv.items i in omega (arith, f, zero)
