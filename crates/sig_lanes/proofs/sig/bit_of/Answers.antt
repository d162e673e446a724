use Rattle.std.proofs.Common.{arith}
use Rattle.sig_lanes.specs.Signature.{bit_of}
use Rattle.sig_lanes.proofs.sig.bit_of.Goals as goal

pub returns-clause-value : goal.returns-clause-value
unfolding bit_of
returns-clause-value c = omega (arith, c.from-of_table.ensures)
