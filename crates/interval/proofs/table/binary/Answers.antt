use Rattle.interval.specs.Width.{width_bits}
use Rattle.interval.proofs.table.binary.Goals as goal

pub returns-in-Div : goal.returns-in-Div
returns-in-Div c = rw c.in-Div.is (c.quotient.ensures (width_bits c.args.width))

pub returns-in-Or : goal.returns-in-Or
returns-in-Or c = rw c.in-Or.is (c.or.ensures (width_bits c.args.width))

pub returns-in-And : goal.returns-in-And
returns-in-And c = rw c.in-And.is (c.and.ensures (width_bits c.args.width))

pub returns-in-Mod : goal.returns-in-Mod
returns-in-Mod c = rw c.in-Mod.is (c.remainder.ensures (width_bits c.args.width))

pub returns-in-Xor : goal.returns-in-Xor
returns-in-Xor c = rw c.in-Xor.is (c.xor.ensures (width_bits c.args.width))
