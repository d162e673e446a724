use Rattle.interval.proofs.Sound.{binary_one, mov_one, neg_one, movsx_one, end_one}
use Rattle.interval.proofs.laws.one_value_gives_one.Goals as goal

pub returns-clause-binary : goal.returns-clause-binary
returns-clause-binary c = binary_one

pub returns-clause-mov : goal.returns-clause-mov
returns-clause-mov c = mov_one

pub returns-clause-neg : goal.returns-clause-neg
returns-clause-neg c = neg_one

pub returns-clause-movsx : goal.returns-clause-movsx
returns-clause-movsx c = movsx_one

pub returns-clause-end : goal.returns-clause-end
returns-clause-end c = end_one
