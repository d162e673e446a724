use Rattle.interval.proofs.Below.{alu_range_below, end_range_ordered, end_range_below}
use Rattle.interval.proofs.Sound.{alu_ordered}
use Rattle.interval.proofs.laws.results_are_ranges.Goals as goal

pub returns-clause-ordered : goal.returns-clause-ordered
returns-clause-ordered c = alu_ordered

pub returns-clause-below : goal.returns-clause-below
returns-clause-below c = alu_range_below

pub returns-clause-end_ordered : goal.returns-clause-end_ordered
returns-clause-end_ordered c = end_range_ordered

pub returns-clause-end_below : goal.returns-clause-end_below
returns-clause-end_below c = end_range_below
