use Rattle.certify.proofs.ComparisonLemmas.{comparisons_rise, compared_if, if_compared}
use Rattle.certify.proofs.laws.comparisons_in_words_of_the_log.Goals as goal

pub returns-clause-rising : goal.returns-clause-rising
returns-clause-rising c = comparisons_rise

pub returns-clause-compared : goal.returns-clause-compared
returns-clause-compared c a d b x y z = (compared_if a d b x y z, if_compared a d b x y z)
