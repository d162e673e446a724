use Rattle.log_model.proofs.RepetitionLemmas.{same_in_words}
use Rattle.log_model.proofs.laws.requests_are_the_same_where_they_are_equal.Goals as goal

pub returns : goal.returns
returns c a b = same_in_words a b
