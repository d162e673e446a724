use Rattle.log_model.proofs.OpenRequestLemmas.{given_in_words, none_in_words, zero_in_words}
use Rattle.log_model.proofs.call_laws.requests_may_have_a_zero.Goals as goal

pub returns-clause-none : goal.returns-clause-none
returns-clause-none c = none_in_words

pub returns-clause-given : goal.returns-clause-given
returns-clause-given c = given_in_words

pub returns-clause-zero : goal.returns-clause-zero
returns-clause-zero c = zero_in_words
