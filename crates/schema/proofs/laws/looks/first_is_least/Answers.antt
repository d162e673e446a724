use Rattle.schema.proofs.LookLemmas.{is_first, first_is, vacant_where_no_first, no_first_where_vacant}
use Rattle.schema.proofs.laws.looks.first_is_least.Goals as goal

pub returns-clause-found : goal.returns-clause-found
returns-clause-found c = λ look rows k bytes. (is_first look rows k bytes, first_is look rows k bytes)

pub returns-clause-none : goal.returns-clause-none
returns-clause-none c = λ look rows. (vacant_where_no_first look rows, no_first_where_vacant look rows)
