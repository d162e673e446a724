use Rattle.schema.proofs.LookLemmas.{vacant_where_zero, zero_where_vacant}
use Rattle.schema.proofs.laws.looks.count_is_zero_where_none.Goals as goal

pub returns : goal.returns
returns c = λ look rows. (vacant_where_zero look rows, zero_where_vacant look rows)
