use Rattle.schema.proofs.RowsLemmas.{after_writes-empty, after_writes-with_write}
use Rattle.schema.proofs.laws.writes.after_one_more_write.Goals as goal

pub returns-clause-none : goal.returns-clause-none
returns-clause-none c = after_writes-empty

pub returns-clause-more : goal.returns-clause-more
returns-clause-more c = after_writes-with_write
