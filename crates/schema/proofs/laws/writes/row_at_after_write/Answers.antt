use Rattle.std.proofs.Common.{◌∙◌}
use Rattle.schema.proofs.RowsLemmas.{get-after_write, here, elsewhere}
use Rattle.schema.proofs.laws.writes.row_at_after_write.Goals as goal

pub returns-clause-written : goal.returns-clause-written
returns-clause-written c = λ rows k write. get-after_write rows k k write ∙ here k _ _

pub returns-clause-others : goal.returns-clause-others
returns-clause-others c = λ rows k write q apart. get-after_write rows k q write ∙ elsewhere q k _ _ apart
