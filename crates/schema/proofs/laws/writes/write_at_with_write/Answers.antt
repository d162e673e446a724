use Rattle.std.proofs.Common.{◌∙◌}
use Rattle.std.specs.FinMap.{get-insert}
use Rattle.schema.specs.Rows.{key_cmp_total}
use Rattle.schema.proofs.RowsLemmas.{here, elsewhere}
use Rattle.schema.proofs.laws.writes.write_at_with_write.Goals as goal

pub returns-clause-written : goal.returns-clause-written
returns-clause-written c = λ writes k write. get-insert key_cmp_total writes k write k ∙ here k _ _

pub returns-clause-others : goal.returns-clause-others
returns-clause-others c = λ writes k write q apart. get-insert key_cmp_total writes k write q ∙ elsewhere q k _ _ apart
