use Rattle.std.specs.Prelude.{Some, None}
use Rattle.schema.proofs.laws.rows.each_row_is_the_schemas.Goals as goal

pub returns-clause-row : goal.returns-clause-row
returns-clause-row c = λ tables rows table key bytes are. are table key bytes

pub returns-clause-put : goal.returns-clause-put
returns-clause-put c = λ tables writes table key bytes are. are (table, key) (Some bytes)

pub returns-clause-removed : goal.returns-clause-removed
returns-clause-removed c = λ tables writes table key are. are (table, key) None
