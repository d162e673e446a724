use Rattle.schema.proofs.RowsLemmas.{no_rows, rows_with_put, rows_with_removal, rows_with_writes}
use Rattle.schema.proofs.laws.rows.rows_stay_the_schemas.Goals as goal

pub returns-clause-none : goal.returns-clause-none
returns-clause-none c = no_rows

pub returns-clause-put : goal.returns-clause-put
returns-clause-put c = rows_with_put

pub returns-clause-removed : goal.returns-clause-removed
returns-clause-removed c = rows_with_removal

pub returns-clause-writes : goal.returns-clause-writes
returns-clause-writes c = rows_with_writes
