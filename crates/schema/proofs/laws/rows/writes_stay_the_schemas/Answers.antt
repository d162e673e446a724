use Rattle.schema.proofs.RowsLemmas.{no_writes, writes_with_put, writes_with_removal}
use Rattle.schema.proofs.laws.rows.writes_stay_the_schemas.Goals as goal

pub returns-clause-none : goal.returns-clause-none
returns-clause-none c = no_writes

pub returns-clause-put : goal.returns-clause-put
returns-clause-put c = writes_with_put

pub returns-clause-removed : goal.returns-clause-removed
returns-clause-removed c = writes_with_removal
