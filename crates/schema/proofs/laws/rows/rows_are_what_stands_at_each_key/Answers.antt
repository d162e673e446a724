use Rattle.schema.proofs.RowsLemmas.{same_rows}
use Rattle.schema.proofs.laws.rows.rows_are_what_stands_at_each_key.Goals as goal

pub returns : goal.returns
returns c = same_rows
