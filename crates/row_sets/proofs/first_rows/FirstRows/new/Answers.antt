use Rattle.schema.specs.Rows.{key_cmp_total}
use Rattle.row_sets.proofs.OrderLemmas.{no_entries}
use Rattle.row_sets.proofs.first_rows.FirstRows.new.Goals as goal

pub returns : goal.returns
returns g c = no_entries key_cmp_total c.new.result c.new.ensures
