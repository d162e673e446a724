use Rattle.schema.specs.Rows.{key_cmp_total}
use Rattle.row_sets.proofs.OrderLemmas.{no_entries}
use Rattle.row_sets.proofs.write_set.WriteSet.new.Goals as goal

pub returns : goal.returns
returns g c = no_entries key_cmp_total c.new.result.items c.new.ensures.items
