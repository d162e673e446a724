use Rattle.schema.specs.Rows.{key_cmp_total}
use Rattle.row_sets.proofs.OrderLemmas.{no_entries}
use Rattle.row_sets.proofs.write_set.WriteSet.with_room.Goals as goal

pub returns : goal.returns
returns g c = no_entries key_cmp_total c.in_ok-with_capacity.field-0.items c.in_ok-with_capacity.ensures.items
