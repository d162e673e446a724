use Rattle.std.proofs.Common.{sym}
use Rattle.schema.specs.Rows.{key_cmp_total}
use Rattle.row_sets.proofs.OrderLemmas.{find_there, find_nowhere}
use Rattle.row_sets.proofs.sorted.find.Goals as goal

pub returns-in-Ok : goal.returns-in-Ok
returns-in-Ok g c = sym (find_there key_cmp_total c.args.key c.args.writes.now c.in-Ok.at c.index-writes-at.result c.requires c.in-Ok.ensures.within c.in-Ok.ensures.found)

pub returns-in-Err : goal.returns-in-Err
returns-in-Err g c = sym (find_nowhere key_cmp_total c.args.key c.args.writes.now c.in-Err.field-0 c.in-Err.ensures.absent)
