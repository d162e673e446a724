use Rattle.std.proofs.Common.{◌∙◌}
use Rattle.plain_runner.proofs.ListedLemmas.{listed_map, listed_order}
use Rattle.plain_replayer.proofs.rows.RowList.from_rows.Goals as goal

pub invariant_of-result : goal.invariant_of-result
invariant_of-result g c = listed_order _ c.in_ok-from_rows.field-0 c.in_ok-rows.ensures

pub returns : goal.returns
returns g c = listed_map _ c.in_ok-from_rows.field-0 c.in_ok-rows.ensures ∙ c.in_ok-from_rows.ensures
