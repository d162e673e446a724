use Rattle.std.proofs.Common.{◌∙◌, sym, List, ℕ}
use Rattle.std.specs.FinMap.{empty}
use Rattle.plain_runner.proofs.ListedLemmas.{listed_order}
use Rattle.plain_replayer.proofs.RowLemmas.{no_entries}
use Rattle.plain_replayer.proofs.rows.RowList.new.Goals as goal

pub invariant_of-result : goal.invariant_of-result
invariant_of-result g c = listed_order _ empty (c.new.ensures.items ∙ sym (no_entries (List ℕ)))
