use Rattle.std.proofs.Common.{◌∙◌, ap, sym}
use Rattle.plain_runner.specs.Listed.{rows_of}
use Rattle.plain_replayer.proofs.RowLemmas.{rows_of-entries}
use Rattle.plain_replayer.proofs.rows.RowList.as_slice.Goals as goal

pub returns-clause-rows : goal.returns-clause-rows
returns-clause-rows g c = ap rows_of (c.deref.ensures.value ∙ sym c.self.invariant) ∙ rows_of-entries _ ∙ c.self.view_is
