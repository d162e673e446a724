use Rattle.std.proofs.Common.{◌∙◌, ap}
use Rattle.std.specs.Prelude.{unwrap_or}
use Rattle.std.specs.FinMap.{get}
use Rattle.schema.proofs.RowsLemmas.{get-after_writes}
use Rattle.schema.proofs.laws.writes.row_at_after_writes.Goals as goal

pub returns-clause-written : goal.returns-clause-written
returns-clause-written c = λ writes rows k write is. get-after_writes writes rows k ∙ ap (λ w. unwrap_or w (get rows k)) is

pub returns-clause-others : goal.returns-clause-others
returns-clause-others c = λ writes rows k is. get-after_writes writes rows k ∙ ap (λ w. unwrap_or w (get rows k)) is
