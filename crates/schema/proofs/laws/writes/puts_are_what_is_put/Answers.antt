use Rattle.std.proofs.Common.{◌∙◌, sym, ap}
use Rattle.std.specs.Prelude.{None, unwrap_or}
use Rattle.std.specs.FinMap.{get}
use Rattle.schema.proofs.RowsLemmas.{get-puts, put_at}
use Rattle.schema.proofs.laws.writes.puts_are_what_is_put.Goals as goal

pub returns : goal.returns
returns c = λ writes k bytes. (
  λ is. put_at (get writes k) bytes (sym (get-puts writes k) ∙ is),
  λ is. get-puts writes k ∙ ap (λ w. unwrap_or w None) is,
)
