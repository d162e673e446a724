use Rattle.std.proofs.Common.{ap}
use Rattle.std.specs.Prelude.{slice_get}
use Rattle.std.specs.FinMap.{entries, len}
use Rattle.schema.proofs.LookLemmas.{rows_in_agree}
use Rattle.schema.proofs.laws.looks.looks_agree.Goals as goal

pub returns-clause-rows : goal.returns-clause-rows
returns-clause-rows c = rows_in_agree

pub returns-clause-count : goal.returns-clause-count
returns-clause-count c = λ look m n agree. ap len (rows_in_agree look m n agree)

pub returns-clause-first : goal.returns-clause-first
returns-clause-first c = λ look m n agree. ap (λ rows. slice_get (entries rows) 0) (rows_in_agree look m n agree)
