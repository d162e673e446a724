use Rattle.schema.proofs.SplitLemmas.{inside_look, in_look}
use Rattle.schema.proofs.ShareLemmas.{one_covers, covers_by_one}
use Rattle.schema.proofs.laws.looks.looks_cover_from_lo_to_hi.Goals as goal

pub returns-clause-one : goal.returns-clause-one
returns-clause-one c = λ look k. (inside_look look k, λ at. in_look look k at.0 at.1 at.2)

pub returns-clause-list : goal.returns-clause-list
returns-clause-list c = λ looks k. (one_covers looks k, covers_by_one looks k)
