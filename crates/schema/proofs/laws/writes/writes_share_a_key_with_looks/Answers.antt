use Rattle.schema.proofs.ShareLemmas.{shared, shares, apart, shares_none}
use Rattle.schema.proofs.laws.writes.writes_share_a_key_with_looks.Goals as goal

pub returns-clause-shared : goal.returns-clause-shared
returns-clause-shared c = λ looks writes. (shared looks writes, λ at. shares looks writes at.0 at.1 at.2)

pub returns-clause-none : goal.returns-clause-none
returns-clause-none c = λ looks writes. (apart looks writes, shares_none looks writes)
