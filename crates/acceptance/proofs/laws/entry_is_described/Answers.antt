use Rattle.acceptance.proofs.Entry.{entry_described}
use Rattle.acceptance.proofs.laws.entry_is_described.Goals as goal

pub returns-clause-described : goal.returns-clause-described
returns-clause-described c = entry_described
