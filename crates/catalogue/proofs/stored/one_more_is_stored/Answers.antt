use Rattle.catalogue.proofs.StoredLemmas.{one_more_stored}
use Rattle.catalogue.proofs.stored.one_more_is_stored.Goals as goal

pub returns : goal.returns
returns c = one_more_stored
