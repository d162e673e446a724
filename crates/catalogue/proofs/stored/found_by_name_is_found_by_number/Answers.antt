use Rattle.catalogue.proofs.StoredLemmas.{found_is_numbered}
use Rattle.catalogue.proofs.stored.found_by_name_is_found_by_number.Goals as goal

pub returns : goal.returns
returns c = found_is_numbered
