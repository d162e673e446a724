use Rattle.std.proofs.lemmas.List.{length-map}
use Rattle.log_model.specs.Entries.{item_of, items_of}
use Rattle.site_model.proofs.StandingLemmas.{placed, carried, item}
use Rattle.site_model.proofs.laws.what_stands_is_of_the_log.Goals as goal

pub returns-clause-placed : goal.returns-clause-placed
returns-clause-placed c s known entries bytes = placed s known (items_of entries) bytes _ (length-map entries item_of)

pub returns-clause-carried : goal.returns-clause-carried
returns-clause-carried c s known entries bytes = carried s known (items_of entries) bytes

pub returns-clause-fits : goal.returns-clause-fits
returns-clause-fits c s known entries bytes are safe = item s known (items_of entries) bytes are safe
