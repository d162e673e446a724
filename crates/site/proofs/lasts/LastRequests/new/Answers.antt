use Rattle.site.proofs.LastLemmas.{none_is}
use Rattle.site.proofs.lasts.LastRequests.new.Goals as goal

pub returns : goal.returns
returns g c = none_is c.new.result.entries c.new.ensures.empty
