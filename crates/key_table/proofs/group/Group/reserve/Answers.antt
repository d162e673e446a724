use Rattle.key_table.proofs.GroupLemmas.{sized}
use Rattle.key_table.proofs.group.Group.reserve.Goals as goal

pub returns-clause-size : goal.returns-clause-size
returns-clause-size g c = sized c.reserve.new.pages.items c.reserve.ensures.pages
