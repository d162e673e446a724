use Rattle.schema.proofs.OverlayLemmas.{first_after, first_put}
use Rattle.schema.proofs.laws.looks.first_in_after_writes.Goals as goal

pub returns-clause-after : goal.returns-clause-after
returns-clause-after c = first_after

pub returns-clause-put : goal.returns-clause-put
returns-clause-put c = first_put
