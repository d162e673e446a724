use Rattle.std.proofs.Common.{ap, ◌∙◌}
use Rattle.catalogue.specs.Stored.{listed}
use Rattle.catalogue.proofs.StoredLemmas.{entered_last, one_more_listed}
use Rattle.catalogue.proofs.table.enter.Goals as goal

pub returns-clause-entered : goal.returns-clause-entered
returns-clause-entered g c =
    ap listed (c.in_ok-insert.ensures.entries ∙ entered_last c.args.table.now c.args.number c.args.named c.requires)
    ∙ one_more_listed c.args.table.now.entries (c.args.number, c.args.named)
