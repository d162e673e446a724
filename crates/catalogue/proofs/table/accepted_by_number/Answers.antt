use Rattle.std.proofs.Common.{Some, ap, ◌∙◌}
use Rattle.catalogue.proofs.StoredLemmas.{held_as}
use Rattle.catalogue.proofs.table.accepted_by_number.Goals as goal

pub returns-in-Some : goal.returns-in-Some
returns-in-Some g c =
    ap Some c.accepted.ensures ∙ held_as c.args.number c.args.table.now.entries _ c.in-Some.ensures.value

pub returns-in-None : goal.returns-in-None
returns-in-None g c =
    held_as c.args.number c.args.table.now.entries _ c.in-None.ensures.value
