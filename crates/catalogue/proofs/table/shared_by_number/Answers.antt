use Rattle.std.proofs.Common.{Some, ap, ◌∙◌}
use Rattle.catalogue.proofs.StoredLemmas.{held_as}
use Rattle.catalogue.proofs.table.shared_by_number.Goals as goal

pub returns-in_ok-shared-in-Some : goal.returns-in_ok-shared-in-Some
returns-in_ok-shared-in-Some g c =
    ap Some c.in_ok-shared-in-Some.ensures ∙ held_as c.args.number c.args.table.now.entries _ c.in-Some.ensures.value

pub returns-in-None : goal.returns-in-None
returns-in-None g c =
    held_as c.args.number c.args.table.now.entries _ c.in-None.ensures.value
