use Rattle.std.proofs.Common.{sym, subst}
use Rattle.log_model.specs.Log.{Setting}
use Rattle.locked_replica.specs.Locked.{Keeps}
use Rattle.locked_replica.proofs.LockedLemmas.{with_entries, keeps_none}
use Rattle.locked_replica.proofs.locked.LockedReplica.new.Goals as goal
use Rattle.catalogue.specs.Catalogue.{system_setting}

pub invariant_of-result : goal.invariant_of-result
invariant_of-result g c =
    let r = c.in_ok-new.field-0 in
    subst (λ (w : Setting). Keeps w (with_entries r c.new-2.result)) (sym c.requires)
    (keeps_none (system_setting c.args.catalogue.now c.args.window) r c.new-2.result c.new-2.ensures
    c.each_catalogue_is_consistent.ensures.tables (c.catalogues_are_safe.ensures c.args.window)
    (record { delivered = c.in_ok-new.ensures.stands; window = c.in_ok-new.ensures.window; tables = c.in_ok-new.ensures.tables; procedures = c.in_ok-new.ensures.for_tables }))
