use Rattle.std.proofs.Common.{◌≡◌, sym, subst}
use Rattle.rows_mv.specs.Versions.{HaveTables}
use Rattle.replica.specs.Replica.{Replica}
use Rattle.test_replicas.proofs.FitLemmas.{either_way}
use Rattle.test_replicas.proofs.checked.CheckedReplica.rebuild.Goals as goal

pub invariant_of-self : goal.invariant_of-self
invariant_of-self g c =
    let tables = c.self.inside.catalogue.now.tables in
    either_way c.rebuild.result (HaveTables tables c.rebuild.new.self.versions.tables) (c.rebuild.new.self ≡ c.self.inside.replica) (HaveTables tables c.rebuild.new.self.versions.tables)
    (λ kept. kept)
    (λ same. subst (λ (r : Replica). HaveTables tables r.versions.tables) (sym same) c.self.invariant)
    c.rebuild.ensures.tables
    c.rebuild.ensures.unchanged
