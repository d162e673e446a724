use Rattle.std.proofs.Common.{subst}
use Rattle.schema.specs.Schema.{Tables}
use Rattle.schema.specs.Rows.{AreWrites}
use Rattle.log_entry.specs.Kind.{entry_of}
use Rattle.replica.specs.Replica.{writes_in}
use Rattle.test_replicas.proofs.checked.CheckedReplica.deliver.Goals as goal

pub deliver-requires-clause-fit : goal.deliver-requires-clause-fit
deliver-requires-clause-fit g c =
    c.tables_take_the_schemas_writes.ensures.fit c.self.inside.catalogue.now.tables c.self.inside.replica.versions (writes_in (entry_of c.args.entry.now)) c.self.invariant
    (subst (λ (t : Tables). AreWrites t (writes_in (entry_of c.args.entry.now))) c.schema.ensures.tables (c.entry_fits.ensures.writes c.if-not-entry_fits.false))
