use Rattle.std.proofs.Common.{sym, ◌∙◌}
use Rattle.test_replicas.proofs.versions.CheckedVersions.install.Goals as goal

pub prepare-requires : goal.prepare-requires
prepare-requires g c =
    (c.tables_take_the_schemas_writes.ensures.fit c.self.inside.schema.now c.self.inside.versions c.args.writes.now c.self.invariant (c.writes_fit.ensures c.if-not-writes_fit.false)).tables

pub install-requires-clause-row_widths : goal.install-requires-clause-row_widths
install-requires-clause-row_widths g c = λ k row e.
    (c.tables_take_the_schemas_writes.ensures.fit c.self.inside.schema.now c.self.inside.versions c.args.writes.now c.self.invariant (c.writes_fit.ensures c.if-not-writes_fit.false)).widths k row e
    ∙ sym (c.in_ok-prepare.ensures.widths k.0)
