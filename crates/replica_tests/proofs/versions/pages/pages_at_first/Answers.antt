use Rattle.std.proofs.Common.{subst, sym}
use Rattle.schema.specs.Schema.{Tables}
use Rattle.schema.specs.Rows.{AreRows}
use Rattle.replica_tests.proofs.versions.pages.pages_at_first.Goals as goal

pub beginning_with-versions-requires : goal.beginning_with-versions-requires
beginning_with-versions-requires g c = subst (λ (m : Tables). AreRows m c.rows.result.now) (sym c.schema.ensures.tables) c.rows.ensures.tables
