use Rattle.std.proofs.Common.{subst}
use Rattle.schema.specs.Rows.{AreRows}
use Rattle.catalogue.specs.Catalogue.{SystemCatalogue}
use Rattle.catalogue.proofs.catalogue.Catalogue.rows.Goals as goal

pub returns-clause-tables : goal.returns-clause-tables
returns-clause-tables g c = subst (λ (v : SystemCatalogue). AreRows v.tables c.self.inside.rows) c.self.view_is c.self.invariant.of_tables
