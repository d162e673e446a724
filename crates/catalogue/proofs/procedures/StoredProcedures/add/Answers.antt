use Rattle.std.proofs.Common.{List, ap, ◌∙◌}
use Rattle.log_model.specs.Log.{by_number}
use Rattle.catalogue.specs.Stored.{ListedProcedure, listed, stored_procedures}
use Rattle.catalogue.proofs.StoredLemmas.{none_listed}
use Rattle.catalogue.proofs.procedures.StoredProcedures.add.Goals as goal

pub enter-requires : goal.enter-requires
enter-requires g c = none_listed c.args.number (listed c.self.inside.table.entries)
    (ap (λ (procedures : List ListedProcedure). by_number (stored_procedures procedures) c.args.number) c.self.view_is ∙ c.requires.unnumbered)
