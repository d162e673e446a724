use Rattle.std.proofs.Common.{◌≡◌, ap, sym, subst}
use Rattle.schema.specs.Rows.{AreWrites}
use Rattle.log_entry.specs.Kind.{entry_of}
use Rattle.replica.specs.Replica.{writes_in}
use Rattle.test_replicas.proofs.FitLemmas.{nothing_fits}
use Rattle.test_replicas.proofs.fit.entry_fits.Goals as goal

pub returns-then-is_name-clause-writes : goal.returns-then-is_name-clause-writes
returns-then-is_name-clause-writes g c = λ same.
    subst (λ e. AreWrites c.args.schema.now (writes_in (entry_of e))) (sym c.in-Addition.is) (nothing_fits c.args.schema.now)
