use Rattle.std.proofs.Common.{sym, subst}
use Rattle.catalogue.specs.Stored.{AreStored, listed}
use Rattle.catalogue.proofs.StoredLemmas.{none_stored}
use Rattle.catalogue.proofs.procedures.StoredProcedures.new.Goals as goal

pub invariant_of-result : goal.invariant_of-result
invariant_of-result g c = subst (λ held. AreStored (listed held)) (sym c.new.ensures.empty) none_stored
