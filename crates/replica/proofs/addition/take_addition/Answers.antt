use Rattle.std.proofs.Common.{sym}
use Rattle.log_model.specs.Log.{certified_addition}
use Rattle.catalogue.specs.Stored.{stored, stored_procedures}
use Rattle.replica.proofs.addition.take_addition.Goals as goal

pub returns-clause-memory : goal.returns-clause-memory
returns-clause-memory g c done past stands =
    c.keep.ensures.stands done past (certified_addition (stored_procedures c.args.procedures.now) (stored c.args.added.now)) stands
    (sym c.in_ok-verdict.ensures.verdict) (sym c.in_ok-prepared.ensures.request) c.in_ok-prepared.ensures.keys
