use Rattle.txn_view.proofs.ViewLemmas.{cancelled}
use Rattle.txn_view.proofs.view.View.cancel.Goals as goal

pub returns-clause-cancelled : goal.returns-clause-cancelled
returns-clause-cancelled g c = λ s v. cancelled c.args.code v
