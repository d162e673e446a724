use Rattle.std.proofs.Common.{None}
use Rattle.txn_view.proofs.SeenLemmas.{if_ok}
use Rattle.txn_view.proofs.ViewLemmas.{written}
use Rattle.txn_view.proofs.view.View.remove.Goals as goal

pub returns-clause-written : goal.returns-clause-written
returns-clause-written g c = λ s v. if_ok c.remove.result (λ _ e. written c.remove.new.self (c.args.table, c.args.key) None c.after_one_more_write.ensures.more e v) c.remove.ensures.written
