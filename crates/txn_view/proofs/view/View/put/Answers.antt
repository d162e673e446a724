use Rattle.std.proofs.Common.{Some}
use Rattle.txn_view.proofs.SeenLemmas.{if_ok}
use Rattle.txn_view.proofs.ViewLemmas.{written}
use Rattle.txn_view.proofs.view.View.put.Goals as goal

pub returns-clause-written : goal.returns-clause-written
returns-clause-written g c = λ s v. if_ok c.put.result (λ _ e. written c.put.new.self (c.args.table, c.args.key) (Some c.args.bytes.now) c.after_one_more_write.ensures.more e v) c.put.ensures.written
