use Rattle.std.proofs.Common.{◌∙◌, sym, option_map}
use Rattle.txn_view.proofs.SeenLemmas.{if_ok}
use Rattle.txn_view.proofs.seen.row_seen.Goals as goal

pub returns-in-Some-clause-found : goal.returns-in-Some-clause-found
returns-in-Some-clause-found g c = λ rows a. sym (c.row_at_after_writes.ensures.written c.args.writes.now rows (c.args.table, c.args.key) (option_map (λ row. row.now) c.in-Some.write) (sym c.in-Some.ensures))

pub returns-in-None-clause-found : goal.returns-in-None-clause-found
returns-in-None-clause-found g c = λ rows a. if_ok c.get-in-None.result (λ found e. e ∙ sym (c.row_at_after_writes.ensures.others c.args.writes.now rows (c.args.table, c.args.key) (sym c.in-None.ensures))) (c.get-in-None.ensures.found rows a)
