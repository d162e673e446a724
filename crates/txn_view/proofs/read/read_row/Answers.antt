use Rattle.std.proofs.Common.{◌∙◌, sym, subst}
use Rattle.bpf_semantics.specs.Helpers.{with_point_look}
use Rattle.txn_view.specs.View.{IsReadOf}
use Rattle.txn_view.proofs.ViewLemmas.{looked_at_key, not_looked}
use Rattle.txn_view.proofs.read.read_row.Goals as goal
use Rattle.txn_view.proofs.read.read_row.Goals.{then-not-contains+in_ok-add_point, else-not-contains}

pub returns-clause-looked : goal.returns-clause-looked
returns-clause-looked g c = λ s v. elim c.if-not-contains.branch [
  | then-not-contains+in_ok-add_point w ↦ looked_at_key c.if-not-contains.looks c.args.table c.args.key (sym c.contains.ensures ∙ w.if-not-contains.true) (w.looks-is ∙ w.in_ok-add_point.ensures.added) v
  | else-not-contains w ↦ subst (λ looks. IsReadOf (g.S.Store.answers_from c.args.store.now) looks c.args.writes.now (with_point_look c.args.table c.args.key s)) (sym w.looks-is) (not_looked c.args.table c.args.key (sym c.contains.ensures ∙ w.if-not-contains.false) v)
]
