use Rattle.txn_view.proofs.ViewLemmas.{looked_at_range, not_ranged}
use Rattle.txn_view.proofs.read.count_rows.Goals as goal

pub returns-in_ok-add_range-clause-looked : goal.returns-in_ok-add_range-clause-looked
returns-in_ok-add_range-clause-looked g c = λ s v. looked_at_range _ c.args.look.table c.args.look.lo c.args.look.hi c.args.look.hi c.if-look.true c.in_ok-add_range.ensures.added v

pub returns-else-look-clause-looked : goal.returns-else-look-clause-looked
returns-else-look-clause-looked g c = λ s v. not_ranged c.args.look.table c.args.look.lo c.args.look.hi c.args.look.hi c.if-look.false v
