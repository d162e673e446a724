use Rattle.txn_view.proofs.SeenLemmas.{IsCounted}
use Rattle.std.specs.Slice.Iter.{iter_rest}
use Rattle.txn_view.proofs.seen.count_under.Given as goal

abbrev pub invariant-loop-key : goal.invariant-loop-key
invariant-loop-key g l =
    (goal.iterator-loop-key g).can_next l.key-iterator ×
    (goal.iterator-loop-key g).is_finite l.key-iterator ×
    IsCounted (g.S.Store.answers_from l.store) l.fn.look l.writes l.count (iter_rest l.key-iterator)
