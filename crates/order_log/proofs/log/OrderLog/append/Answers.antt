use Rattle.std.proofs.Common.{◌≡◌, ◌++◌, ◌∷◌, [], subst}
use Rattle.log_entry.specs.declared.entry.Entry.{Entry as LogEntry}
use Rattle.order_log.proofs.Facts.{fact_of_last}
use Rattle.order_log.proofs.log.OrderLog.append.Goals as goal

pub set_fact-requires : goal.set_fact-requires
set_fact-requires g c =
    let e = c.args.entry in
    let old = c.args.seen.now in
    let before = c.loop.seen in
    let now : c.attempt.new.seen ≡ before ++ e ∷ [] = subst (λ (x : LogEntry g.row.A.Denot). c.attempt.new.seen ≡ before ++ x ∷ []) c.loop.invariant.entry c.in-Taken.ensures in
    fact_of_last g.F.Fact.shows old c.loop.invariant.between.0 before c.attempt.new.seen e c.loop.invariant.between.1 now c.loop.invariant.snapshot (c.requires c.loop.invariant.snapshot)
