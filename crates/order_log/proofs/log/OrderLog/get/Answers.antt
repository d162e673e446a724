use Rattle.std.proofs.Common.{rules, ◌≡◌, ◌++◌, ◌∷◌, [], subst, IsTrue, List}
use Rattle.log_entry.specs.declared.entry.Entry.{Entry as LogEntry}
use Rattle.order_log.specs.Facts.{HasFact}
use Rattle.order_log.proofs.Facts.{fact_after}
use Rattle.order_log.proofs.log.OrderLog.get.Goals as goal

pub of-requires : goal.of-requires
of-requires g c = (c.in_ok-entry.entry.now, c.in_ok-entry.ensures.value.0)

pub returns-clause-fact : goal.returns-clause-fact
returns-clause-fact g c =
    let e = c.in_ok-entry.entry.now in
    let before = c.args.seen.now in
    let same : c.push.new.self ≡ before ++ e ∷ [] = cc (c.in_ok-entry.ensures.value.0) in
    let speaks : IsTrue c.speaks_of-speaks.result = search rules in
    fact_after g.F.Fact.shows before e (subst (λ (xs : List (LogEntry g.row.A.Denot)). HasFact g.F.Fact.shows xs) same (c.speaks_of-speaks.ensures speaks))
