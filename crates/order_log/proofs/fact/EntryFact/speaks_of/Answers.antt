use Rattle.std.proofs.Common.{◌≡◌, List, length, subst, arith}
use Rattle.log_entry.specs.declared.entry.Entry.{Entry as LogEntry}
use Rattle.order_log.specs.Facts.{HasFact}
use Rattle.order_log.proofs.Facts.{same_list}
use Rattle.order_log.proofs.fact.EntryFact.speaks_of.Goals as goal

pub returns : goal.returns
returns g c told =
    let mine = c.self.inside.seen in
    let a = c.len.ensures in
    let b = c.len-2.ensures in
    let same : length mine ≡ length c.args.seen.now = omega arith in
    subst (λ (xs : List (LogEntry g.row.A.Denot)). HasFact g.F.Fact.shows xs) (same_list mine c.args.seen.now (c.agrees.ensures (omega arith)) same) c.self.invariant
