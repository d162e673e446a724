-- Counts of answers by kind.
use Rattle.std.specs.Prelude.{ℕ, ◌+◌, ◌<◌, ◌≤◌}
use Rattle.tallies.specs.declared.counts.Counts.{Counts}
use Rattle.tallies.specs.declared.kinds.AnswerKind.{AnswerKind}
use Rattle.tallies.specs.declared.kinds.AnswerKind.TheVariants.{Committed, Read, Cancelled, Conflict, Stale, Repeated, Other}

-- those of no answers
abbrev pub no_counts : Counts
no_counts =
    record { committed = 0; read = 0; cancelled = 0; conflict = 0; stale = 0; repeated = 0; other = 0 }

-- the same number of each kind
abbrev pub each : ℕ → Counts
each n =
    record { committed = n; read = n; cancelled = n; conflict = n; stale = n; repeated = n; other = n }

-- one more of a kind, and as many of the others
abbrev pub one_more : AnswerKind → Counts → Counts
one_more Committed counts = record counts { committed = counts.committed + 1 }
one_more Read counts = record counts { read = counts.read + 1 }
one_more Cancelled counts = record counts { cancelled = counts.cancelled + 1 }
one_more Conflict counts = record counts { conflict = counts.conflict + 1 }
one_more Stale counts = record counts { stale = counts.stale + 1 }
one_more Repeated counts = record counts { repeated = counts.repeated + 1 }
one_more Other counts = record counts { other = counts.other + 1 }

-- both together, kind by kind
abbrev pub sum_of : Counts → Counts → Counts
sum_of counts more =
    record {
      committed = counts.committed + more.committed;
      read = counts.read + more.read;
      cancelled = counts.cancelled + more.cancelled;
      conflict = counts.conflict + more.conflict;
      stale = counts.stale + more.stale;
      repeated = counts.repeated + more.repeated;
      other = counts.other + more.other;
    }

-- each count is below a bound
pub record AreBelow (bound : ℕ) (counts : Counts) : Type 0 where
  pub committed : counts.committed < bound
  pub read : counts.read < bound
  pub cancelled : counts.cancelled < bound
  pub conflict : counts.conflict < bound
  pub stale : counts.stale < bound
  pub repeated : counts.repeated < bound
  pub other : counts.other < bound

-- of each kind there are no more than of the same kind in `most`
pub record AreWithin (most counts : Counts) : Type 0 where
  pub committed : counts.committed ≤ most.committed
  pub read : counts.read ≤ most.read
  pub cancelled : counts.cancelled ≤ most.cancelled
  pub conflict : counts.conflict ≤ most.conflict
  pub stale : counts.stale ≤ most.stale
  pub repeated : counts.repeated ≤ most.repeated
  pub other : counts.other ≤ most.other
