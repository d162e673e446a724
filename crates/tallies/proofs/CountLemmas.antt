-- One answer more is counted, and one part less is left.
use Rattle.std.proofs.Common.{◌≡◌, ◌≤◌, ◌<◌, ◌+◌, ◌*◌, ℕ, ap, arith}
use Rattle.tallies.specs.declared.counts.Counts.{Counts}
use Rattle.tallies.specs.declared.kinds.AnswerKind.{AnswerKind}
use Rattle.tallies.specs.declared.kinds.AnswerKind.TheVariants.{Committed, Read, Cancelled, Conflict, Stale, Repeated, Other}
use Rattle.tallies.specs.declared.ledgers.TheConstants.{GRANT}
use Rattle.tallies.specs.Counted.{AreBelow, AreWithin, each, no_counts, one_more, sum_of}
use Rattle.tallies.specs.Tallies.{parts_of}

-- at least one of each kind, so one of any kind
within : (left : Counts) (kind : AnswerKind) → AreWithin left (each 1) → AreWithin left (one_more kind no_counts)
within left Committed all = record { committed = all.committed; read = omega arith; cancelled = omega arith; conflict = omega arith; stale = omega arith; repeated = omega arith; other = omega arith }
within left Read all = record { committed = omega arith; read = all.read; cancelled = omega arith; conflict = omega arith; stale = omega arith; repeated = omega arith; other = omega arith }
within left Cancelled all = record { committed = omega arith; read = omega arith; cancelled = all.cancelled; conflict = omega arith; stale = omega arith; repeated = omega arith; other = omega arith }
within left Conflict all = record { committed = omega arith; read = omega arith; cancelled = omega arith; conflict = all.conflict; stale = omega arith; repeated = omega arith; other = omega arith }
within left Stale all = record { committed = omega arith; read = omega arith; cancelled = omega arith; conflict = omega arith; stale = all.stale; repeated = omega arith; other = omega arith }
within left Repeated all = record { committed = omega arith; read = omega arith; cancelled = omega arith; conflict = omega arith; stale = omega arith; repeated = all.repeated; other = omega arith }
within left Other all = record { committed = omega arith; read = omega arith; cancelled = omega arith; conflict = omega arith; stale = omega arith; repeated = omega arith; other = all.other }

room : (threads left counted : ℕ) → 1 ≤ threads → counted < GRANT → left + counted ≡ threads * GRANT → 1 ≤ left
room threads left counted some below sum = omega (arith, some, below, sum)

-- a part of each kind's ledger is left where a thread may count more
pub one_left : (threads : ℕ) (left counts : Counts) (kind : AnswerKind) → 1 ≤ threads → AreBelow GRANT counts → sum_of left counts ≡ parts_of threads
    → AreWithin left (one_more kind no_counts)
one_left threads left counts kind some below sum = within left kind (record {
  committed = room threads left.committed counts.committed some below.committed (ap (λ (c : Counts). c.committed) sum);
  read = room threads left.read counts.read some below.read (ap (λ (c : Counts). c.read) sum);
  cancelled = room threads left.cancelled counts.cancelled some below.cancelled (ap (λ (c : Counts). c.cancelled) sum);
  conflict = room threads left.conflict counts.conflict some below.conflict (ap (λ (c : Counts). c.conflict) sum);
  stale = room threads left.stale counts.stale some below.stale (ap (λ (c : Counts). c.stale) sum);
  repeated = room threads left.repeated counts.repeated some below.repeated (ap (λ (c : Counts). c.repeated) sum);
  other = room threads left.other counts.other some below.other (ap (λ (c : Counts). c.other) sum);
})

same : (a0 a1 a2 a3 a4 a5 a6 b0 b1 b2 b3 b4 b5 b6 : ℕ) → a0 ≡ b0 → a1 ≡ b1 → a2 ≡ b2 → a3 ≡ b3 → a4 ≡ b4 → a5 ≡ b5 → a6 ≡ b6 → ◌≡◌ {A = Counts} (record { committed = a0; read = a1; cancelled = a2; conflict = a3; stale = a4; repeated = a5; other = a6 }) (record { committed = b0; read = b1; cancelled = b2; conflict = b3; stale = b4; repeated = b5; other = b6 })
same a0 a1 a2 a3 a4 a5 a6 b0 b1 b2 b3 b4 b5 b6 e0 e1 e2 e3 e4 e5 e6 = cc

-- a part that is taken and an answer that is counted
pub exchanged : (left counts : Counts) (kind : AnswerKind) → sum_of left (one_more kind counts) ≡ sum_of (sum_of left (one_more kind no_counts)) counts
exchanged left counts Committed = same _ _ _ _ _ _ _ _ _ _ _ _ _ _ (omega arith) (omega arith) (omega arith) (omega arith) (omega arith) (omega arith) (omega arith)
exchanged left counts Read = same _ _ _ _ _ _ _ _ _ _ _ _ _ _ (omega arith) (omega arith) (omega arith) (omega arith) (omega arith) (omega arith) (omega arith)
exchanged left counts Cancelled = same _ _ _ _ _ _ _ _ _ _ _ _ _ _ (omega arith) (omega arith) (omega arith) (omega arith) (omega arith) (omega arith) (omega arith)
exchanged left counts Conflict = same _ _ _ _ _ _ _ _ _ _ _ _ _ _ (omega arith) (omega arith) (omega arith) (omega arith) (omega arith) (omega arith) (omega arith)
exchanged left counts Stale = same _ _ _ _ _ _ _ _ _ _ _ _ _ _ (omega arith) (omega arith) (omega arith) (omega arith) (omega arith) (omega arith) (omega arith)
exchanged left counts Repeated = same _ _ _ _ _ _ _ _ _ _ _ _ _ _ (omega arith) (omega arith) (omega arith) (omega arith) (omega arith) (omega arith) (omega arith)
exchanged left counts Other = same _ _ _ _ _ _ _ _ _ _ _ _ _ _ (omega arith) (omega arith) (omega arith) (omega arith) (omega arith) (omega arith) (omega arith)
