-- Tallies and the names of ledgers, as contracts see them.
use Rattle.std.specs.Prelude.{ℕ, zero, suc, ◌*◌}
use Rattle.tallies.specs.declared.counts.Counts.{Counts}
use Rattle.tallies.specs.declared.ledgers.TheConstants.{GRANT}
use Rattle.tallies.specs.Counted.{each}

-- for how many threads a tally counts, and what was counted
pub record Tallied : Type 0 where
  pub threads : ℕ
  pub counts : Counts

-- the parts of each kind's ledger that a number of threads begin with
abbrev pub parts_of : ℕ → Counts
parts_of threads = each (threads * GRANT)

-- the names of the ledgers, by what they count
pub record Names : Type 0 where
  pub committed : ℕ
  pub read : ℕ
  pub cancelled : ℕ
  pub conflict : ℕ
  pub stale : ℕ
  pub repeated : ℕ
  pub other : ℕ

-- the name at each place: what a run of a program picks for its ledgers
abbrev pub names_by_place : Names → ℕ → ℕ
names_by_place names zero = names.committed
names_by_place names (suc zero) = names.read
names_by_place names (suc (suc zero)) = names.cancelled
names_by_place names (suc (suc (suc zero))) = names.conflict
names_by_place names (suc (suc (suc (suc zero)))) = names.stale
names_by_place names (suc (suc (suc (suc (suc zero))))) = names.repeated
names_by_place names (suc (suc (suc (suc (suc (suc _)))))) = names.other
