use Rattle.std.proofs.Common.{◌≡◌, ℕ, ◌<◌, slice_get, Some}
use Rattle.replica.specs.Replica.{Replica}
use Rattle.catalogue.specs.Stored.{AreStored}
use Rattle.script_replay.proofs.laws.procedures_are_stored.Given as goal

-- those that were looked at
abbrev pub invariant-loop-replica : goal.invariant-loop-replica
invariant-loop-replica g l = (k : ℕ) (r : Replica) → k < l.replica-index → slice_get l.replicas k ≡ Some r → AreStored r.procedures
