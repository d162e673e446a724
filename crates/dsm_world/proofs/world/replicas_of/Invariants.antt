use Rattle.std.proofs.Common.{false, ◌≡◌, ℕ, [], length, slice_get, Some}
use Rattle.replica.specs.Replica.{Replica}
use Rattle.dsm_world.specs.System.{progress_of}
use Rattle.dsm_world.specs.Together.{IsReplicaOf}
use Rattle.dsm_world.proofs.world.replicas_of.Given as goal

abbrev pub invariant-loop : goal.invariant-loop
invariant-loop g l = record {
  counted : length l.replicas.items ≡ l.counter;
  each : (k : ℕ) (r : Replica) → slice_get l.replicas.items k ≡ Some r → IsReplicaOf l.catalogue l.window [] r;
  fresh : (k : ℕ) (r : Replica) → slice_get l.replicas.items k ≡ Some r → progress_of r ≡ record { position = 0; stopped = false };
}
