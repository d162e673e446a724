-- What a begin finds at a replica.
use Rattle.std.proofs.Common.{◌≡◌, ◌<◌, ◌+◌, ℕ, List, length, get_or, slice_get, Option, Some, Result, option_map, ap, sym, ◌∙◌, arith}
use Rattle.bpf_verify.specs.Flow.{Procedure}
use Rattle.catalogue.specs.Catalogue.{accepted_of}
use Rattle.catalogue.specs.Stored.{ListedProcedure, listed_by_number, stored_procedures}
use Rattle.log_model.specs.declared.request.RequestId.{RequestId}
use Rattle.log_model.specs.declared.refusal.CallRefusal.{CallRefusal}
use Rattle.log_model.specs.Log.{Catalogue, StoredProcedure, by_number, procedures_after}
use Rattle.log_model.specs.Admission.{admission}
use Rattle.dsm_model.specs.World.{numbered}
use Rattle.replica.specs.Replica.{Replica}
use Rattle.world_calls.specs.declared.open_call.OpenCall.{OpenCall as OpenCallState}
use Rattle.dsm_world.specs.System.{SystemWorld, setting_of, progress_of, world_of}
use Rattle.dsm_world.specs.Together.{IsTogether}
use Rattle.dsm_world.proofs.ReplicaLemmas.{ProceduresFollow, found_at, get_is, in_procedures, known, procedures_held, replica_at}

-- the replica of a number, and what its procedures say of a call, which is what those of the log say at its position
pub record Found (s : SystemWorld) (replica : ℕ) (old : Replica) (procedures : List ListedProcedure) (procedure : ℕ) (args : List ℕ) (request : Option RequestId) : Type 0 where
  pub at : ℕ
  pub there : slice_get s.replicas at ≡ Some old
  pub place : replica ≡ at + 1
  pub stands : numbered (world_of s).replicas replica ≡ Some (progress_of old)
  pub answered : (answer : Result StoredProcedure CallRefusal) → admission args request (by_number (stored_procedures procedures) procedure) ≡ answer
      → admission args request (by_number (procedures_after (setting_of s) (world_of s).log old.position) procedure) ≡ answer
  pub program : (accepted : Procedure) → Some accepted ≡ option_map (λ (l : ListedProcedure). l.accepted) (listed_by_number procedures procedure)
      → (p : StoredProcedure) × (by_number (procedures_after (setting_of s) (world_of s).log old.position) procedure ≡ Some p) × (accepted ≡ accepted_of s.catalogue.tables p)

pub find : {A : Type 0} (s : SystemWorld) (slots : List (Option (OpenCallState A))) (replica at n : ℕ) (old : Replica) (procedures : List ListedProcedure) (procedure : ℕ) (args : List ℕ) (request : Option RequestId)
    → ProceduresFollow → IsTogether s slots → replica ≡ at + 1 → at < n → n ≡ length s.replicas → old ≡ get_or s.replicas at old → procedures ≡ old.procedures → Found s replica old procedures procedure args request
find s slots replica at n old procedures procedure args request law h place lt count index held =
    let there = get_is s.replicas at old (omega arith) index in
    record {
      at = at;
      there = there;
      place = place;
      stands = replica_at s replica at old place there;
      answered = λ answer e. ap (λ (ps : Catalogue). admission args request (by_number ps procedure)) (sym (ap stored_procedures held ∙ procedures_held s slots at old law h there)) ∙ e;
      program = λ accepted e.
          known (accepted_of s.catalogue.tables) (by_number (procedures_after (setting_of s) (world_of s).log old.position) procedure) accepted
          (e ∙ in_procedures procedure procedures old.procedures held ∙ found_at s slots at procedure old law h there);
    }
