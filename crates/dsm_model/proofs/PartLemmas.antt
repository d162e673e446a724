-- What a change of one call or replica leaves, and that there are worlds.
use Rattle.std.proofs.Common.{false, ◌≡◌, inl, ℕ, zero, suc, ◌+◌, ◌≤◌, ◌<◌, List, [], ◌∷◌, ◌++◌, length, replicate, slice_get, slice_set, Option, Some, None, IsSome, refl, ap, ◌∙◌, arith}
use Rattle.log_model.specs.declared.request.RequestId.{RequestId}
use Rattle.dsm_model.specs.declared.outcome.Outcome.{Outcome}
use Rattle.dsm_model.specs.declared.outcome.Outcome.TheVariants.{Begun}
use Rattle.log_model.specs.Log.{Setting}
use Rattle.dsm_model.specs.World.{World, Replica, Step, Begin, numbered, with_numbered, flatten, open_call, with_open_call, with_replica, first_world, after_step, IsStep, AreSteps}
use Rattle.log_model.specs.OpenCall.{OpenCall}
use Rattle.log_model.proofs.RunLemmas.{just}
use Rattle.dsm_model.proofs.Numbered.{get_last}
use Rattle.dsm_model.proofs.StepLemmas.{begins}

set_here : {X : Type 0} (xs : List X) (k : ℕ) (x : X) → IsSome (slice_get xs k) → slice_get (slice_set xs k x) k ≡ just x
set_here [] k x there = absurd cc
set_here (y ∷ xs) zero x there = refl
set_here (y ∷ xs) (suc k) x there = set_here xs k x there

pub here : {X : Type 0} (xs : List X) (k : ℕ) (x : X) → IsSome (numbered xs k) → numbered (with_numbered xs k x) k ≡ just x
here xs zero x there = absurd cc
here xs (suc k) x there = set_here xs k x there

set_elsewhere : {X : Type 0} (xs : List X) (k j : ℕ) (x : X) → (j ≡ k → ⊥) → slice_get (slice_set xs k x) j ≡ slice_get xs j
set_elsewhere [] k j x apart = refl
set_elsewhere (y ∷ xs) zero zero x apart = absurd (apart refl)
set_elsewhere (y ∷ xs) zero (suc j) x apart = refl
set_elsewhere (y ∷ xs) (suc k) zero x apart = refl
set_elsewhere (y ∷ xs) (suc k) (suc j) x apart = set_elsewhere xs k j x (λ e. apart (ap suc e))

elsewhere : {X : Type 0} (xs : List X) (k j : ℕ) (x : X) → (j ≡ k → ⊥) → numbered (with_numbered xs k x) j ≡ numbered xs j
elsewhere xs zero j x apart = refl
elsewhere xs (suc k) zero x apart = refl
elsewhere xs (suc k) (suc j) x apart = set_elsewhere xs k j x (λ e. apart (ap suc e))

pub call_here : (world : World) (c : ℕ) (o : Option OpenCall) → IsSome (numbered world.calls c) → numbered (with_open_call world c o).calls c ≡ Some o
call_here world c o there = here world.calls c o there

pub call_elsewhere : (world : World) (c d : ℕ) (o : Option OpenCall) → (d ≡ c → ⊥) → numbered (with_open_call world c o).calls d ≡ numbered world.calls d
call_elsewhere world c d o apart = elsewhere world.calls c d o apart

pub replica_here : (world : World) (r : ℕ) (replica : Replica) → IsSome (numbered world.replicas r) → numbered (with_replica world r replica).replicas r ≡ Some replica
replica_here world r replica there = here world.replicas r replica there

pub replica_elsewhere : (world : World) (r q : ℕ) (replica : Replica) → (q ≡ r → ⊥) → numbered (with_replica world r replica).replicas q ≡ numbered world.replicas q
replica_elsewhere world r q replica apart = elsewhere world.replicas r q replica apart

pub rest_stays : (world : World) (c r : ℕ) (o : Option OpenCall) (replica : Replica)
    → ((with_open_call world c o).log ≡ world.log) × ((with_open_call world c o).replicas ≡ world.replicas) × ((with_replica world r replica).log ≡ world.log) × ((with_replica world r replica).calls ≡ world.calls)
rest_stays world c r o replica = (refl, refl, refl, refl)

pub begun_is_open : (w : Setting) (before : World) (r procedure : ℕ) (args : List ℕ) (request : Option RequestId) (c snapshot : ℕ) (after : World) → IsStep w before (Begin r procedure args request) (Begun c snapshot) after
    → open_call after c ≡ Some (record { replica = r; call = record { number = c; procedure = procedure; args = args; snapshot = snapshot; request = request }; turns = 0 })
begun_is_open w before r procedure args request c snapshot after h =
    let x = begins w before r procedure args request c snapshot after h in
    let number : c ≡ suc (length before.calls) = (let n = x.7 in omega arith) in
    let new : Option OpenCall = just (record { replica = r; call = record { number = c; procedure = procedure; args = args; snapshot = snapshot; request = request }; turns = 0 }) in
    ap (λ (v : World). open_call v c) x.9 ∙ ap (λ (n : ℕ). flatten (numbered (before.calls ++ new ∷ []) n)) number ∙ ap flatten (get_last before.calls new)

get_replica : (n k : ℕ) (replica : Replica) → k < n → slice_get (replicate n replica) k ≡ just replica
get_replica zero k replica lt = absurd (omega arith)
get_replica (suc n) zero replica lt = refl
get_replica (suc n) (suc k) replica lt = get_replica n k replica (omega arith)

no_replica : (n k : ℕ) (replica : Replica) → n ≤ k → slice_get (replicate n replica) k ≡ None
no_replica zero k replica le = refl
no_replica (suc n) zero replica le = absurd (omega arith)
no_replica (suc n) (suc k) replica le = no_replica n k replica (omega arith)

one_more : (k : ℕ) → k + 1 ≡ suc k
one_more k = omega arith

pub first_replicas : (n k : ℕ) → k < n → numbered (first_world n).replicas (k + 1) ≡ Some (record { position = 0; stopped = false })
first_replicas n k lt = ap (numbered (first_world n).replicas) (one_more k) ∙ get_replica n k (record { position = 0; stopped = false }) lt

pub no_more_replicas : (n k : ℕ) → n ≤ k → numbered (first_world n).replicas (k + 1) ≡ None
no_more_replicas n k le = ap (numbered (first_world n).replicas) (one_more k) ∙ no_replica n k (record { position = 0; stopped = false }) le

pub nothing_yet : (n : ℕ) → ((first_world n).log ≡ []) × ((first_world n).calls ≡ [])
nothing_yet n = (refl, refl)

pub steps_lead_on : (w : Setting) (before : World) (steps : List Step) → (outcomes : List Outcome) × (after : World) × AreSteps w before steps outcomes after
unfolding AreSteps
steps_lead_on w before [] = ([], before, refl)
steps_lead_on w before (step ∷ steps) =
    let d = after_step w before step in
    let rest = steps_lead_on w d.1 steps in
    (d.0 ∷ rest.0, rest.1, (d.1, inl refl, rest.2))
