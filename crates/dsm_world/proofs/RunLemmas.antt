-- Steps, one after another.
use Rattle.std.proofs.Common.{◌≡◌, ◌≤◌, ◌+◌, ◌-◌, ℕ, zero, suc, false, List, [], ◌∷◌, ◌++◌, length, replicate, map, take, drop, slice_get, Some, Option, refl, sym, ap, subst, ◌∙◌, arith, inl, inr}
use Rattle.std.proofs.lemmas.List.{length-append}
use Rattle.rows_mv.specs.Versions.{AnswersFrom}
use Rattle.log_model.proofs.GrowthLemmas.{rows_grown}
use Rattle.replica.specs.Replica.{Replica, StandsFor, StandsIn, FollowsLog}
use Rattle.dsm_model.specs.declared.outcome.Outcome.{Outcome}
use Rattle.log_model.specs.Log.{Beginning, Catalogue, Setting, Log, rows_after}
use Rattle.log_model.specs.Entries.{Entry, items_of}
use Rattle.catalogue.specs.Catalogue.{SystemCatalogue, system_setting}
use Rattle.log_model.specs.Fit.{BeginsSafely}
use Rattle.dsm_model.specs.World.{World, Replica as ModelReplica, Step, first_world, numbered, IsStep, AreSteps}
use Rattle.world_calls.specs.declared.open_call.OpenCall.{OpenCall as OpenCallState}
use Rattle.dsm_model.specs.Sound.{IsGiven, AreGiven, IsWorld}
use Rattle.dsm_world.specs.declared.step.Step.{Step as GivenStep}
use Rattle.dsm_world.specs.System.{SystemWorld, setting_of, world_of, step_of, progress_of, KeepsDelivered}
use Rattle.dsm_world.specs.Together.{IsReplicaOf, IsTogether}
use Rattle.dsm_world.proofs.Numbered.{get_snoc}
use Rattle.replica.proofs.EntryLemmas.{take_drop, take_count, items_append, items_count}
use Rattle.dsm_world.proofs.CallLemmas.{append_map}
use Rattle.dsm_world.proofs.ReplicaLemmas.{has_reached, ProceduresFollow, procedures_held}

pub steps_snoc : (w : Setting) (before : World) (steps : List Step) (outcomes : List Outcome) (between : World) (step : Step) (outcome : Outcome) (after : World) → AreSteps w before steps outcomes between → IsStep w between step outcome after → AreSteps w before (steps ++ step ∷ []) (outcomes ++ outcome ∷ []) after
unfolding AreSteps
steps_snoc w before [] [] between step outcome after h is = (after, subst (λ (x : World). IsStep w x step outcome after) (sym h) is, refl)
steps_snoc w before [] (o ∷ outcomes) between step outcome after h is = absurd h
steps_snoc w before (s ∷ steps) [] between step outcome after h is = absurd h
steps_snoc w before (s ∷ steps) (o ∷ outcomes) between step outcome after h is = (h.0, h.1, steps_snoc w h.0 steps outcomes between step outcome after h.2 is)

pub no_steps : (w : Setting) (world : World) → AreSteps w world [] [] world
unfolding AreSteps
no_steps w world = refl

-- what the law of replicas says of rows
abbrev pub RowsFollow : Type 0
RowsFollow = (w : Setting) (r : Replica) (entries : List Entry) (s : ℕ) → FollowsLog w r entries → s ≤ r.position → r.position - s ≤ r.window
    → AnswersFrom r.versions.tables s (rows_after w (items_of entries) s)

pub keeps_delivered : {A : Type 0} (s : SystemWorld) (slots : List (Option (OpenCallState A))) (n : ℕ) (r : Replica) → RowsFollow → ProceduresFollow → IsTogether s slots → numbered s.replicas n ≡ Some r → KeepsDelivered s r
keeps_delivered s slots n r law procedures h e = go n e
  where
    go : (n : ℕ) → numbered s.replicas n ≡ Some r → KeepsDelivered s r
    go zero e = absurd cc
    go (suc k) e =
        let is = h.replicas k r e in
        let w = setting_of s in
        let reached = has_reached s slots k r h e in
        let past = take r.position s.entries in
        let more = drop r.position s.entries in
        record {
          delivered = is.stands.delivered;
          window = is.stands.window;
          entries = h.entries;
          rows = λ position within near.
              let window = is.stands.window in
              let count = take_count s.entries r.position reached in
              let calls = items_count past in
              let log = ap items_of (sym (take_drop s.entries r.position)) ∙ items_append past more in
              subst (AnswersFrom r.versions.tables position)
              (sym (ap (λ (l : Log). rows_after w l position) log ∙ rows_grown w (items_of past) (items_of more) position (omega arith)))
              (law w r past position is within (omega arith));
          procedures = procedures_held s slots k r procedures h e;
        }

pub one_more_step : (w : Setting) (before : World) (steps : List GivenStep) (n : ℕ) (item : GivenStep) (outcomes more : List Outcome) (between : World) (outcome : Outcome) (after : World) → take (n + 1) steps ≡ take n steps ++ item ∷ [] → more ≡ outcomes ++ outcome ∷ [] → AreSteps w before (map (step_of w) (take n steps)) outcomes between
    → IsStep w between (step_of w item) outcome after → AreSteps w before (map (step_of w) (take (n + 1) steps)) more after
one_more_step w before steps n item outcomes more between outcome after taken answered done is =
    let all = ap (λ (xs : List GivenStep). map (step_of w) xs) taken ∙ append_map (step_of w) (take n steps) item in
    subst (λ (os : List Outcome). AreSteps w before (map (step_of w) (take (n + 1) steps)) os after) (sym answered)
    (subst (λ (xs : List Step). AreSteps w before xs (outcomes ++ outcome ∷ []) after) (sym all)
    (steps_snoc w before (map (step_of w) (take n steps)) outcomes between (step_of w item) outcome after done is))

given_snoc : (w : Setting) (steps : List Step) (outcomes : List Outcome) (step : Step) (outcome : Outcome) → length steps ≡ length outcomes → AreGiven w steps outcomes → IsGiven w step outcome → AreGiven w (steps ++ step ∷ []) (outcomes ++ outcome ∷ [])
given_snoc w [] [] step outcome count all is = (is, tt)
given_snoc w [] (o ∷ outcomes) step outcome count all is = absurd cc
given_snoc w (s ∷ steps) [] step outcome count all is = absurd cc
given_snoc w (s ∷ steps) (o ∷ outcomes) step outcome count all is = (all.0, given_snoc w steps outcomes step outcome (let c = count in omega arith) all.1 is)

pub one_more_given : (w : Setting) (steps : List GivenStep) (n : ℕ) (item : GivenStep) (outcomes more : List Outcome) (outcome : Outcome) → take (n + 1) steps ≡ take n steps ++ item ∷ [] → more ≡ outcomes ++ outcome ∷ [] → length (map (step_of w) (take n steps)) ≡ length outcomes
    → AreGiven w (map (step_of w) (take n steps)) outcomes → IsGiven w (step_of w item) outcome → AreGiven w (map (step_of w) (take (n + 1) steps)) more
one_more_given w steps n item outcomes more outcome taken answered count done is =
    let all = ap (λ (xs : List GivenStep). map (step_of w) xs) taken ∙ append_map (step_of w) (take n steps) item in
    subst (λ (os : List Outcome). AreGiven w (map (step_of w) (take (n + 1) steps)) os) (sym answered)
    (subst (λ (xs : List Step). AreGiven w xs (outcomes ++ outcome ∷ [])) (sym all) (given_snoc w (map (step_of w) (take n steps)) outcomes (step_of w item) outcome count done is))

pub one_more_answer : (w : Setting) (steps : List GivenStep) (n : ℕ) (item : GivenStep) (outcomes more : List Outcome) (outcome : Outcome) → take (n + 1) steps ≡ take n steps ++ item ∷ [] → more ≡ outcomes ++ outcome ∷ [] → length (map (step_of w) (take n steps)) ≡ length outcomes → length (map (step_of w) (take (n + 1) steps)) ≡ length more
one_more_answer w steps n item outcomes more outcome taken answered count =
    ap (λ (xs : List GivenStep). length (map (step_of w) xs)) taken ∙ ap (λ (xs : List Step). length xs) (append_map (step_of w) (take n steps) item) ∙ length-append (map (step_of w) (take n steps)) (step_of w item ∷ [])
    ∙ ap (λ (m : ℕ). m + 1) count ∙ sym (length-append outcomes (outcome ∷ [])) ∙ ap (λ (xs : List Outcome). length xs) (sym answered)

-- ---- at first

abbrev the_empty : List Entry
the_empty = []

pub first_replica : (catalogue : SystemCatalogue) (window : ℕ) (r : Replica) → BeginsSafely (system_setting catalogue window)
    → StandsIn (system_setting catalogue window) r [] → IsReplicaOf catalogue window [] r
first_replica catalogue window r safe stands =
    subst (FollowsLog (system_setting catalogue window) r) (nothing r.position)
    (record { of_log = record { begins = safe; log = tt; items = tt; runs = tt }; stands = stands })
  where
    nothing : (n : ℕ) → the_empty ≡ take n the_empty
    nothing zero = refl
    nothing (suc n) = refl

pub first_progress : (base : Beginning) (r : Replica) → StandsFor base r [] → r.stopped ≡ false → progress_of r ≡ record { position = 0; stopped = false }
first_progress base r stands running = ap (λ n. record { position = n; stopped = r.stopped }) stands.position ∙ ap (λ b. record { position = 0; stopped = b }) running

pub all_alike : {X Y : Type 0} (f : X → Y) (xs : List X) (y : Y) → ((k : ℕ) (x : X) → slice_get xs k ≡ Some x → f x ≡ y) → map f xs ≡ replicate (length xs) y
all_alike f [] y h = refl
all_alike f (x ∷ xs) y h = ap (λ z. z ∷ map f xs) (h 0 x refl) ∙ ap (λ ys. y ∷ ys) (all_alike f xs y (λ k. h (suc k)))

pub first_of : (catalogue : SystemCatalogue) (window n : ℕ) (replicas : List Replica) → length replicas ≡ n → ((k : ℕ) (r : Replica) → slice_get replicas k ≡ Some r → progress_of r ≡ record { position = 0; stopped = false })
    → world_of (record { catalogue = catalogue; window = window; entries = []; replicas = replicas; calls = [] }) ≡ first_world n
first_of catalogue window n replicas count fresh =
    ap (λ (rs : List ModelReplica). record { log = []; replicas = rs; calls = [] }) (all_alike progress_of replicas (record { position = 0; stopped = false }) fresh ∙ ap (λ (m : ℕ). replicate m (record { position = 0; stopped = false })) count)

pub first_together : {A : Type 0} (catalogue : SystemCatalogue) (window n : ℕ) (replicas : List Replica) → ((w : Setting) (n : ℕ) → IsWorld w (first_world n)) → BeginsSafely (system_setting catalogue window) → length replicas ≡ n
    → ((k : ℕ) (r : Replica) → slice_get replicas k ≡ Some r → IsReplicaOf catalogue window [] r) → ((k : ℕ) (r : Replica) → slice_get replicas k ≡ Some r → progress_of r ≡ record { position = 0; stopped = false })
    → IsTogether {A = A} (record { catalogue = catalogue; window = window; entries = []; replicas = replicas; calls = [] }) []
first_together catalogue window n replicas law safe count each fresh = record {
  entries = record { begins = safe; log = tt; items = tt; runs = tt };
  writes = tt;
  named = tt;
  world = subst (λ (x : World). IsWorld (system_setting catalogue window) x) (sym (first_of catalogue window n replicas count fresh)) (law _ n);
  replicas = each;
  calls = refl;
  open_calls = λ k c e. absurd cc;
}

-- one more of them
pub one_more_replica : (P : Replica → Type 0) (replicas more : List Replica) (new : Replica) → more ≡ replicas ++ new ∷ [] → P new → ((k : ℕ) (r : Replica) → slice_get replicas k ≡ Some r → P r) → (k : ℕ) (r : Replica) → slice_get more k ≡ Some r → P r
one_more_replica P replicas more new e is each k r at = elim (get_snoc replicas new k r (ap (λ (xs : List Replica). slice_get xs k) (sym e) ∙ at)) [
  | inl there ↦ each k r there
  | inr now ↦ subst P now is
]
