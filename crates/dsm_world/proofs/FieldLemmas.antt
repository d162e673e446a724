-- The fields of a world, as code changes some of them.
use Rattle.std.proofs.Common.{◌≡◌, ℕ, List, [], ◌∷◌, ◌++◌, slice_set, Some, None, sym, ap, subst, ◌∙◌}
use Rattle.std.specs.List.{AllByRecursion}
use Rattle.schema.specs.Schema.{Tables}
use Rattle.log_entry.specs.declared.entry.Entry.{Entry as LogEntry}
use Rattle.log_model.specs.Entries.{items_of}
use Rattle.dsm_model.specs.declared.outcome.Outcome.{Outcome}
use Rattle.dsm_model.specs.World.{World, Step, IsStep, addition_count}
use Rattle.dsm_model.specs.Sound.{IsGiven, IsWorld}
use Rattle.replica.specs.Replica.{Replica, IsForTables, entries_of}
use Rattle.world_calls.specs.OpenCall.{Follows}
use Rattle.world_calls.specs.declared.open_call.OpenCall.{OpenCall as OpenCallState}
use Rattle.dsm_world.specs.Execution.{IsExecution}
use Rattle.dsm_world.specs.System.{SystemWorld, setting_of, world_of}
use Rattle.dsm_world.specs.Together.{IsReplicaOf, IsTogether}
use Rattle.dsm_world.specs.Fields.{system_of, call_slots, IsConsistent}
use Rattle.dsm_world.specs.declared.world.World.TheInside.{Inside}
use Rattle.dsm_world.proofs.StepLemmas.{KeepsWorlds, execution_keeps}
use Rattle.dsm_world.proofs.ReplicaLemmas.{with_one, one_changed}
use Rattle.dsm_world.proofs.CallLemmas.{with_slots, slot_changed, call_entered, some_is}

-- ---- a step of the world that contracts see is one of the fields' world

-- what leads from worlds to worlds does so from the one that is seen, and hence from that of the fields
led : (s now : SystemWorld) (after : World) → s ≡ now → (IsWorld (setting_of now) (world_of now) → IsWorld (setting_of now) after) → IsWorld (setting_of s) (world_of s) → IsWorld (setting_of s) after
led s now after same keeps = subst (λ (x : SystemWorld). IsWorld (setting_of x) (world_of x) → IsWorld (setting_of x) after) (sym same) keeps

pub step_kept : (s now : SystemWorld) (step : Step) (outcome : Outcome) (after : World) → s ≡ now → KeepsWorlds (setting_of now) → IsGiven (setting_of now) step outcome → IsStep (setting_of now) (world_of now) step outcome after → IsWorld (setting_of s) (world_of s) → IsWorld (setting_of s) after
step_kept s now step outcome after same keeps given is = led s now after same (keeps (world_of now) step outcome after given is)

pub execution_kept : (s now : SystemWorld) (c before : ℕ) (outcome : Outcome) (after : World) → s ≡ now → KeepsWorlds (setting_of now) → IsExecution (setting_of now) (world_of now) c before outcome after → IsWorld (setting_of s) (world_of s) → IsWorld (setting_of s) after
execution_kept s now c before outcome after same keeps is = led s now after same (execution_keeps (setting_of now) keeps (world_of now) c before outcome after is)

-- ---- what stays consistent

-- where the entries and the tables are as they were
pub still_consistent : {A : Type 0} (h new : Inside A) → IsConsistent h → new.catalogue.tables ≡ h.catalogue.tables → new.entries.items ≡ h.entries.items → new.additions ≡ h.additions → IsTogether (system_of new) (call_slots new) → IsConsistent new
still_consistent h new is tables entries additions together = record {
  together = together;
  for_tables = subst (λ (t : Tables). AllByRecursion (IsForTables t) new.entries.items) (sym tables) (subst (λ (xs : List (LogEntry _)). AllByRecursion (IsForTables h.catalogue.tables) xs) (sym entries) is.for_tables);
  additions = additions ∙ is.additions ∙ ap (λ (xs : List (LogEntry _)). addition_count (items_of (entries_of xs))) (sym entries);
}

-- but for the calls all is as it was
abbrev pub HasOtherCalls : {A : Type 0} → Inside A → Inside A → Type 0
HasOtherCalls h new = (system_of new ≡ with_slots (system_of h) (call_slots new)) × (new.entries.items ≡ h.entries.items) × (new.additions ≡ h.additions)

others_consistent : {A : Type 0} (h new : Inside A) → IsConsistent h → HasOtherCalls h new → IsTogether (with_slots (system_of h) (call_slots new)) (call_slots new) → IsConsistent new
others_consistent h new is other together =
    still_consistent h new is (ap (λ (s : SystemWorld). s.catalogue.tables) other.0) other.1 other.2 (subst (λ (s : SystemWorld). IsTogether s (call_slots new)) (sym other.0) together)

-- the calls too
pub unchanged_consistent : {A : Type 0} (h new : Inside A) → IsConsistent h → HasOtherCalls h new → call_slots new ≡ call_slots h → IsConsistent new
unchanged_consistent h new is other same = others_consistent h new is other (subst (λ xs. IsTogether (with_slots (system_of h) xs) xs) (sym same) is.together)

-- a call is over
pub over_consistent : {A : Type 0} (h new : Inside A) (k : ℕ) → IsConsistent h → HasOtherCalls h new → call_slots new ≡ slice_set (call_slots h) k None → IsWorld (setting_of (system_of h)) (world_of (with_slots (system_of h) (call_slots new))) → IsConsistent new
over_consistent h new k is other taken world =
    others_consistent h new is other (subst (λ xs. IsTogether (with_slots (system_of h) xs) xs) (sym taken)
    (slot_changed (system_of h) (call_slots h) k None is.together (λ d bad. absurd cc) (subst (λ xs. IsWorld (setting_of (system_of h)) (world_of (with_slots (system_of h) xs))) taken world)))

-- a call goes on in its place
pub put_consistent : {A : Type 0} (h new : Inside A) (k : ℕ) (c : OpenCallState A) → IsConsistent h → HasOtherCalls h new → call_slots new ≡ slice_set (call_slots h) k (Some c) → Follows (setting_of (system_of h)) (items_of (system_of h).entries) c
    → IsWorld (setting_of (system_of h)) (world_of (with_slots (system_of h) (call_slots new))) → IsConsistent new
put_consistent h new k c is other put follows world =
    others_consistent h new is other (subst (λ xs. IsTogether (with_slots (system_of h) xs) xs) (sym put)
    (slot_changed (system_of h) (call_slots h) k (Some c) is.together (λ d e. subst (λ (x : OpenCallState _). Follows (setting_of (system_of h)) (items_of (system_of h).entries) x) (some_is c d e) follows) (subst (λ xs. IsWorld (setting_of (system_of h)) (world_of (with_slots (system_of h) xs))) put world)))

-- a call is entered behind the others
pub entered_consistent : {A : Type 0} (h new : Inside A) (c : OpenCallState A) → IsConsistent h → HasOtherCalls h new → call_slots new ≡ call_slots h ++ Some c ∷ [] → Follows (setting_of (system_of h)) (items_of (system_of h).entries) c
    → IsWorld (setting_of (system_of h)) (world_of (with_slots (system_of h) (call_slots new))) → IsConsistent new
entered_consistent h new c is other entered follows world =
    others_consistent h new is other (subst (λ xs. IsTogether (with_slots (system_of h) xs) xs) (sym entered)
    (call_entered (system_of h) (call_slots h) c is.together follows (subst (λ xs. IsWorld (setting_of (system_of h)) (world_of (with_slots (system_of h) xs))) entered world)))

-- one replica is another
pub replica_consistent : {A : Type 0} (h new : Inside A) (k : ℕ) (r : Replica) → IsConsistent h → (system_of new ≡ with_one (system_of h) k r) × (call_slots new ≡ call_slots h) × (new.entries.items ≡ h.entries.items) × (new.additions ≡ h.additions)
    → IsReplicaOf h.catalogue h.window (system_of h).entries r → IsWorld (setting_of (system_of h)) (world_of (with_one (system_of h) k r)) → IsConsistent new
replica_consistent h new k r is other is_replica world =
    still_consistent h new is (ap (λ (s : SystemWorld). s.catalogue.tables) other.0) other.2 other.3
    (subst (λ (s : SystemWorld). IsTogether s (call_slots new)) (sym other.0)
    (subst (λ xs. IsTogether (with_one (system_of h) k r) xs) (sym other.1) (one_changed (system_of h) (call_slots h) k r is.together is_replica world)))
