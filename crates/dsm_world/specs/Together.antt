-- How the parts of a world fit together. No clause of a `World` speaks of it.
use Rattle.std.specs.Prelude.{◌≡◌, ℕ, List, map, take, slice_get, Option, Some, option_map}
use Rattle.std.specs.List.{AllByRecursion}
use Rattle.schema.specs.Rows.{AreWrites}
use Rattle.catalogue.specs.Catalogue.{SystemCatalogue, system_setting}
use Rattle.replica.specs.Replica.{Replica, AreEntriesOf, FollowsLog, IsNamed, writes_in}
use Rattle.log_model.specs.Entries.{Entry, items_of}
use Rattle.log_model.specs.OpenCall.{OpenCall}
use Rattle.dsm_model.specs.Sound.{IsWorld}
use Rattle.world_calls.specs.OpenCall.{open_call_of, Follows}
use Rattle.world_calls.specs.declared.open_call.OpenCall.{OpenCall as OpenCallState}
use Rattle.dsm_world.specs.System.{SystemWorld, setting_of, world_of}

-- a replica of this catalogue has delivered a prefix of the entries, and follows the log of that prefix
abbrev pub IsReplicaOf : SystemCatalogue → ℕ → List Entry → Replica → Type 0
IsReplicaOf catalogue window entries r =
    FollowsLog (system_setting catalogue window) r (take r.position entries)

abbrev pub open_calls_of : {A : Type 0} → List (Option (OpenCallState A)) → List (Option OpenCall)
open_calls_of slots = map (λ slot. option_map open_call_of slot) slots

-- the entries carry their runs, each replica has delivered a beginning of them, and each open call follows its run
pub record IsTogether {A : Type 0} (s : SystemWorld) (slots : List (Option (OpenCallState A))) : Type 0 where
  pub entries : AreEntriesOf (setting_of s) s.entries
  pub writes : AllByRecursion (λ e. AreWrites s.catalogue.tables (writes_in e)) s.entries
  pub named : AllByRecursion IsNamed s.entries
  pub world : IsWorld (setting_of s) (world_of s)
  pub replicas : (k : ℕ) (r : Replica) → slice_get s.replicas k ≡ Some r → IsReplicaOf s.catalogue s.window s.entries r
  pub calls : s.calls ≡ open_calls_of slots
  pub open_calls : (k : ℕ) (c : OpenCallState A) → slice_get slots k ≡ Some (Some c) → Follows (setting_of s) (items_of s.entries) c
