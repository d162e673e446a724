-- The fields of a world's code: the value that contracts see of them, and what always holds of them.
use Rattle.std.specs.Prelude.{◌≡◌, List, map, Option, option_map}
use Rattle.std.specs.List.{AllByRecursion}
use Rattle.replica.specs.Replica.{IsForTables, entries_of}
use Rattle.log_model.specs.Entries.{items_of}
use Rattle.dsm_model.specs.World.{addition_count}
use Rattle.world_calls.specs.declared.open_call.OpenCall.{OpenCall as OpenCallState}
use Rattle.dsm_world.specs.System.{SystemWorld}
use Rattle.dsm_world.specs.Together.{IsTogether, open_calls_of}
use Rattle.dsm_world.specs.declared.world.World.TheInside.{Inside}

-- the open calls, out of their boxes
abbrev pub call_slots : {A : Type 0} → Inside A → List (Option (OpenCallState A))
call_slots w = map (λ slot. option_map (λ b. b.value) slot) w.calls.items

abbrev pub system_of : {A : Type 0} → Inside A → SystemWorld
system_of w = record {
  catalogue = w.catalogue;
  window = w.window;
  entries = entries_of w.entries.items;
  replicas = w.replicas.items;
  calls = open_calls_of (call_slots w);
}

-- all fits together, the programs of additions were accepted for the catalogue's tables, and additions are counted
pub record IsConsistent {A : Type 0} (w : Inside A) : Type 0 where
  pub together : IsTogether (system_of w) (call_slots w)
  pub for_tables : AllByRecursion (IsForTables w.catalogue.tables) w.entries.items
  pub additions : w.additions ≡ addition_count (items_of (entries_of w.entries.items))
