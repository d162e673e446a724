-- How worlds are told from other values, as the checker needs it. No clause speaks of it.
use Rattle.std.specs.Prelude.{◌≡◌, ◌⊎◌, ℕ, List, Option, refl}
use mathlib.Core.Logic.{inl, inr}
use Rattle.std.specs.Coded.{Coded, code_by, coded×, coded⊎, coded_ℕ, coded_list, coded_option}
use Rattle.catalogue.specs.Catalogue.{SystemCatalogue}
use Rattle.catalogue.specs.Held.{catalogue_code}
use Rattle.log_model.specs.Codes.{call_code, stored_code}
use Rattle.log_entry.specs.Codes.{executed_code}
use Rattle.replica.specs.Codes.{replica_code}
use Rattle.replica.specs.Replica.{Replica}
use Rattle.log_model.specs.Log.{StoredProcedure, Call}
use Rattle.log_model.specs.Entries.{ExecutedCall, Entry, CallEntry, AdditionEntry}
use Rattle.log_model.specs.OpenCall.{OpenCall}
use Rattle.dsm_world.specs.System.{SystemWorld}

abbrev open_call_code : Coded OpenCall
open_call_code = code_by (ℕ × (Call × ℕ)) (coded× coded_ℕ (coded× call_code coded_ℕ))
    (λ o. (o.replica, (o.call, o.turns))) (λ c. record { replica = c.0; call = c.1.0; turns = c.1.1 }) (λ _. refl)

abbrev split : Entry → ExecutedCall ⊎ StoredProcedure
split (CallEntry e) = inl e
split (AdditionEntry p) = inr p

abbrev join : ExecutedCall ⊎ StoredProcedure → Entry
join (inl e) = CallEntry e
join (inr p) = AdditionEntry p

pub join-split : (e : Entry) → join (split e) ≡ e
join-split (CallEntry e) = refl
join-split (AdditionEntry p) = refl

abbrev entry_code : Coded Entry
entry_code = code_by (ExecutedCall ⊎ StoredProcedure) (coded⊎ executed_code stored_code) split join join-split

abbrev pub world_code : Coded SystemWorld
world_code = code_by (SystemCatalogue × (ℕ × (List Entry × (List Replica × List (Option OpenCall)))))
    (coded× catalogue_code (coded× coded_ℕ (coded× (coded_list entry_code)
    (coded× (coded_list replica_code) (coded_list (coded_option open_call_code))))))
    (λ s. (s.catalogue, (s.window, (s.entries, (s.replicas, s.calls)))))
    (λ c. record { catalogue = c.0; window = c.1.0; entries = c.1.1.0; replicas = c.1.1.1.0; calls = c.1.1.1.1 })
    (λ _. refl)
