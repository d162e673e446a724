-- An item of the log as it is shipped to the replicas, and the verdicts by that alone: no call is run again.
use Rattle.std.specs.Prelude.{◌≡◌, ℕ, ◌+◌, List, [], ◌∷◌, ◌++◌, map, if◌then◌else◌}
use Rattle.std.specs.List.{fold, AllByRecursion}
use Rattle.schema.specs.declared.look.Look.{Look}
use Rattle.schema.specs.Rows.{Writes}
use Rattle.log_model.specs.InstalledWrites.{InstalledWrites}
use Rattle.log_model.specs.Log.{StoredProcedure, Catalogue, DoneRequest, Beginning, Setting, Call, Item, CallItem, AdditionItem, Log, CertifiedItem, is_commit, if_commits, certified_call_after, certified_addition, run_in}

-- a call with looks, writes and a reply
pub record ExecutedCall : Type 0 where
  pub call : Call
  pub looks : List Look
  pub writes : Writes
  pub reply : ℕ

pub data Entry : Type 0 where
  CallEntry : ExecutedCall → Entry
  AdditionEntry : StoredProcedure → Entry

abbrev pub item_of : Entry → Item
item_of (CallEntry e) = CallItem e.call
item_of (AdditionEntry p) = AdditionItem p

abbrev pub IsCallEntry : Entry → Type 0
IsCallEntry (CallEntry e) = Unit {0}
IsCallEntry (AdditionEntry p) = ⊥

abbrev pub items_of : List Entry → Log
items_of entries = map item_of entries

-- looks, writes and reply are those of its run on the rows of its snapshot
pub record CarriesRun (w : Setting) (log : Log) (e : ExecutedCall) : Type 0 where
  pub looks : e.looks ≡ (run_in w log e.call).looks
  pub writes : e.writes ≡ (run_in w log e.call).writes
  pub reply : e.reply ≡ (run_in w log e.call).reply

-- an addition carries all there is
abbrev pub IsCarried : Setting → Log → Entry → Type 0
IsCarried w log (CallEntry e) = CarriesRun w log e
IsCarried w log (AdditionEntry p) = Unit {0}

abbrev pub CarryRuns : Setting → List Entry → Type 0
CarryRuns w entries = AllByRecursion (IsCarried w (items_of entries)) entries

-- what became of entries, the procedures after them, and the requests that were done before the first
pub record CertifiedEntries : Type 0 where
  pub done : List DoneRequest
  pub certified : List CertifiedItem
  pub procedures : Catalogue

abbrev pub certified_entry : ℕ → CertifiedEntries → Entry → CertifiedItem
certified_entry window past (CallEntry e) = certified_call_after window past.done past.certified e.call e.looks e.writes
certified_entry window past (AdditionEntry p) = certified_addition past.procedures p

abbrev pub procedures_with : Catalogue → Entry → CertifiedItem → Catalogue
procedures_with procedures (CallEntry e) c = procedures
procedures_with procedures (AdditionEntry p) c = if_commits c.verdict (procedures ++ p ∷ []) procedures

abbrev pub with_entry : ℕ → CertifiedEntries → Entry → CertifiedEntries
with_entry window past e = record {
  done = past.done;
  certified = past.certified ++ certified_entry window past e ∷ [];
  procedures = procedures_with past.procedures e (certified_entry window past e);
}

-- before the first entry
abbrev pub none_certified : Beginning → CertifiedEntries
none_certified beginning = record { done = beginning.requests; certified = []; procedures = beginning.procedures }

-- what becomes of each, by the beginning and what is shipped alone
unfoldable pub certified_entries_of : ℕ → Beginning → List Entry → CertifiedEntries
certified_entries_of window beginning entries = fold (with_entry window) (none_certified beginning) entries

-- the write sets of those that committed, under their positions; the first has this position. Those of an addition are empty
unfoldable pub installed_from : ℕ → List CertifiedItem → List InstalledWrites
installed_from position [] = []
installed_from position (c ∷ later) =
    (if is_commit c.verdict then record { position = position; writes = c.writes } ∷ [] else []) ++ installed_from (position + 1) later
