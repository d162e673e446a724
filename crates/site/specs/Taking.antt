-- What a site takes in behind the entries for which it stands.
use Rattle.std.specs.Prelude.{◌≡◌, ℕ, List, [], ◌∷◌, ◌++◌, length, Option, None}
use Rattle.log_model.specs.declared.request.RequestId.{RequestId}
use Rattle.log_model.specs.declared.verdict.Verdict.{Verdict}
use Rattle.log_model.specs.declared.verdict.Verdict.TheVariants.{Commit}
use Rattle.log_model.specs.Log.{IsPlaced}
use Rattle.log_model.specs.Fit.{FitsLog}
use Rattle.log_model.specs.Entries.{Entry, CallEntry, AdditionEntry, item_of, items_of, IsCarried}
use Rattle.log_entry.specs.declared.entry.Entry.{Entry as LogEntry}
use Rattle.log_entry.specs.Kind.{entry_of}
use Rattle.site.specs.Replica.{SiteReplica, StandsForLog, setting_of}
use Rattle.site.specs.Standing.{CanBeTaken}

-- two calls with one request, one snapshot, and the same looks, writes and reply: whatever else they are, they come to
-- the same behind the same entries
abbrev pub AreAlike : Entry → Entry → Type 0
AreAlike (CallEntry e) (CallEntry d) =
    (e.call.request ≡ d.call.request) × (e.call.snapshot ≡ d.call.snapshot)
    × (e.looks ≡ d.looks) × (e.writes ≡ d.writes) × (e.reply ≡ d.reply)
AreAlike (AdditionEntry p) (AdditionEntry q) = p ≡ q
AreAlike _ _ = ⊥

-- the request that it carries, where it is a call that has one
abbrev pub request_carried : Entry → Option RequestId
request_carried (CallEntry e) = e.call.request
request_carried (AdditionEntry p) = None

-- the positions of additions behind an entry at this position, by the verdict on it
abbrev pub additions_after : List (ℕ × ℕ) → Entry → Verdict → ℕ → List (ℕ × ℕ)
additions_after additions (AdditionEntry p) Commit position = additions ++ (p.number, position) ∷ []
additions_after additions _ _ position = additions

-- an entry of the log follows these, and the one in code is like it
pub record Follows {A : Type 0} (s : SiteReplica) (entries : List Entry) (e : Entry) (entry : LogEntry A) : Type 0 where
  pub stands : StandsForLog s entries
  pub alike : AreAlike e (entry_of entry)
  pub placed : IsPlaced (length entries) (item_of e)
  pub fits : FitsLog (setting_of s).setting (items_of entries) (item_of e)
  pub carried : IsCarried (setting_of s).setting (items_of entries) e
  pub taken : CanBeTaken s.catalogue.tables entry
