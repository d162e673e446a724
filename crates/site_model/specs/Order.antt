-- The log of an order of byte strings, the sessions behind it, and what a site says of each string (this product's own rules).
use Rattle.std.specs.Prelude.{ℕ, zero, suc, ◌+◌, nat_le, if◌then◌else◌, List, [], ◌∷◌, ◌++◌, length, slice_get, Option, Some, None}
use Rattle.std.specs.List.{fold}
use Rattle.std.specs.Option.{unwrap_or}
use Rattle.std.specs.FinMap.{empty}
use Rattle.log_model.specs.declared.request.RequestId.{RequestId}
use Rattle.log_model.specs.declared.verdict.Verdict.{Verdict}
use Rattle.log_model.specs.declared.verdict.Verdict.TheVariants as verdict
use Rattle.log_model.specs.Log.{Catalogue, Setting, reply_done, Call, Log, procedures_after, verdict_of}
use Rattle.log_model.specs.Entries.{Entry, CallEntry, AdditionEntry, items_of}
use Rattle.log_entry.specs.Head.{Head, CallHead, head_of}
use Rattle.site_model.specs.declared.outcome.EntryOutcome.{EntryOutcome}
use Rattle.site_model.specs.declared.outcome.EntryOutcome.TheVariants as outcome
use Rattle.site_model.specs.Sessions.{Sessions, lasts_of, sessions_with}
use Rattle.site_model.specs.Standing.{SiteSetting, Standing, StandsAs, IsDecided, OpensSession, IsNothing, standing}

-- the greater of two, and a number that is greater than those of these procedures
abbrev pub greater : ℕ → ℕ → ℕ
greater a b = if nat_le a b then b else a

abbrev pub unused_number : Catalogue → ℕ
unused_number [] = zero
unused_number (p ∷ procedures) = greater (suc p.number) (unused_number procedures)

-- a call of no procedure: it looks at nothing, writes nothing and replies 0
abbrev pub call_of_none : Catalogue → ℕ → Option RequestId → Call
call_of_none procedures snapshot request =
    record { number = 0; procedure = unused_number procedures; args = []; snapshot = snapshot; request = request }

abbrev pub entry_of_none : Catalogue → ℕ → Option RequestId → Entry
entry_of_none procedures snapshot request =
    CallEntry (record { call = call_of_none procedures snapshot request; looks = []; writes = empty; reply = 0 })

-- as the log has it. What is nothing, or opens a session, takes its position as a call of no procedure; of a call that is
-- repeated or stale, whose procedure there may not be, request and snapshot are kept
abbrev pub entry_standing : Setting → Log → Standing → Entry
entry_standing w log (StandsAs e) = e
entry_standing w log (IsDecided call) = entry_of_none (procedures_after w log call.snapshot) call.snapshot call.request
entry_standing w log (OpensSession session) = entry_of_none (procedures_after w log (length log)) (length log) None
entry_standing w log (IsNothing cause) = entry_of_none (procedures_after w log (length log)) (length log) None

abbrev pub next_entry : SiteSetting → Sessions → List Entry → List ℕ → Entry
next_entry s known entries bytes = entry_standing s.setting (items_of entries) (standing s known (items_of entries) bytes)

abbrev pub with_bytes : SiteSetting → Sessions → List Entry → List ℕ → List Entry
with_bytes s known entries bytes = entries ++ next_entry s known entries bytes ∷ []

-- ---- what a site says

abbrev pub reply_in : Option Entry → ℕ
reply_in (Some (CallEntry e)) = e.reply
reply_in _ = 0

-- the reply of the call at a position, from 1 on
abbrev pub reply_at : List Entry → ℕ → ℕ
reply_at entries zero = 0
reply_at entries (suc before) = reply_in (slice_get entries before)

-- the reply to a request that was done at this position: before the order, which is 0, or by a call of these entries
abbrev pub reply_to : Setting → List Entry → Option RequestId → ℕ → ℕ
reply_to w entries request zero = unwrap_or (reply_done w.beginning.requests request) 0
reply_to w entries request (suc before) = reply_at entries (suc before)

-- by the verdict, where it commits this; a repeated call has the reply of the position at which its request was done
abbrev pub outcome_by : (ℕ → ℕ) → EntryOutcome → Option Verdict → EntryOutcome
outcome_by replies committed (Some (verdict.Conflict position)) = outcome.Conflict position
outcome_by replies committed (Some verdict.Stale) = outcome.Stale
outcome_by replies committed (Some (verdict.Repeated position)) = outcome.Repeated position (replies position)
outcome_by replies committed (Some (verdict.Taken identifier)) = outcome.Taken identifier
outcome_by replies committed _ = committed

abbrev pub committed_outcome : Entry → EntryOutcome
committed_outcome (CallEntry e) = outcome.Committed e.reply
committed_outcome (AdditionEntry p) = outcome.Added p.number

-- what becomes of what stands at the last of these positions, by the verdict on it, which of a call that is decided is
-- that it is repeated or stale
abbrev pub outcome_of : (ℕ → ℕ) → Standing → Option Verdict → EntryOutcome
outcome_of replies (StandsAs e) v = outcome_by replies (committed_outcome e) v
outcome_of replies (IsDecided call) v = outcome_by replies outcome.Stale v
outcome_of replies (OpensSession session) v = outcome.Session session
outcome_of replies (IsNothing cause) v = outcome.Nothing cause

-- the request that bytes carry, where they are a call
abbrev pub request_in : Option Head → Option RequestId
request_in (Some (CallHead call reply)) = call.request
request_in _ = None

-- the replies to the request that bytes carry, of these entries
abbrev pub replies_to : SiteSetting → List Entry → List ℕ → ℕ → ℕ
replies_to s entries bytes = reply_to s.setting entries (request_in (head_of bytes))

-- what becomes of the bytes behind these entries
abbrev pub outcome_behind : SiteSetting → Sessions → List Entry → List ℕ → EntryOutcome
outcome_behind s known entries bytes =
    outcome_of (replies_to s (with_bytes s known entries bytes) bytes) (standing s known (items_of entries) bytes)
    (verdict_of s.setting (items_of (with_bytes s known entries bytes)) (length entries + 1))

-- ---- orders

-- byte strings, the first of which is at position 1, and at most 2^32 - 1 of them
abbrev pub Order : Type 0
Order = List (List ℕ)

-- what is behind an order: the entries of its log, and what is known of sessions
pub record Followed : Type 0 where
  pub entries : List Entry
  pub sessions : Sessions

abbrev pub followed_by : SiteSetting → Followed → List ℕ → Followed
followed_by s f bytes = record {
  entries = with_bytes s f.sessions f.entries bytes;
  sessions = sessions_with f.sessions bytes (outcome_behind s f.sessions f.entries bytes);
}

abbrev pub before_order : SiteSetting → Followed
before_order s =
    record { entries = []; sessions = record { opened = 0; lasts = lasts_of s.origin s.setting.beginning.requests } }

unfoldable pub followed : SiteSetting → Order → Followed
followed s order = fold (followed_by s) (before_order s) order

abbrev pub order_entries : SiteSetting → Order → List Entry
order_entries s order = (followed s order).entries

abbrev pub order_log : SiteSetting → Order → Log
order_log s order = items_of (order_entries s order)

abbrev pub sessions_after : SiteSetting → Order → Sessions
sessions_after s order = (followed s order).sessions

-- what becomes of the bytes behind an order
abbrev pub next_outcome : SiteSetting → Order → List ℕ → EntryOutcome
next_outcome s order bytes = outcome_behind s (sessions_after s order) (order_entries s order) bytes
