-- The sessions of an order, and what each has done last: of its calls that committed, the one of the greatest number (this
-- product's own rules).
use Rattle.std.specs.Prelude.{ℕ, suc, ◌+◌, ◌^◌, ◌==◌, nat_lt, Bool, false, not, is_some, ◌&&◌, if◌then◌else◌, List, [], ◌∷◌, length, Option, Some, None}
use Rattle.std.specs.List.{fold}
use Rattle.std.specs.Option.{option_map}
use Rattle.std.specs.Ordering.{nat_cmp}
use Rattle.std.specs.FinMap.{FinMap, empty, get, insert}
use Rattle.log_model.specs.declared.request.RequestId.{RequestId}
use Rattle.log_model.specs.Log.{DoneRequest}
use Rattle.log_entry.specs.Head.{Head, CallHead, head_of}
use Rattle.site_model.specs.declared.cause.NothingCause.{NothingCause}
use Rattle.site_model.specs.declared.cause.NothingCause.TheVariants.{UnknownSession, Superseded}
use Rattle.site_model.specs.declared.origin.Origin.{Origin}
use Rattle.site_model.specs.declared.outcome.EntryOutcome.{EntryOutcome}
use Rattle.site_model.specs.declared.outcome.EntryOutcome.TheVariants.{Committed, Session}

-- ---- what each has done last

-- under each session its last request
abbrev pub LastRequests : Type 0
LastRequests = FinMap nat_cmp DoneRequest

-- whether a session, by its last request, has done a request of a greater number
abbrev pub is_superseded : Option DoneRequest → RequestId → Bool
is_superseded None request = false
is_superseded (Some last) request = nat_lt request.sequence last.request.sequence

-- with one more request that was done
abbrev pub with_done : LastRequests → DoneRequest → LastRequests
with_done lasts done =
    if is_superseded (get lasts done.request.session) done.request then lasts else insert lasts done.request.session done

abbrev pub with_done_if : LastRequests → Option DoneRequest → LastRequests
with_done_if lasts None = lasts
with_done_if lasts (Some done) = with_done lasts done

-- a session that has done nothing: its last request is one of number 0, which no call carries
abbrev pub nothing_done : ℕ → DoneRequest
nothing_done session = record { request = record { session = session; sequence = 0 }; reply = 0; procedure = 0; args = [] }

-- what is told of a session before an order: of one that opens sessions number 0 tells that it has done nothing
abbrev pub told_of : Option Origin → DoneRequest → DoneRequest
told_of None done = done
told_of (Some origin) done = if done.request.sequence == 0 then nothing_done done.request.session else done

-- before an order, by the requests that were done before
abbrev pub lasts_of : Option Origin → List DoneRequest → LastRequests
lasts_of origin done = fold (λ lasts d. with_done lasts (told_of origin d)) empty done

-- what a byte string has done of a session, by its outcome: it opens the session, or is a call with a request that commits
abbrev pub done_by : EntryOutcome → Option Head → Option DoneRequest
done_by (Session session) head = Some (nothing_done session)
done_by (Committed reply) (Some (CallHead call told)) =
    option_map (λ request. record { request = request; reply = reply; procedure = call.procedure; args = call.args }) call.request
done_by outcome head = None

-- ---- what is known of sessions behind an order: how many the order opened, and the last request of each

pub record Sessions : Type 0 where
  pub opened : ℕ
  pub lasts : LastRequests

-- with one more byte string, which comes to this
abbrev pub opened_with : ℕ → EntryOutcome → ℕ
opened_with opened (Session session) = suc opened
opened_with opened outcome = opened

abbrev pub sessions_with : Sessions → List ℕ → EntryOutcome → Sessions
sessions_with known bytes outcome = record {
  opened = opened_with known.opened outcome;
  lasts = with_done_if known.lasts (done_by outcome (head_of bytes));
}

-- ---- an order with an origin opens sessions, and knows which there are

-- 0, 2 and 16 more bytes
abbrev pub is_opening : List ℕ → Bool
is_opening (kind ∷ mark ∷ more) = (kind == 0) && ((mark == 2) && (length more == 16))
is_opening bytes = false

-- the session that bytes open, numbered behind those before; none where its number has more than 32 bits
abbrev pub session_opened : Option Origin → ℕ → List ℕ → Option ℕ
session_opened None opened bytes = None
session_opened (Some origin) opened bytes =
    if is_opening bytes && nat_lt (origin.sessions + opened + 1) (2 ^ 32) then Some (origin.sessions + opened + 1) else None

-- it was told of before the order, or the order opened it, so that it has a last request
abbrev pub is_known : Sessions → ℕ → Bool
is_known known session = is_some (get known.lasts session)

-- why a call that carries this request can't be taken for its session's sake
abbrev pub session_cause : Option Origin → Sessions → Option RequestId → Option NothingCause
session_cause None known request = None
session_cause (Some origin) known None = None
session_cause (Some origin) known (Some request) =
    if not (is_known known request.session) then Some UnknownSession
    else if is_superseded (get known.lasts request.session) request then Some Superseded
    else None
