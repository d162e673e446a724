-- Orders one behind another: each is over settings that go on where the one before it stopped.
use Rattle.std.specs.Prelude.{◌≡◌, ℕ, ◌≤◌, List, [], ◌∷◌, Some}
use Rattle.std.specs.List.{AllByRecursion}
use Rattle.std.specs.FinMap.{get}
use Rattle.log_model.specs.declared.request.RequestId.{RequestId}
use Rattle.log_model.specs.Log.{DoneRequest}
use Rattle.site_model.specs.declared.origin.Origin.{Origin}
use Rattle.site_model.specs.Sessions.{LastRequests, lasts_of}
use Rattle.site_model.specs.Standing.{SiteSetting}
use Rattle.site_model.specs.Order.{Order, sessions_after}
use Rattle.site_model.specs.Next.{next_origin}
use Rattle.site_laws.specs.Orders.{rows_behind}

-- the last requests of which settings tell
abbrev pub first_lasts : SiteSetting → LastRequests
first_lasts t = lasts_of t.origin t.setting.beginning.requests

-- where orders open sessions, the settings tell of no session above those of the origin
abbrev pub AreNumbered : SiteSetting → Type 0
AreNumbered t = (origin : Origin) → t.origin ≡ Some origin
    → AllByRecursion (λ d. d.request.session ≤ origin.sessions) t.setting.beginning.requests

-- these settings go on where an order over others stopped. They have its rows, and all that came before as their origin.
-- Of a session they tell what it did last, or nothing. Window, tables, procedures and additions may be others
pub record GoesOn (s : SiteSetting) (order : Order) (t : SiteSetting) : Type 0 where
  pub rows : t.setting.beginning.rows ≡ rows_behind s order
  pub origin : t.origin ≡ next_origin s order
  pub lasts : (session : ℕ) (last : DoneRequest) → get (first_lasts t) session ≡ Some last
      → get (sessions_after s order).lasts session ≡ Some last
  pub numbered : AreNumbered t

-- settings to which orders lead, the first of them over these settings, each other one over settings that go on
abbrev pub LeadsTo : SiteSetting → List Order → SiteSetting → Type 0
LeadsTo s [] t = t ≡ s
LeadsTo s (order ∷ orders) t = (next : SiteSetting) × GoesOn s order next × LeadsTo next orders t

-- an order over these settings comes too late for a request: its session was numbered before, and has done a request of
-- this number or a greater one last, as far as the settings tell of that session
pub record IsTooLate (t : SiteSetting) (request : RequestId) : Type 0 where
  pub origin : Origin
  pub opens : t.origin ≡ Some origin
  pub numbered : request.session ≤ origin.sessions
  pub last : (d : DoneRequest) → get (first_lasts t) request.session ≡ Some d → request.sequence ≤ d.request.sequence
