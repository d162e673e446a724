-- What stands in the way of a call that a site gave to be ordered.
use Rattle.std.specs.Prelude.{◌≡◌, ℕ, ◌<◌, ◌≤◌, ◌++◌, length, None}
use Rattle.log_model.specs.Log.{Call, run_in}
use Rattle.log_model.specs.Verdicts.{WroteWhatWasRead}
use Rattle.site_model.specs.Sessions.{session_cause}
use Rattle.site_model.specs.Standing.{SiteSetting}
use Rattle.site_model.specs.Order.{Order, order_log, sessions_after}
use Rattle.site_laws.specs.Requests.{request_done}

-- nothing that came between stands in the way of a call that ran behind an order. It isn't more than the window, and the
-- request wasn't done. Nothing is against the call for its session's sake. No call that committed wrote a key that the call
-- looked at
pub record IsFree (s : SiteSetting) (order between : Order) (call : Call) : Type 0 where
  pub recent : length between ≤ s.setting.window
  pub new : request_done s (order ++ between) call.request ≡ None
  pub in_session : session_cause s.origin (sessions_after s (order ++ between)) call.request ≡ None
  pub apart : (position : ℕ) → length order < position
      → WroteWhatWasRead s.setting (order_log s (order ++ between)) (run_in s.setting (order_log s order) call).looks position → ⊥
