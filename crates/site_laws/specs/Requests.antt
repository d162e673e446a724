-- Where a request was done, and what was replied.
use Rattle.std.specs.Prelude.{ℕ, List, Option}
use Rattle.std.specs.Option.{option_map}
use Rattle.log_model.specs.declared.request.RequestId.{RequestId}
use Rattle.log_model.specs.Log.{done_at, history}
use Rattle.log_model.specs.Entries.{Entry}
use Rattle.site_model.specs.Standing.{SiteSetting}
use Rattle.site_model.specs.Order.{Order, order_entries, order_log, reply_to}

-- a position, and the reply to a request that was done there
abbrev pub with_reply : SiteSetting → List Entry → Option RequestId → ℕ → ℕ × ℕ
with_reply s entries request position = (position, reply_to s.setting entries request position)

-- the position at which a request was done, behind an order, and its reply; the position is 0 where that was before the order
abbrev pub request_done : SiteSetting → Order → Option RequestId → Option (ℕ × ℕ)
request_done s order request =
    option_map (with_reply s (order_entries s order) request)
    (done_at s.setting.beginning.requests (history s.setting (order_log s order)).certified request)
