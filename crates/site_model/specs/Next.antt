-- The setting of a database that goes on where an order stops (this product's own rules).
use Rattle.std.specs.Prelude.{ℕ, ◌+◌, List, map, length, Option}
use Rattle.std.specs.Option.{option_map}
use Rattle.std.specs.FinMap.{entries}
use Rattle.log_model.specs.Log.{Beginning, DoneRequest, procedures_after, rows_after}
use Rattle.site_model.specs.declared.origin.Origin.{Origin}
use Rattle.site_model.specs.Sessions.{Sessions, LastRequests}
use Rattle.site_model.specs.Standing.{SiteSetting}
use Rattle.site_model.specs.Order.{Order, order_log, sessions_after}

-- the last request of each session, by session
abbrev pub requests_of : LastRequests → List DoneRequest
requests_of lasts = map (λ e. e.1) (entries lasts)

-- what came before it: what came before this order, and the order
abbrev pub origin_behind : Origin → ℕ → Sessions → Origin
origin_behind origin strings known =
    record { strings = origin.strings + strings; sessions = origin.sessions + known.opened }

abbrev pub next_origin : SiteSetting → Order → Option Origin
next_origin s order = option_map (λ origin. origin_behind origin (length order) (sessions_after s order)) s.origin

-- what it has at first: what there is behind the order
abbrev pub beginning_behind : SiteSetting → Order → Beginning
beginning_behind s order = record {
  rows = rows_after s.setting (order_log s order) (length order);
  procedures = procedures_after s.setting (order_log s order) (length order);
  requests = requests_of (sessions_after s order).lasts;
}

-- window, tables and additions stay as they are
abbrev pub next_setting : SiteSetting → Order → SiteSetting
next_setting s order = record s {
  setting = record s.setting { beginning = beginning_behind s order };
  origin = next_origin s order;
}
