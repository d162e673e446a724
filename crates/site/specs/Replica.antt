-- A site, and the order for which it stands.
use Rattle.std.specs.Prelude.{◌≡◌, ℕ, ◌<◌, ◌≤◌, ◌==◌, find, Bool, false, List, map, length, reverse, Option, Some, None, refl}
use Rattle.std.specs.Coded.{Coded, code_by, coded×, coded_ℕ, coded_bool, coded_list, coded_option}
use Rattle.std.specs.FinMap as finite
use Rattle.catalogue.specs.Catalogue.{SystemCatalogue, system_setting}
use Rattle.catalogue.specs.Held.{catalogue_code}
use Rattle.log_model.specs.Log.{Setting, Log, by_number, procedures_after}
use Rattle.log_model.specs.Codes.{done_code}
use Rattle.log_model.specs.Entries.{Entry, items_of}
use Rattle.replica.specs.Replica.{Replica, StandsIn}
use Rattle.replica.specs.Codes.{replica_code}
use Rattle.site_model.specs.Fit.{AreFitEntries}
use Rattle.site_model.specs.Standing.{SiteSetting}
use Rattle.site_model.specs.Order.{Order, order_entries, reply_in, sessions_after}
use Rattle.site_model.specs.Sessions.{LastRequests, Sessions}
use Rattle.site_model.specs.declared.origin.Origin.{Origin}

-- the tables and what the database begins with, the tables in the order in which they were told, whether procedures may be added,
-- what came before the order, what its replica keeps, the reply at each position, the positions of the procedures that were
-- added, by number, and what is known of sessions
pub record SiteReplica : Type 0 where
  pub catalogue : SystemCatalogue
  pub table_list : List (ℕ × ℕ)
  pub takes_additions : Bool
  pub origin : Option Origin
  pub replica : Replica
  pub replies : List ℕ
  pub additions : List (ℕ × ℕ)
  pub sessions : Sessions

abbrev pub setting_of : SiteReplica → SiteSetting
setting_of s = record {
  setting = system_setting s.catalogue s.replica.window;
  table_list = s.table_list;
  takes_additions = s.takes_additions;
  origin = s.origin;
}

-- ---- since when a number is a procedure's

abbrev pub position_of : Option (ℕ × ℕ) → ℕ
position_of None = 0
position_of (Some addition) = addition.1

-- the position at which the procedure of a number was added, the last of these; 0 where none was
abbrev pub since_of : List (ℕ × ℕ) → ℕ → ℕ
since_of additions number = position_of (find (λ a. a.0 == number) (reverse additions))

-- from its position on a number is that of the same procedure, and before it of none
pub record KnowsSince (w : Setting) (log : Log) (additions : List (ℕ × ℕ)) : Type 0 where
  pub reached : (number : ℕ) → since_of additions number ≤ length log
  pub from : (number position : ℕ) → since_of additions number ≤ position → position ≤ length log
      → by_number (procedures_after w log position) number ≡ by_number (procedures_after w log (length log)) number
  pub before : (number position : ℕ) → position < since_of additions number
      → by_number (procedures_after w log position) number ≡ None

-- ---- the order

abbrev pub reply_of : Entry → ℕ
reply_of e = reply_in (Some e)

-- what it keeps is of the log of this order
pub record StandsForLog (s : SiteReplica) (entries : List Entry) : Type 0 where
  pub running : s.replica.stopped ≡ false
  pub stands : StandsIn (setting_of s).setting s.replica entries
  pub of_log : AreFitEntries (setting_of s).setting entries
  pub replies : s.replies ≡ map reply_of entries
  pub since : KnowsSince (setting_of s).setting (items_of entries) s.additions

-- and what it knows of sessions is what the order did
pub record StandsForOrder (s : SiteReplica) (order : Order) : Type 0 where
  pub log : StandsForLog s (order_entries (setting_of s) order)
  pub sessions : s.sessions ≡ sessions_after (setting_of s) order

-- ---- how sites are told from others, as the checker needs it

abbrev origin_code : Coded Origin
origin_code = code_by (ℕ × ℕ) (coded× coded_ℕ coded_ℕ) (λ o. (o.strings, o.sessions)) (λ c. record { strings = c.0; sessions = c.1 }) (λ _. refl)

abbrev pairs_code : Coded (List (ℕ × ℕ))
pairs_code = coded_list (coded× coded_ℕ coded_ℕ)

abbrev pub sessions_code : Coded Sessions
sessions_code = code_by (ℕ × LastRequests) (coded× coded_ℕ (finite.code coded_ℕ done_code))
    (λ s. (s.opened, s.lasts)) (λ c. record { opened = c.0; lasts = c.1 }) (λ _. refl)

abbrev pub site_code : Coded SiteReplica
site_code = code_by (SystemCatalogue × (List (ℕ × ℕ) × (Bool × (Option Origin × (Replica × (List ℕ × (List (ℕ × ℕ) × Sessions)))))))
    (coded× catalogue_code (coded× pairs_code (coded× coded_bool (coded× (coded_option origin_code) (coded× replica_code
    (coded× (coded_list coded_ℕ) (coded× pairs_code sessions_code)))))))
    (λ s. (s.catalogue, (s.table_list, (s.takes_additions, (s.origin, (s.replica, (s.replies, (s.additions, s.sessions))))))))
    (λ c. record {
      catalogue = c.0;
      table_list = c.1.0;
      takes_additions = c.1.1.0;
      origin = c.1.1.1.0;
      replica = c.1.1.1.1.0;
      replies = c.1.1.1.1.1.0;
      additions = c.1.1.1.1.1.1.0;
      sessions = c.1.1.1.1.1.1.1;
    })
    (λ _. refl)
