-- What a site gives to be ordered.
use Rattle.std.specs.Prelude.{◌≡◌, List, length, Some}
use Rattle.log_model.specs.Log.{Setting, StoredProcedure, by_name, by_number, procedures_after}
use Rattle.log_model.specs.Entries.{Entry, items_of}
use Rattle.log_entry.specs.Fit.{CallFitsFields}
use Rattle.site_model.specs.Standing.{SiteSetting, executed}
use Rattle.site_model.specs.Order.{Order, order_entries}
use Rattle.site_model.specs.Answer.{Asked, asked_call}

-- behind these entries the procedure that is asked for has a number of its own, and the numbers and lengths of the call fit
-- their fields
pub record IsAskedBehind (w : Setting) (entries : List Entry) (asked : Asked) : Type 0 where
  pub procedure : StoredProcedure
  pub named : by_name (procedures_after w (items_of entries) (length entries)) asked.name ≡ Some procedure
  pub numbered : by_number (procedures_after w (items_of entries) (length entries)) procedure.number ≡ Some procedure
  pub fits : CallFitsFields (executed w (items_of entries) (asked_call (items_of entries) procedure asked))

-- and behind an order
abbrev pub IsAskedOf : SiteSetting → Order → Asked → Type 0
IsAskedOf s order asked = IsAskedBehind s.setting (order_entries s order) asked
