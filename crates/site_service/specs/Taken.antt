-- Orders that a site takes.
use Rattle.std.specs.Prelude.{◌≡◌, ℕ, ◌<◌, false, length}
use Rattle.site_model.specs.Standing.{SiteSetting}
use Rattle.site_model.specs.Order.{Order}
use Rattle.site_service.specs.LineAnswers.{is_full}

-- the order had a position for each of its byte strings
abbrev pub HasRoom : SiteSetting → Order → Type 0
HasRoom s order = (count : ℕ) → count < length order → is_full s count ≡ false
