-- What the code's values stand for.
use Rattle.std.specs.Prelude.{◌≤◌}
use Rattle.schema.specs.declared.limits.TheConstants.{MAX_WINDOW}
use Rattle.site.specs.declared.settings.SiteSettings.{SiteSettings}
use Rattle.site_service.specs.declared.settings_reading.Reading.{Reading}
use Rattle.site_service.specs.Settings.{SettingsSoFar}

abbrev pub so_far : {A : Type 0} → Reading A → SettingsSoFar
so_far reading = record {
  settings = reading.settings;
  table_list = reading.table_list.items;
  takes_additions = reading.takes_additions;
  origin = reading.origin;
}

abbrev pub HasWindow : {A : Type 0} → SiteSettings A → Type 0
HasWindow s = (1 ≤ s.window) × (s.window ≤ MAX_WINDOW)
