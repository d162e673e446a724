-- The settings of a site in code, and the model's.
use Rattle.catalogue.specs.Catalogue.{system_setting}
use Rattle.site_model.specs.Standing.{SiteSetting}
use Rattle.site.specs.declared.settings.SiteSettings.{SiteSettings}

abbrev pub site_setting : {A : Type 0} → SiteSettings A → SiteSetting
site_setting s = record {
  setting = system_setting s.catalogue s.window;
  table_list = s.table_list.items;
  takes_additions = s.takes_additions;
  origin = s.origin;
}
