use Rattle.site_laws.proofs.fitting.catalogues_make_safe_settings.Goals as goal

pub returns-clause-safe : goal.returns-clause-safe
returns-clause-safe g c window = record { tables = c.each_catalogue_is_consistent.ensures.tables; begins = c.catalogues_are_safe.ensures window }

pub returns-clause-numbers : goal.returns-clause-numbers
returns-clause-numbers g c window = c.each_catalogue_is_consistent.ensures.numbers
