use Rattle.schema.proofs.OverlayLemmas.{no_first_elsewhere, first_unwritten, first_above}
use Rattle.schema.proofs.laws.looks.first_elsewhere_is_found_in_turn.Goals as goal

pub returns-clause-none : goal.returns-clause-none
returns-clause-none c = no_first_elsewhere

pub returns-clause-found : goal.returns-clause-found
returns-clause-found c = first_unwritten

pub returns-clause-above : goal.returns-clause-above
returns-clause-above c = first_above
