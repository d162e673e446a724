use Rattle.dsm_model.proofs.ContentsLemmas.{rebuilt_copy, rebuilt_position}
use Rattle.dsm_model.proofs.contents.new_contents_follow_the_log.Goals as goal

pub returns-clause-copy : goal.returns-clause-copy
returns-clause-copy c = rebuilt_copy

pub returns-clause-position : goal.returns-clause-position
returns-clause-position c = rebuilt_position
