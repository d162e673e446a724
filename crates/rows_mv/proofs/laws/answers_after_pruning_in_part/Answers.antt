use Rattle.rows_mv.proofs.VersionsLemmas.{answers_partly_pruned}
use Rattle.rows_mv.proofs.laws.answers_after_pruning_in_part.Goals as goal

pub returns : goal.returns
returns c s horizon old new rows is le from = answers_partly_pruned s horizon old new rows is le from
