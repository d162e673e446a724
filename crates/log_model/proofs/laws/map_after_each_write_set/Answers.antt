use Rattle.log_model.proofs.InstalledLemmas.{none_installed, laid_on, left_out}
use Rattle.log_model.proofs.laws.map_after_each_write_set.Goals as goal

pub returns-clause-none : goal.returns-clause-none
returns-clause-none c = none_installed

pub returns-clause-later : goal.returns-clause-later
returns-clause-later c = laid_on

pub returns-clause-before : goal.returns-clause-before
returns-clause-before c = left_out
