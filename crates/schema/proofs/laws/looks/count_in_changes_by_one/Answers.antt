use Rattle.schema.proofs.CountLemmas.{count_new, count_again, count_removed, count_absent, count_outside}
use Rattle.schema.proofs.laws.looks.count_in_changes_by_one.Goals as goal

pub returns-clause-new : goal.returns-clause-new
returns-clause-new c = count_new

pub returns-clause-again : goal.returns-clause-again
returns-clause-again c = count_again

pub returns-clause-removed : goal.returns-clause-removed
returns-clause-removed c = count_removed

pub returns-clause-absent : goal.returns-clause-absent
returns-clause-absent c = count_absent

pub returns-clause-outside : goal.returns-clause-outside
returns-clause-outside c = count_outside
