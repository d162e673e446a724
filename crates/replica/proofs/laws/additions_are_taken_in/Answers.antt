use Rattle.replica.proofs.AdditionLemmas.{addition_kept, addition_for, nothing_installed}
use Rattle.replica.proofs.laws.additions_are_taken_in.Goals as goal

pub returns-clause-kept : goal.returns-clause-kept
returns-clause-kept c = addition_kept

pub returns-clause-for_tables : goal.returns-clause-for_tables
returns-clause-for_tables c = addition_for

pub returns-clause-installs : goal.returns-clause-installs
returns-clause-installs c = nothing_installed
