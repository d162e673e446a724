use Rattle.schema.proofs.OverlayLemmas.{count_after, count_before, count_puts, count_under}
use Rattle.schema.proofs.laws.looks.count_in_after_writes.Goals as goal

pub returns-clause-after : goal.returns-clause-after
returns-clause-after c = count_after

pub returns-clause-before : goal.returns-clause-before
returns-clause-before c = count_before

pub returns-clause-puts : goal.returns-clause-puts
returns-clause-puts c = count_puts

pub returns-clause-under : goal.returns-clause-under
returns-clause-under c = count_under
