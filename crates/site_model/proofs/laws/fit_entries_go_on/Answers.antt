use Rattle.site_model.proofs.FitLemmas.{one_more, next_verdict, rows_are}
use Rattle.site_model.proofs.laws.fit_entries_go_on.Goals as goal

pub returns-clause-one_more : goal.returns-clause-one_more
returns-clause-one_more c w entries e are placed fits carried = one_more w entries c.logs_whose_calls_fit.ensures.one_more c.one_more_entry_carries_its_run.ensures e are placed fits carried

pub returns-clause-next : goal.returns-clause-next
returns-clause-next c w entries e before are = next_verdict c.entries_suffice.ensures.verdicts w entries e before are

pub returns-clause-rows : goal.returns-clause-rows
returns-clause-rows c w entries position are le = rows_are w entries c.entries_suffice.ensures.verdicts c.logs_whose_calls_fit.ensures.installed position are le
