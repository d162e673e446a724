use Rattle.dsm_model.proofs.ContentsLemmas.{first_is, verdict_next, delivered_next, copy_grown}
use Rattle.dsm_model.proofs.contents.deliveries_follow_the_log.Goals as goal

pub returns-clause-first : goal.returns-clause-first
returns-clause-first c = first_is

pub returns-clause-verdict : goal.returns-clause-verdict
returns-clause-verdict c = verdict_next

pub returns-clause-next : goal.returns-clause-next
returns-clause-next c = delivered_next

pub returns-clause-grown : goal.returns-clause-grown
returns-clause-grown c = copy_grown
