use Rattle.acceptance.proofs.Joins.{join_known, join_left, join_right}
use Rattle.acceptance.proofs.laws.joins_describe_both.Goals as goal

pub returns-clause-known : goal.returns-clause-known
returns-clause-known c = join_known

pub returns-clause-left : goal.returns-clause-left
returns-clause-left c = join_left

pub returns-clause-right : goal.returns-clause-right
returns-clause-right c = join_right
