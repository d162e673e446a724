use Rattle.schema.proofs.SplitLemmas.{split_covers, count_of_parts, first_of_parts}
use Rattle.schema.proofs.laws.looks.a_look_splits_at_a_key.Goals as goal

pub returns-clause-covers : goal.returns-clause-covers
returns-clause-covers c = split_covers

pub returns-clause-count : goal.returns-clause-count
returns-clause-count c = count_of_parts

pub returns-clause-first : goal.returns-clause-first
returns-clause-first c = first_of_parts
