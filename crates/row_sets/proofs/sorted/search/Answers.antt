use Rattle.std.proofs.Common.{rules}
use Rattle.std.proofs.lemmas.List.Sorted.{answers_always}
use Rattle.schema.specs.Rows.{key_cmp, key_cmp_total}
use Rattle.row_sets.proofs.OrderLemmas.{comparisons_rise, found_there, found_gap}
use Rattle.row_sets.proofs.sorted.search.Goals as goal

pub returns-clause-found : goal.returns-clause-found
returns-clause-found g c =
    found_there (λ w. key_cmp w.0 c.args.key) _ c.binary_search_by_key.result
    (c.binary_search_by_key.ensures.position (λ w. w.0) (answers_always _ _ _ (λ f a r q called. search rules)))

pub returns-clause-absent : goal.returns-clause-absent
returns-clause-absent g c =
    found_gap (λ w. key_cmp w.0 c.args.key) _ c.binary_search_by_key.result
    (c.binary_search_by_key.ensures.position (λ w. w.0) (answers_always _ _ _ (λ f a r q called. search rules)))
    (comparisons_rise key_cmp_total c.args.key c.args.writes.now c.requires)
