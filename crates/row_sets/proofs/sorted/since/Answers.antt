use Rattle.std.proofs.Common.{◌∙◌, rules}
use Rattle.std.proofs.lemmas.List.{take_rest}
use Rattle.std.proofs.lemmas.List.Sorted.{IsPartitionPoint-from_clause}
use Rattle.std.specs.Ordering.{is_lt}
use Rattle.schema.specs.Rows.{key_cmp, key_cmp_total}
use Rattle.row_sets.proofs.OrderLemmas.{before_less, failing_behind, parted}
use Rattle.row_sets.proofs.sorted.since.Goals as goal

pub returns : goal.returns
returns g c =
    let point = IsPartitionPoint-from_clause (λ w. is_lt (key_cmp w.0 c.args.key)) c.args.writes.now c.partition_point-from.result c.partition_point-from.ensures.partitioned
    (parted key_cmp_total (λ k. is_lt (key_cmp k c.args.key)) (before_less key_cmp_total c.args.key) c.args.writes.now c.requires) (λ a r q called. search rules) in
    take_rest c.args.writes.now c.partition_point-from.result
    ∙ failing_behind (λ w. is_lt (key_cmp w.0 c.args.key)) c.args.writes.now c.partition_point-from.result c.partition_point-from.ensures.bound point
