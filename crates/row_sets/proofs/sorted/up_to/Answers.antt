use Rattle.std.proofs.Common.{rules}
use Rattle.std.proofs.lemmas.List.Sorted.{IsPartitionPoint-from_clause}
use Rattle.std.specs.Ordering.{is_le}
use Rattle.schema.specs.Rows.{key_cmp, key_cmp_total}
use Rattle.row_sets.proofs.OrderLemmas.{before_at_most, passing_before, parted}
use Rattle.row_sets.proofs.sorted.up_to.Goals as goal

pub returns : goal.returns
returns g c =
    let point = IsPartitionPoint-from_clause (λ w. is_le (key_cmp w.0 c.args.key)) c.args.writes.now c.partition_point-to.result c.partition_point-to.ensures.partitioned
    (parted key_cmp_total (λ k. is_le (key_cmp k c.args.key)) (before_at_most key_cmp_total c.args.key) c.args.writes.now c.requires) (λ a r q called. search rules) in
    passing_before (λ w. is_le (key_cmp w.0 c.args.key)) c.args.writes.now c.partition_point-to.result c.partition_point-to.ensures.bound point
