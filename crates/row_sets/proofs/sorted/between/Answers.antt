use Rattle.std.proofs.Common.{◌∙◌, sym, ap, subst, filter, not}
use Rattle.std.specs.Prelude.{T}
use Rattle.std.specs.FinMap.{is_sorted}
use Rattle.std.specs.FinMap.Entries.{is_sorted-where_key}
use Rattle.std.specs.Ordering.{is_le, is_lt}
use Rattle.schema.specs.Rows.{Key, key_cmp}
use Rattle.row_sets.proofs.OrderLemmas.{passing_both}
use Rattle.row_sets.proofs.WriteLemmas.{covers_between}
use Rattle.row_sets.proofs.sorted.between.Goals as goal

pub up_to-requires : goal.up_to-requires
up_to-requires g c =
    let lo : Key = (c.args.look.table, c.args.look.lo) in
    subst (λ ws. T (is_sorted key_cmp ws)) (sym c.since-from.ensures) (is_sorted-where_key key_cmp (λ k. not (is_lt (key_cmp k lo))) c.args.writes.now c.requires)

pub returns : goal.returns
returns g c =
    let lo : Key = (c.args.look.table, c.args.look.lo) in
    let hi : Key = (c.args.look.table, c.args.look.hi) in
    c.up_to.ensures
    ∙ ap (filter (λ w. is_le (key_cmp w.0 hi))) c.since-from.ensures
    ∙ passing_both (λ w. not (is_lt (key_cmp w.0 lo))) (λ w. is_le (key_cmp w.0 hi)) c.args.writes.now
    ∙ (λ i. filter (λ w. covers_between c.args.look w.0 i) c.args.writes.now)
