use Rattle.std.proofs.Common.{◌≡◌, ◌∙◌, sym, length, filter, is_some, rules, tests}
use Rattle.std.specs.FinMap.{entries}
use Rattle.std.proofs.lemmas.Iterator.Consumers.{YieldsList-from_filter, YieldsList-at, count_from_yields_List}
use Rattle.std.proofs.lemmas.Iterator.{YieldsList-from_slice}
use Rattle.schema.specs.Rows.{covers}
use Rattle.txn_view.proofs.SeenLemmas.{covered, counted_both}
use Rattle.txn_view.proofs.seen.count_puts.Goals as goal

pub returns : goal.returns
returns g c =
    let counted : c.count.result ≡ length (filter (λ write. is_some write.1) (covered c.args.look c.args.writes.now)) =
    count_from_yields_List c.filter.result c.count.result c.count.ensures.ran
    (YieldsList-from_filter _ (λ write. is_some write.1) (YieldsList-at c.filter.ensures.source (YieldsList-from_slice (covered c.args.look c.args.writes.now) c.range.ensures.rest)) c.filter.ensures.closure (λ x r q k. search (rules, tests))) in
    counted ∙ counted_both (λ write. covers c.args.look write.0) (λ write. is_some write.1) (entries c.args.writes.now)
    ∙ sym (c.count_in_after_writes.ensures.puts c.args.look c.args.writes.now)
