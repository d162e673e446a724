use Rattle.std.proofs.Common.{◌∙◌, sym, ap, subst, None}
use Rattle.std.specs.Prelude.{T}
use Rattle.std.specs.FinMap.{from_sorted, insert, is_sorted}
use Rattle.std.specs.FinMap.Entries.{is_sorted-put}
use Rattle.schema.specs.Rows.{key_cmp, key_cmp_total}
use Rattle.row_sets.proofs.OrderLemmas.{one_put}
use Rattle.row_sets.proofs.write_set.WriteSet.remove.Goals as goal

pub invariant_of-self-2 : goal.invariant_of-self-2
invariant_of-self-2 g c = subst (λ ws. T (is_sorted key_cmp ws)) (sym c.in_ok-put.ensures.done) (is_sorted-put key_cmp key_cmp_total (c.args.table, c.args.key) None c.self.inside.writes.items c.self.invariant)

pub returns-clause-written : goal.returns-clause-written
returns-clause-written g c =
    ap (λ ws. from_sorted {R = key_cmp} ws) c.in_ok-put.ensures.done
    ∙ one_put key_cmp_total (c.args.table, c.args.key) None c.self.inside.writes.items c.self.invariant
    ∙ ap (λ m. insert m (c.args.table, c.args.key) None) c.self.view_is
