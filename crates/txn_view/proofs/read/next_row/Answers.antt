use Rattle.std.proofs.Common.{rules, ◌≡◌, ◌∷◌, [], ◌++◌, ◌∙◌, sym, ap, subst}
use Rattle.schema.specs.Rows.{first_in, after_writes}
use Rattle.bpf_semantics.specs.Helpers.{look_at, with_range_look, last_seen}
use Rattle.txn_view.specs.Found.{row_found}
use Rattle.txn_view.specs.View.{IsReadOf}
use Rattle.txn_view.proofs.ViewLemmas.{looked_at_range, not_ranged}
use Rattle.txn_view.proofs.read.next_row.Goals as goal
use Rattle.txn_view.proofs.read.next_row.Goals.{then-look+in_ok-add_range, else-look}

pub returns-clause-looked : goal.returns-clause-looked
returns-clause-looked g c = λ s v. (
    let look = c.args.look in
    let last = last_seen look.hi (first_in look s.rows) in
    let seen : row_found look.table c.in_ok-found.found ≡ first_in look (after_writes c.args.writes.now v.below) = search rules in
    elim c.if-look.branch [
      | then-look+in_ok-add_range w ↦
          (let hi : w.last_seen-hi.result ≡ last = w.last_seen-hi.ensures look.table ∙ ap (last_seen look.hi)
          (seen ∙ ap (λ writes. first_in look (after_writes writes v.below)) v.writes_are ∙ ap (first_in look) (sym v.rows_are)) in
          looked_at_range c.if-look.looks look.table look.lo look.hi last w.if-look.true
          (w.looks-is ∙ w.in_ok-add_range.ensures.added ∙ ap (λ hi. c.args.looks.now ++ look_at look.table look.lo hi ∷ []) hi) v)
      | else-look w ↦ subst (λ looks. IsReadOf (g.S.Store.answers_from c.args.store.now) looks c.args.writes.now (with_range_look look.table look.lo look.hi last s)) (sym w.looks-is) (not_ranged look.table look.lo look.hi last w.if-look.false v)
    ])
