use Rattle.std.proofs.Common.{◌≡◌, ◌∙◌, List, ◌∷◌, refl, sym, ap, subst, arith}
use Rattle.std.specs.Prelude.{is_some}
use Rattle.std.specs.FinMap.{find, get-entries}
use Rattle.schema.specs.Rows.{key_cmp}
use Rattle.key_table.specs.Table.{versions_at}
use Rattle.rows_mv.specs.Versions.{slots_of}
use Rattle.row_chain.specs.Version.{row_up_to}
use Rattle.rows_mv.proofs.LoopLemmas.{AreSorted, later_sorted}
use Rattle.rows_mv.proofs.FirstLemmas.{Row, AreLeftOf, rows_sorted, none_put, first_left, later_left, put_one, still_left}
use Rattle.rows_mv.proofs.first.put_first_rows.Goals as goal

pub loop-row-init : goal.loop-row-init
loop-row-init g c =
    let whole = c.into_iter-row-iterator.ensures.into_iter_gives ∙ c.rows-row-items.ensures in
    record {
      sorted = rows_sorted c.args.rows.now c.into_iter-row-iterator.result whole;
      left = λ k there. ap (λ (l : List Row). find key_cmp k l) whole ∙ sym (get-entries c.args.rows.now k);
      answers = λ s k. ap (row_up_to s) (c.requires.none k) ∙ none_put c.args.rows.now c.into_iter-row-iterator.result k whole;
      widths = λ t. refl;
      count = refl;
    }

pub put_first-requires-clause-table : goal.put_first-requires-clause-table
put_first-requires-clause-table g c =
    let x : Row = ((c.in-Some.row.table, c.in-Some.row.key), c.in-Some.row.bytes.now) in
    let there = first_left c.args.rows.now x c.next.new.self (subst (AreLeftOf c.args.rows.now) c.in-Some.ensures.steps c.loop-row.invariant.left) in
    let few = c.requires.fit.table x.0 (ap is_some there) in
    let count = c.loop-row.invariant.count in
    omega arith

pub put_first-requires-clause-width : goal.put_first-requires-clause-width
put_first-requires-clause-width g c =
    let x : Row = ((c.in-Some.row.table, c.in-Some.row.key), c.in-Some.row.bytes.now) in
    let there = first_left c.args.rows.now x c.next.new.self (subst (AreLeftOf c.args.rows.now) c.in-Some.ensures.steps c.loop-row.invariant.left) in
    c.requires.fit.width x.0 x.1 there ∙ sym (c.loop-row.invariant.widths x.0.0)

pub loop-row-preserved : goal.loop-row-preserved
loop-row-preserved g c =
    let x : Row = ((c.in-Some.row.table, c.in-Some.row.key), c.in-Some.row.bytes.now) in
    let rest : List Row = c.next.new.self in
    let steps : c.loop-row.row-iterator ≡ x ∷ rest = c.in-Some.ensures.steps in
    let sorted : AreSorted (x ∷ rest) = subst AreSorted steps c.loop-row.invariant.sorted in
    let left : AreLeftOf c.args.rows.now (x ∷ rest) = subst (AreLeftOf c.args.rows.now) steps c.loop-row.invariant.left in
    record {
      sorted = later_sorted x rest sorted;
      left = later_left c.args.rows.now x rest sorted left;
      answers = λ s k.
          put_one s c.args.rows.now x rest k (versions_at (slots_of c.loop-row.tables.items k.0) k.1) (versions_at (slots_of c.put_first.new.tables.items k.0) k.1)
          sorted left
          (c.loop-row.invariant.answers s k ∙ still_left c.args.rows.now k steps)
          (c.in_ok-put_first.ensures.versions k);
      widths = λ t. c.put_first.ensures.widths t ∙ c.loop-row.invariant.widths t;
      count = c.put_first.ensures.count ∙ c.loop-row.invariant.count;
    }
