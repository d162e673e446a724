use Rattle.std.proofs.Common.{◌∙◌, ◌∷◌, ◌++◌, [], List, sym, ap}
use Rattle.std.specs.Prelude.{is_ok}
use Rattle.row_sets.specs.FlatRows.{Row}
use Rattle.row_sets.proofs.FlatRowsLemmas.{all_pushed}
use Rattle.row_sets.proofs.flat_rows.FlatRows.push.Goals as goal

pub invariant_of-self-2 : goal.invariant_of-self-2
invariant_of-self-2 g c =
    (all_pushed c.self.inside.keys.items c.push-keyed.new.self.items c.reserve.new.self.items c.self.inside.lengths.items c.push-counted.new.self.items c.reserve-2.new.self.items c.self.inside.bytes.items c.extend_from_slice.new.self.items
    (c.args.table, c.args.key) c.args.bytes.now (is_ok c.push-keyed.result) (is_ok c.push-counted.result) c.push-keyed.ensures.items (sym c.is_ok.ensures.value ∙ c.if-prove.false) c.in_ok-reserve.ensures.items
    c.push-counted.ensures.items (sym c.is_ok-2.ensures.value ∙ c.if-prove-2.false) c.in_ok-reserve-2.ensures.items c.in_ok-extend_from_slice.ensures.items c.self.invariant).0

pub returns-clause-pushed : goal.returns-clause-pushed
returns-clause-pushed g c =
    (all_pushed c.self.inside.keys.items c.push-keyed.new.self.items c.reserve.new.self.items c.self.inside.lengths.items c.push-counted.new.self.items c.reserve-2.new.self.items c.self.inside.bytes.items c.extend_from_slice.new.self.items
    (c.args.table, c.args.key) c.args.bytes.now (is_ok c.push-keyed.result) (is_ok c.push-counted.result) c.push-keyed.ensures.items (sym c.is_ok.ensures.value ∙ c.if-prove.false) c.in_ok-reserve.ensures.items
    c.push-counted.ensures.items (sym c.is_ok-2.ensures.value ∙ c.if-prove-2.false) c.in_ok-reserve-2.ensures.items c.in_ok-extend_from_slice.ensures.items c.self.invariant).1
    ∙ ap (λ (rows : List Row). rows ++ ((c.args.table, c.args.key), c.args.bytes.now) ∷ []) c.self.view_is
