use Rattle.std.proofs.Common.{◌∙◌, sym, ap, filter}
use Rattle.std.specs.FinMap.{entries, entries-from_sorted}
use Rattle.schema.specs.Rows.{key_cmp, covers}
use Rattle.row_sets.proofs.write_set.WriteSet.range.Goals as goal

pub returns-clause-rest : goal.returns-clause-rest
returns-clause-rest g c = c.iter.ensures.rest ∙ c.between.ensures
    ∙ ap (filter (λ e. covers c.args.look e.0)) c.deref.ensures.value
    ∙ ap (filter (λ e. covers c.args.look e.0)) (sym (entries-from_sorted key_cmp c.self.inside.writes.items c.self.invariant) ∙ ap entries c.self.view_is)
