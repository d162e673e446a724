use Rattle.std.proofs.Common.{◌∙◌, sym, ap}
use Rattle.std.specs.FinMap.{entries, entries-from_sorted}
use Rattle.schema.specs.Rows.{key_cmp}
use Rattle.row_sets.proofs.write_set.WriteSet.iter.Goals as goal

pub returns-clause-rest : goal.returns-clause-rest
returns-clause-rest g c = c.iter.ensures.rest ∙ c.deref.ensures.value ∙ sym (entries-from_sorted key_cmp c.self.inside.writes.items c.self.invariant) ∙ ap entries c.self.view_is
