use Rattle.std.proofs.Common.{◌∙◌, sym, ap, is_some}
use Rattle.schema.specs.Rows.{key_cmp}
use Rattle.std.specs.FinMap.{find, get, get-from_sorted}
use Rattle.row_sets.proofs.WriteLemmas.{is_some_map}
use Rattle.row_sets.proofs.write_set.WriteSet.contains.Goals as goal

pub returns : goal.returns
returns g c = c.is_some.ensures ∙ is_some_map (λ write. write.now) c.find.result ∙ ap is_some (c.find.ensures ∙ ap (find key_cmp (c.args.table, c.args.key)) c.deref.ensures.value ∙ sym (get-from_sorted key_cmp c.self.inside.writes.items (c.args.table, c.args.key) c.self.invariant) ∙ ap (λ m. get m (c.args.table, c.args.key)) c.self.view_is)
