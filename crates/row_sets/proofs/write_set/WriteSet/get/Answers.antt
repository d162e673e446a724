use Rattle.std.proofs.Common.{◌∙◌, sym, ap, rules}
use Rattle.schema.specs.Rows.{key_cmp}
use Rattle.std.specs.FinMap.{find, get, get-from_sorted}
use Rattle.row_sets.proofs.write_set.WriteSet.get.Goals as goal

pub returns-in-Some-Some : goal.returns-in-Some-Some
returns-in-Some-Some g c =
    let found = c.find.ensures ∙ ap (find key_cmp (c.args.table, c.args.key)) c.deref.ensures.value ∙ sym (get-from_sorted key_cmp c.self.inside.writes.items (c.args.table, c.args.key) c.self.invariant) ∙ ap (λ m. get m (c.args.table, c.args.key)) c.self.view_is in
    search rules

pub returns-in-Some-None : goal.returns-in-Some-None
returns-in-Some-None g c =
    let found = c.find.ensures ∙ ap (find key_cmp (c.args.table, c.args.key)) c.deref.ensures.value ∙ sym (get-from_sorted key_cmp c.self.inside.writes.items (c.args.table, c.args.key) c.self.invariant) ∙ ap (λ m. get m (c.args.table, c.args.key)) c.self.view_is in
    search rules

pub returns-in-None : goal.returns-in-None
returns-in-None g c =
    let found = c.find.ensures ∙ ap (find key_cmp (c.args.table, c.args.key)) c.deref.ensures.value ∙ sym (get-from_sorted key_cmp c.self.inside.writes.items (c.args.table, c.args.key) c.self.invariant) ∙ ap (λ m. get m (c.args.table, c.args.key)) c.self.view_is in
    search rules
