use Rattle.std.proofs.Common.{◌≡◌, ◌∙◌, sym, ap, length, rules}
use Rattle.std.specs.FinMap.{len, len-entries, entries-from_sorted}
use Rattle.schema.specs.Rows.{key_cmp}
use Rattle.row_sets.proofs.write_set.WriteSet.len.Goals as goal

pub returns : goal.returns
returns g c =
    let held : c.len.result ≡ length c.self.inside.writes.items = search rules in
    held ∙ ap length (sym (entries-from_sorted key_cmp c.self.inside.writes.items c.self.invariant))
    ∙ sym (len-entries _) ∙ ap len c.self.view_is
