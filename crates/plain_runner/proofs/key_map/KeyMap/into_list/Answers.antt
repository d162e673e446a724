use Rattle.std.proofs.Common.{◌≡◌, ◌∙◌, ◌++◌, sym, ap}
use Rattle.std.specs.FinMap.{entries}
use Rattle.schema.specs.Rows.{key_cmp_total, key_cmp-IsAntisymmetric}
use Rattle.schema.proofs.MapLemmas.{entries-from_entries}
use Rattle.plain_runner.proofs.key_map.KeyMap.into_list.Goals as goal

pub loop-table-init : goal.loop-table-init
loop-table-init g c =
    let left : c.into_iter-table-iterator.result ≡ c.self.inside.map.entries = c.into_iter-table-iterator.ensures.into_iter_gives.0 in
    ap (λ items. items ++ c.into_iter-table-iterator.result) c.new-list.ensures.items
    ∙ left
    ∙ sym (entries-from_entries key_cmp_total key_cmp-IsAntisymmetric c.self.inside.map.entries c.len-ordered.ensures.ordered)
    ∙ ap entries c.self.view_is
