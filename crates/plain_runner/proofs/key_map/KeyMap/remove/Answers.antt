use Rattle.std.proofs.Common.{◌∙◌, ap}
use Rattle.schema.specs.Rows.{key_cmp_total, key_cmp-IsAntisymmetric}
use Rattle.std.specs.FinMap.{remove}
use Rattle.schema.proofs.MapLemmas.{one_removed}
use Rattle.plain_runner.proofs.key_map.KeyMap.remove.Goals as goal

pub returns : goal.returns
returns g c = one_removed key_cmp_total key_cmp-IsAntisymmetric c.self.inside.map.entries c.remove.new.self.entries (c.args.table, c.args.key) c.remove.ensures.updates.0
    ∙ ap (λ m. remove m (c.args.table, c.args.key)) c.self.view_is
