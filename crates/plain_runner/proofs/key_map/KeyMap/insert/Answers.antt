use Rattle.std.proofs.Common.{◌∙◌, ap}
use Rattle.schema.specs.Rows.{key_cmp_total, key_cmp-IsAntisymmetric}
use Rattle.std.specs.FinMap.{insert}
use Rattle.schema.proofs.MapLemmas.{one_put}
use Rattle.plain_runner.proofs.key_map.KeyMap.insert.Goals as goal

pub returns : goal.returns
returns g c = one_put key_cmp_total key_cmp-IsAntisymmetric c.self.inside.map.entries c.insert.new.self.entries (c.args.table, c.args.key) c.args.value c.in_ok-insert.ensures.updates.0
    ∙ ap (λ m. insert m (c.args.table, c.args.key) c.args.value) c.self.view_is
