use Rattle.std.proofs.Common.{◌∙◌, sym, ap}
use Rattle.schema.specs.Rows.{key_cmp_total}
use Rattle.std.specs.FinMap.{get}
use Rattle.schema.proofs.MapLemmas.{get_at}
use Rattle.plain_runner.proofs.key_map.KeyMap.get.Goals as goal

pub returns : goal.returns
returns g c = c.get.ensures.value ∙ sym (get_at key_cmp_total c.self.inside.map.entries (c.args.table, c.args.key))
    ∙ ap (λ m. get m (c.args.table, c.args.key)) c.self.view_is
