use Rattle.std.proofs.Common.{◌∙◌, sym, ap}
use Rattle.std.specs.FinMap.{get}
use Rattle.schema.specs.Schema.{Tables}
use Rattle.schema.proofs.SchemaLemmas.{get_width}
use Rattle.schema.proofs.schema.Schema.width.Goals as goal

pub returns : goal.returns
returns g c = c.copied.ensures ∙ c.get.ensures.value ∙ sym (get_width c.self.inside.widths.entries c.args.table)
    ∙ ap (λ (tables : Tables). get tables c.args.table) c.self.view_is
