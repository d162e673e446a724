use Rattle.std.proofs.Common.{◌∙◌, ap}
use Rattle.std.specs.Option.{option_map}
use Rattle.log_model.specs.Log.{by_number}
use Rattle.catalogue.specs.Catalogue.{SystemCatalogue, accepted_of}
use Rattle.catalogue.proofs.HeldLemmas.{numbered_for}
use Rattle.catalogue.proofs.catalogue.Catalogue.by_number.Goals as goal

pub returns : goal.returns
returns g c =
    c.by_number.ensures ∙ numbered_for c.self.inside.schema c.args.number c.self.inside.procedures c.self.invariant.for_tables
    ∙ ap (λ (v : SystemCatalogue). option_map (accepted_of v.tables) (by_number v.procedures c.args.number)) c.self.view_is
