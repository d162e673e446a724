use Rattle.std.proofs.Common.{◌≡◌, ◌∙◌, rules, tests}
use Rattle.std.proofs.lemmas.Iterator.{YieldsList-from_slice}
use Rattle.std.proofs.lemmas.Iterator.Search.{any_from_yields_List}
use Rattle.std.specs.List.{list_any}
use Rattle.schema.specs.Rows.{any_covers}
use Rattle.plain_replayer.proofs.BitLemmas.{any_of_map}
use Rattle.plain_replayer.proofs.bits.shares_key.Goals as goal

pub returns : goal.returns
returns g c =
    let asked : c.any.result ≡ list_any (λ write. any_covers c.args.looks.now write.0) c.args.writes.now =
    any_from_yields_List (λ write. any_covers c.args.looks.now write.0) _ _ c.any.result c.any.ensures.ran (YieldsList-from_slice c.args.writes.now (search rules)) (λ x b q k. search (rules, tests)) in
    asked ∙ any_of_map (any_covers c.args.looks.now) (λ write. write.0) c.args.writes.now
