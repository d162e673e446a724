use Rattle.std.proofs.Common.{◌≡◌, ◌∙◌, rules, tests}
use Rattle.std.proofs.lemmas.Iterator.{YieldsList-from_slice}
use Rattle.std.proofs.lemmas.Iterator.Search.{any_from_yields_List}
use Rattle.std.specs.List.{list_any}
use Rattle.schema.specs.Rows.{covers}
use Rattle.plain_replayer.proofs.BitLemmas.{any_by_covers}
use Rattle.plain_replayer.proofs.bits.any_covers.Goals as goal

pub returns : goal.returns
returns c =
    let asked : c.any.result ≡ list_any (λ look. covers look (c.args.table, c.args.key)) c.args.looks.now =
    any_from_yields_List (λ look. covers look (c.args.table, c.args.key)) _ _ c.any.result c.any.ensures.ran (YieldsList-from_slice c.args.looks.now (search rules)) (λ x b q k. search (rules, tests)) in
    asked ∙ any_by_covers c.args.looks.now (c.args.table, c.args.key)
