use Rattle.std.proofs.Common.{◌≡◌, ◌∙◌, rules, tests}
use Rattle.std.proofs.lemmas.Iterator.{YieldsList-from_slice}
use Rattle.std.proofs.lemmas.Iterator.Search.{any_from_yields_List}
use Rattle.std.specs.List.{list_any}
use Rattle.std.specs.FinMap.{keys}
use Rattle.schema.specs.Rows.{covers}
use Rattle.row_sets.proofs.WriteLemmas.{any_by_look}
use Rattle.row_sets.proofs.share.shares_key.Goals as goal

pub returns : goal.returns
returns g c =
    let asked : c.any.result ≡ list_any (λ look. list_any (covers look) (keys c.args.writes.now)) c.args.reads.now =
    any_from_yields_List (λ look. list_any (covers look) (keys c.args.writes.now)) _ _ c.any.result c.any.ensures.ran (YieldsList-from_slice c.args.reads.now (search rules)) (λ x b q k. search (rules, tests)) in
    asked ∙ any_by_look c.args.reads.now (keys c.args.writes.now)
