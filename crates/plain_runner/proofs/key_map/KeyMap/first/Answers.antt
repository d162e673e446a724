use Rattle.std.proofs.Common.{◌≡◌, ◌∙◌, sym, ap, option_map, rules, tests}
use Rattle.std.specs.Prelude.{slice_get, find}
use Rattle.std.specs.Map.Iter.{deref_pair}
use Rattle.std.specs.FinMap.{entries, retain_keys}
use Rattle.std.proofs.lemmas.Iterator.Consumers.{YieldsList-from_rest}
use Rattle.std.proofs.lemmas.Iterator.Search.{find_from_yields_List}
use Rattle.schema.specs.Rows.{key_cmp_total, key_cmp-IsAntisymmetric, covers}
use Rattle.schema.proofs.MapLemmas.{entries-retain_keys}
use Rattle.plain_runner.proofs.ListedLemmas.{find-filter}
use Rattle.plain_runner.proofs.key_map.KeyMap.first.Goals as goal

pub returns : goal.returns
returns g c =
    let found : option_map deref_pair c.find.result ≡ find (λ e. covers c.args.look e.0) c.self.inside.map.entries =
    find_from_yields_List (λ e. covers c.args.look e.0) _ _ c.find.result c.find.ensures.ran (YieldsList-from_rest c.self.inside.map.entries c.iter.ensures.rest) (λ x b q k. search (rules, tests)) in
    found ∙ find-filter (λ e. covers c.args.look e.0) c.self.inside.map.entries
    ∙ ap (λ es. slice_get es 0) (sym (entries-retain_keys key_cmp_total key_cmp-IsAntisymmetric c.self.inside.map.entries (covers c.args.look) c.iter.ensures.ordered))
    ∙ ap (λ m. slice_get (entries (retain_keys m (covers c.args.look))) 0) c.self.view_is
