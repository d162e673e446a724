use Rattle.std.proofs.Common.{◌≡◌, ◌∙◌, sym, ap, length, filter, rules, tests}
use Rattle.std.specs.FinMap.{len, retain_keys, len-entries}
use Rattle.std.proofs.lemmas.Iterator.Consumers.{YieldsList-from_rest, YieldsList-from_filter, YieldsList-at, count_from_yields_List}
use Rattle.schema.specs.Rows.{key_cmp_total, key_cmp-IsAntisymmetric, covers}
use Rattle.schema.proofs.MapLemmas.{entries-retain_keys}
use Rattle.plain_runner.proofs.key_map.KeyMap.count.Goals as goal

pub returns : goal.returns
returns g c =
    let counted : c.count.result ≡ length (filter (λ e. covers c.args.look e.0) c.self.inside.map.entries) =
    count_from_yields_List c.filter.result c.count.result c.count.ensures.ran
    (YieldsList-from_filter _ (λ e. covers c.args.look e.0) (YieldsList-at c.filter.ensures.source (YieldsList-from_rest c.self.inside.map.entries c.iter.ensures.rest)) c.filter.ensures.closure (λ x r q k. search (rules, tests))) in
    counted ∙ ap length (sym (entries-retain_keys key_cmp_total key_cmp-IsAntisymmetric c.self.inside.map.entries (covers c.args.look) c.iter.ensures.ordered))
    ∙ sym (len-entries _) ∙ ap (λ m. len (retain_keys m (covers c.args.look))) c.self.view_is
