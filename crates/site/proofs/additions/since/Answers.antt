use Rattle.std.proofs.Common.{◌≡◌, ◌∙◌, nat_eq, Option, sym, ap, rules, tests}
use Rattle.std.specs.Prelude.{find, option_map, reverse}
use Rattle.std.specs.Borrow.{Bor}
use Rattle.std.proofs.lemmas.Iterator.Adapters.{YieldsList-from_rev_slice}
use Rattle.std.proofs.lemmas.Iterator.Search.{find_from_yields_List}
use Rattle.site.specs.Replica.{position_of}
use Rattle.site.proofs.additions.since.Goals as goal

pub returns-in-Some : goal.returns-in-Some
returns-in-Some c =
    let found : option_map (λ x. x.now) c.find.result ≡ find (λ a. nat_eq a.0 c.args.number) (reverse c.args.additions.now) =
    find_from_yields_List (λ a. nat_eq a.0 c.args.number) _ _ c.find.result c.find.ensures.ran (YieldsList-from_rev_slice c.args.additions.now (search rules)) (λ x b q k. search (rules, tests)) in
    ap position_of (sym (ap (λ (r : Option (Bor _)). option_map (λ x. x.now) r) c.in-Some.is) ∙ found)

pub returns-in-None : goal.returns-in-None
returns-in-None c =
    let found : option_map (λ x. x.now) c.find.result ≡ find (λ a. nat_eq a.0 c.args.number) (reverse c.args.additions.now) =
    find_from_yields_List (λ a. nat_eq a.0 c.args.number) _ _ c.find.result c.find.ensures.ran (YieldsList-from_rev_slice c.args.additions.now (search rules)) (λ x b q k. search (rules, tests)) in
    ap position_of (sym (ap (λ (r : Option (Bor _)). option_map (λ x. x.now) r) c.in-None.is) ∙ found)
