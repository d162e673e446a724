use Rattle.std.proofs.Common.{◌≡◌, ◌∙◌, sym, ap, Some, None, is_some, rules, tests}
use Rattle.std.specs.Prelude.{find, option_map}
use Rattle.std.proofs.lemmas.Iterator.{YieldsList-from_slice}
use Rattle.std.proofs.lemmas.Iterator.Search.{find_from_yields_List}
use Rattle.txn_view.proofs.SeenLemmas.{covered, put_found, no_put_found}
use Rattle.txn_view.proofs.seen.first_put.Goals as goal

pub returns-in_err-key : goal.returns-in_err-key
returns-in_err-key g c =
    let found : option_map (λ write. write.now) c.find.result ≡ find (λ write. is_some write.1) (covered c.args.look c.args.writes.now) =
    find_from_yields_List (λ write. is_some write.1) _ _ c.find.result c.find.ensures.ran (YieldsList-from_slice (covered c.args.look c.args.writes.now) c.range.ensures.rest) (λ x b q k. search (rules, tests)) in
    let none : c.find.result ≡ None = search rules in
    let nothing : c.from_residual.result ≡ None = search rules in
    rw nothing (sym (no_put_found c.args.look c.args.writes.now c.first_in_after_writes.ensures.put (sym found ∙ ap (option_map (λ write. write.now)) none)))

pub returns : goal.returns
returns g c =
    let found : option_map (λ write. write.now) c.find.result ≡ find (λ write. is_some write.1) (covered c.args.look c.args.writes.now) =
    find_from_yields_List (λ write. is_some write.1) _ _ c.find.result c.find.ensures.ran (YieldsList-from_slice (covered c.args.look c.args.writes.now) c.range.ensures.rest) (λ x b q k. search (rules, tests)) in
    let some : c.find.result ≡ Some c.in_ok-key.field-0 = search rules in
    let bytes : c.in_ok-key.field-0.now.1 ≡ Some c.as_slice.result.now = search rules in
    sym (put_found c.args.look c.args.writes.now c.in_ok-key.field-0.now.0 c.as_slice.result.now c.first_in_after_writes.ensures.put
    (sym found ∙ ap (option_map (λ write. write.now)) some ∙ ap (λ write. Some (c.in_ok-key.field-0.now.0, write)) bytes))
