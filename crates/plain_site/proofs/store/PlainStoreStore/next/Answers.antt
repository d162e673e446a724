use Rattle.std.proofs.Common.{◌≡◌, ◌∙◌, sym, ap, Some, rules}
use Rattle.schema.specs.Rows.{first_in}
use Rattle.plain_site.proofs.store.PlainStoreStore.next.Goals as goal

pub returns-in-Some-clause-found : goal.returns-in-Some-clause-found
returns-in-Some-clause-found g c = λ rows same. (
    let k = c.in-Some.key.now in
    let found : Some (k, c.as_slice.result.now) ≡ first_in c.args.look c.args.self.now.rows.now = search rules in
    let covered = (c.first_is_least.ensures.found c.args.look c.args.self.now.rows.now k c.as_slice.result.now).0 (sym found) in
    let table : c.args.look.table ≡ k.0 = ((c.looks_cover_from_lo_to_hi.ensures.one c.args.look k).0 covered.covered).0 in
    (λ i. Some ((table i, k.1), c.as_slice.result.now)) ∙ found ∙ ap (first_in c.args.look) (sym same))

pub returns-in-Some-clause-covered : goal.returns-in-Some-clause-covered
returns-in-Some-clause-covered g c =
    let k = c.in-Some.key.now in
    let found : Some (k, c.as_slice.result.now) ≡ first_in c.args.look c.args.self.now.rows.now = search rules in
    let covered = (c.first_is_least.ensures.found c.args.look c.args.self.now.rows.now k c.as_slice.result.now).0 (sym found) in
    let at = (c.looks_cover_from_lo_to_hi.ensures.one c.args.look k).0 covered.covered in
    (at.1, at.2)
