use Rattle.std.proofs.Common.{◌∙◌, ◌<◌, sym, ap, subst}
use Rattle.rows_mv.specs.Versions.{Versions, AreEmpty, HaveTables}
use Rattle.rows_mv.proofs.FirstLemmas.{rows_fit}
use Rattle.rows_mv.proofs.versions.Versions.beginning_with.Goals as goal

pub put_first_rows-requires-clause-none : goal.put_first_rows-requires-clause-none
put_first_rows-requires-clause-none g c = subst AreEmpty (sym (ap (λ (v : Versions). v.tables) c.versions.view_is)) c.in_ok-versions.ensures.none

pub put_first_rows-requires-clause-fit : goal.put_first_rows-requires-clause-fit
put_first_rows-requires-clause-fit g c =
    rows_fit c.args.schema.now c.versions.inside.tables.items c.args.rows.now
    (subst (HaveTables c.args.schema.now) (sym (ap (λ (v : Versions). v.tables) c.versions.view_is)) c.in_ok-versions.ensures.tables)
    c.requires

pub returns-clause-tables : goal.returns-clause-tables
returns-clause-tables g c t width is =
    let have : HaveTables c.args.schema.now c.versions.inside.tables.items = subst (HaveTables c.args.schema.now) (sym (ap (λ (v : Versions). v.tables) c.versions.view_is)) c.in_ok-versions.ensures.tables in
    (subst (λ n. t < n) (sym c.put_first_rows.ensures.count) (have t width is).0, c.put_first_rows.ensures.widths t ∙ (have t width is).1)
