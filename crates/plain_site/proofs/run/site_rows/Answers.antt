use Rattle.std.proofs.Common.{◌≡◌, ◌∙◌, ◌+◌, ℕ, List, take, sym, ap, subst, arith}
use Rattle.std.specs.FinMap.{insert}
use Rattle.schema.specs.Rows.{Rows, AreRows, IsRow}
use Rattle.plain_runner.specs.Listed.{rows_of}
use Rattle.plain_site.proofs.SiteLemmas.{next_row}
use Rattle.plain_site.proofs.run.site_rows.Goals as goal

pub loop-row-init : goal.loop-row-init
loop-row-init g c = record {
  rows = c.new-map.ensures;
  fit = subst (AreRows c.args.schema.now) (sym c.new-map.ensures) (c.rows_stay_the_schemas.ensures.none c.args.schema.now);
}

pub loop-row-preserved : goal.loop-row-preserved
loop-row-preserved g c =
    let row = (c.fits.ensures.row c.key.result (let word = c.key.type_inv in omega arith)).0 c.if-not-fits.false in
    let same = c.new.ensures ∙ c.in_ok-bytes.ensures.items ∙ c.bytes-in-loop-row.ensures in
    let kept = subst (λ (table : ℕ). IsRow c.args.schema.now table c.key.result c.new.result) (c.table.ensures ∙ sym c.table-in-loop-row.ensures)
    (subst (IsRow c.args.schema.now c.table.result c.key.result) (c.bytes.ensures ∙ sym same) row) in
    record {
      rows =
          c.in_ok-insert.ensures
          ∙ ap (λ (map : Rows). insert map (c.table-in-loop-row.result, c.key.result) c.new.result) c.loop-row.invariant.rows
          ∙ ap (λ table. insert (rows_of (take c.loop-row.row-index c.args.rows.now)) (table, c.key.result) c.new.result) c.table-in-loop-row.ensures
          ∙ ap (λ key. insert (rows_of (take c.loop-row.row-index c.args.rows.now)) (c.row-item.result.0.0, key) c.new.result) c.key.ensures
          ∙ ap (λ bytes. insert (rows_of (take c.loop-row.row-index c.args.rows.now)) c.row-item.result.0 bytes) same
          ∙ ap (λ row. insert (rows_of (take c.loop-row.row-index c.args.rows.now)) row.0 row.1) c.row-item.is
          ∙ next_row c.row-item.result c.args.rows.now c.loop-row.row-index c.loop-row-test.true;
      fit = subst (AreRows c.args.schema.now) (sym c.in_ok-insert.ensures)
          (c.rows_stay_the_schemas.ensures.put c.args.schema.now c.loop-row.map c.table-in-loop-row.result c.key.result c.new.result kept c.loop-row.invariant.fit);
    }
