use Rattle.std.proofs.Common.{arith, ◌≡◌, ℕ, ◌+◌, List, [], ◌++◌, ◌∙◌, ap, get_or, sym, subst, drop, map}
use Rattle.std.proofs.lemmas.List.{at_drop_more, append_assoc, append-nil}
use Rattle.std.proofs.Math.ListN.{drop_of_length-le}
use Rattle.std.specs.List.{concat}
use Rattle.site_report.specs.SettingsText.{table_line}
use Rattle.site_report.proofs.settings.append_table_lines.Goals as goal

pub loop-table-preserved : goal.loop-table-preserved
loop-table-preserved g c =
    let so_far = c.loop-table.invariant in
    let row : List ℕ = table_line (get_or c.args.tables.now c.loop-table.table-index (0, 0)) in
    let rest : List ℕ = concat (map table_line (drop (c.loop-table.table-index + 1) c.args.tables.now)) in (
      so_far.0 ++ row,
      g.met.S.ByteSink.together _ _ _ _ _ so_far.1 c.append_table_line.ensures,
      append_assoc so_far.0 row rest
          ∙ sym (at_drop_more (λ (left : List (ℕ × ℕ)). so_far.0 ++ concat (map table_line left)) c.args.tables.now c.loop-table.table-index (0, 0) c.loop-table-test.true)
          ∙ so_far.2,
    )
