use Rattle.std.proofs.Common.{◌≡◌, ℕ, Bool, List, ◌++◌, ◌∙◌, length, map, ap, sym, subst, arith}
use Rattle.std.specs.List.{concat}
use Rattle.std.proofs.lemmas.List.{length-map}
use Rattle.site_model.specs.Next.{next_origin}
use Rattle.site.specs.Replica.{setting_of}
use Rattle.site_report.specs.SettingsText.{additions_lines, origin_lines, table_line, window_line}
use Rattle.site_service.proofs.DumpLemmas.{three_counts, three_texts}
use Rattle.site_service.proofs.answer_dump.append_first_lines.Goals as goal

pub returns-clause-text : goal.returns-clause-text
returns-clause-text g c order stands =
    let s = setting_of c.args.site.now in
    let origin = origin_lines (next_origin s order) in
    let text : window_line c.window.result ++ (concat (map table_line c.table_list-tables.result.now) ++ (concat (additions_lines c.takes_additions.result) ++ concat origin))
    ≡ window_line s.setting.window ++ concat (map table_line s.table_list ++ (additions_lines s.takes_additions ++ origin)) =
    (λ i. window_line (c.window.ensures i) ++ (concat (map table_line (c.table_list-tables.ensures i)) ++ (concat (additions_lines (c.takes_additions.ensures i)) ++ concat origin)))
    ∙ ap (λ (t : List ℕ). window_line s.setting.window ++ t) (three_texts (map table_line s.table_list) (additions_lines s.takes_additions) origin) in
    subst (g.S.ByteSink.appends c.args.sink.now c.append_next_origin-origin.new.sink) text
    (g.met.S.ByteSink.together _ _ _ _ _ c.append_window_line.ensures (g.met.S.ByteSink.together _ _ _ _ _ c.append_table_lines.ensures
    (g.met.S.ByteSink.together _ _ _ _ _ c.append_additions-additions.ensures.text (c.append_next_origin-origin.ensures.text order stands))))

pub returns-clause-count : goal.returns-clause-count
returns-clause-count g c order stands =
    let s = setting_of c.args.site.now in
    let all = three_counts (map table_line s.table_list) (additions_lines s.takes_additions) (origin_lines (next_origin s order)) in
    let tables : length c.table_list-tables.result.now ≡ length (map table_line s.table_list) = ap length c.table_list-tables.ensures ∙ sym (length-map s.table_list table_line) in
    let additions : c.append_additions-additions.result ≡ length (additions_lines s.takes_additions) =
    c.append_additions-additions.ensures.count ∙ ap (λ (b : Bool). length (additions_lines b)) c.takes_additions.ensures in
    let origin = c.append_next_origin-origin.ensures.count order stands in
    omega (arith, all, tables, additions, origin)
