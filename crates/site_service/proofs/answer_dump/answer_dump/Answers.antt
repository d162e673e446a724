use Rattle.std.proofs.Common.{◌≡◌, ℕ, ◌+◌, List, ◌++◌, ◌∙◌, length, sym, subst, arith}
use Rattle.std.specs.List.{concat}
use Rattle.std.proofs.lemmas.List.{length-append}
use Rattle.std.proofs.lemmas.List.Folds.{concat-append}
use Rattle.site_model.specs.Next.{next_setting}
use Rattle.site.specs.Replica.{setting_of}
use Rattle.site_report.specs.SettingsText.{beginning_lines, first_lines, line_count_line, settings_lines}
use Rattle.site_service.proofs.answer_dump.answer_dump.Goals as goal

pub returns-clause-answered : goal.returns-clause-answered
returns-clause-answered g c order stands =
    let next = next_setting (setting_of c.args.site.now) order in
    let first = first_lines next in
    let beginning = beginning_lines next.setting.beginning in
    let rows = c.deref.ensures.value ∙ c.in_ok-rows.ensures order stands in
    let counted = c.append_first_lines-first.ensures.count order stands in
    let more = c.append_beginning_lines-beginning.ensures.count order stands rows in
    let count : c.append_first_lines-first.result + c.append_beginning_lines-beginning.result ≡ length (settings_lines next) =
    (λ i. counted i + more i) ∙ sym (length-append first beginning) in
    let text : (concat first ++ concat beginning) ++ line_count_line c.position.result (c.append_first_lines-first.result + c.append_beginning_lines-beginning.result)
    ≡ concat (settings_lines next) ++ line_count_line (length order) (length (settings_lines next)) =
    λ i. sym (concat-append first beginning) i ++ line_count_line (c.position.ensures.count order stands i) (count i) in
    subst (g.S.ByteSink.appends c.args.sink.now c.append_line_count_line.new.sink) text
    (g.met.S.ByteSink.together _ _ _ _ _
    (g.met.S.ByteSink.together _ _ _ _ _ (c.append_first_lines-first.ensures.text order stands) (c.append_beginning_lines-beginning.ensures.text order stands rows))
    c.append_line_count_line.ensures)
