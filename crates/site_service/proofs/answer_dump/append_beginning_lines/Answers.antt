use Rattle.std.proofs.Common.{◌≡◌, ℕ, List, ◌++◌, ◌∙◌, length, map, ap, sym, subst, arith}
use Rattle.std.specs.List.{concat}
use Rattle.std.specs.FinMap.{entries}
use Rattle.std.proofs.lemmas.List.{length-map}
use Rattle.catalogue.specs.Stored.{stored, stored_procedures}
use Rattle.site_model.specs.Sessions.{Sessions}
use Rattle.site_model.specs.Next.{beginning_behind, requests_of}
use Rattle.site.specs.Replica.{setting_of}
use Rattle.site_report.specs.SettingsText.{procedure_line, request_line, row_setting_line}
use Rattle.site_service.proofs.DumpLemmas.{three_counts, three_texts}
use Rattle.site_service.proofs.answer_dump.append_beginning_lines.Goals as goal

pub returns-clause-text : goal.returns-clause-text
returns-clause-text g c order stands are =
    let b = beginning_behind (setting_of c.args.site.now) order in
    let procedures : stored_procedures c.list.result ≡ b.procedures = ap stored_procedures c.list.ensures.list ∙ c.procedures.ensures order stands in
    let requests : c.requests.result ≡ b.requests =
    c.requests.ensures.requests ∙ ap (λ (known : Sessions). requests_of known.lasts) (c.behind-site.view_is ∙ c.sessions.ensures order stands) in
    subst (g.S.ByteSink.appends c.args.sink.now c.append_request_lines-requests.new.sink)
    ((λ i. concat (map procedure_line (procedures i)) ++ (concat (map row_setting_line (are i)) ++ concat (map request_line (requests i))))
    ∙ three_texts (map procedure_line b.procedures) (map row_setting_line (entries b.rows)) (map request_line b.requests))
    (g.met.S.ByteSink.together _ _ _ _ _ c.append_procedure_lines-procedures.ensures.text
    (g.met.S.ByteSink.together _ _ _ _ _ c.append_row_settings.ensures c.append_request_lines-requests.ensures.text))

pub returns-clause-count : goal.returns-clause-count
returns-clause-count g c order stands are =
    let b = beginning_behind (setting_of c.args.site.now) order in
    let all = three_counts (map procedure_line b.procedures) (map row_setting_line (entries b.rows)) (map request_line b.requests) in
    let procedures : length c.list.result ≡ length (map procedure_line b.procedures) =
    sym (length-map c.list.result stored) ∙ ap length (ap stored_procedures c.list.ensures.list ∙ c.procedures.ensures order stands) ∙ sym (length-map b.procedures procedure_line) in
    let requests : length c.requests.result ≡ length (map request_line b.requests) =
    ap length (c.requests.ensures.requests ∙ ap (λ (known : Sessions). requests_of known.lasts) (c.behind-site.view_is ∙ c.sessions.ensures order stands)) ∙ sym (length-map b.requests request_line) in
    let rows : length c.args.rows.now ≡ length (map row_setting_line (entries b.rows)) = ap length are ∙ sym (length-map (entries b.rows) row_setting_line) in
    let first : c.from.result ≡ length c.list.result = c.from.ensures ∙ c.append_procedure_lines-procedures.ensures.count in
    let last : c.from-2.result ≡ length c.requests.result = c.from-2.ensures ∙ c.append_request_lines-requests.ensures.count in
    omega (arith, all, procedures, requests, rows, first, last)
