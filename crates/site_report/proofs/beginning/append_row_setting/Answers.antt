use Rattle.std.proofs.Common.{◌≡◌, ◌++◌, subst, rules}
use Rattle.site_report.specs.SettingsText.{last_field, row_numbers, row_setting_line}
use Rattle.site_report.proofs.beginning.append_row_setting.Goals as goal

pub returns : goal.returns
returns g c =
    let text : row_numbers (c.table.result, c.key.result) ++ last_field c.bytes.result.now ≡ row_setting_line c.args.row.now = search rules in
    subst (g.S.ByteSink.appends c.args.sink.now c.append_last_field.new.sink) text
    (g.met.S.ByteSink.together _ _ _ _ _ c.append_row_numbers.ensures c.append_last_field.ensures)
