use Rattle.std.proofs.Common.{◌≡◌, ◌++◌, subst, rules}
use Rattle.site_report.specs.SettingsText.{last_field, request_line, request_numbers}
use Rattle.site_report.proofs.beginning.append_request_line.Goals as goal

pub returns : goal.returns
returns g c =
    let text : request_numbers c.args.done.now ++ last_field c.args-2.result.now ≡ request_line c.args.done.now = search rules in
    subst (g.S.ByteSink.appends c.args.sink.now c.append_last_field.new.sink) text
    (g.met.S.ByteSink.together _ _ _ _ _ c.append_request_numbers.ensures c.append_last_field.ensures)
