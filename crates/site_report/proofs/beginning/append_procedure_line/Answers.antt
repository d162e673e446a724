use Rattle.std.proofs.Common.{◌≡◌, ◌++◌, subst, rules}
use Rattle.std.specs.Prelude.{codes}
use Rattle.bpf_bytes.specs.Spelling.{spelling}
use Rattle.catalogue.specs.Stored.{stored}
use Rattle.site_report.specs.SettingsText.{last_field, next_number, procedure_line}
use Rattle.site_report.proofs.beginning.append_procedure_line.Goals as goal

pub returns : goal.returns
returns g c =
    let text : codes "proc " ++ c.args.procedure.name.now ++ (next_number c.args.procedure.number ++ next_number c.args_len.result) ++ last_field (spelling c.code.result.now) ≡ procedure_line (stored (record { name = c.args.procedure.name.now; number = c.args.procedure.number; accepted = c.args.procedure.accepted.now })) = search rules in
    subst (g.S.ByteSink.appends c.args.sink.now c.append_last_code.new.sink) text
    (g.met.S.ByteSink.together _ _ _ _ _ (g.met.S.ByteSink.together _ _ _ _ _ (g.met.S.ByteSink.together _ _ _ _ _ c.append.ensures c.append-2.ensures) c.append_numbers.ensures) c.append_last_code.ensures)
