use Rattle.std.proofs.Common.{◌≡◌, true, rules}
use Rattle.std.specs.List.{list_all}
use Rattle.script.specs.Text.{is_printable}
use Rattle.script.proofs.FieldLemmas.{IsUtf8-printable}
use Rattle.script.proofs.fields.readable_text.Goals as goal

pub returns-in-Err-clause-unreadable : goal.returns-in-Err-clause-unreadable
returns-in-Err-clause-unreadable c =
    let printable : list_all is_printable c.args.line.now ≡ true = search rules in
    absurd (c.in-Err.ensures.cases.0 (IsUtf8-printable c.args.line.now printable))
