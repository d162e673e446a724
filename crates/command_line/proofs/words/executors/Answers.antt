use Rattle.std.proofs.Common.{◌≡◌, ◌∙◌, ap, sym, codes, Some}
use Rattle.std.specs.Option.{option_and_then}
use Rattle.clap.specs.Words.{first_of, found_of, rows_of}
use Rattle.clap.proofs.WalkLemmas.{first_value-rows}
use Rattle.program_commands.specs.Number.{number_in}
use Rattle.command_line.proofs.words.executors.Goals as goal

pub returns-in-Some-number_in-clause-number : goal.returns-in-Some-number_in-clause-number
returns-in-Some-number_in-clause-number c =
    let found = found_of c.args.values.now in
    let word : first_of (codes "executors") (rows_of found) ≡ Some c.in-Some.word.now = sym (first_value-rows found (codes "executors")) ∙ sym c.in-Some.ensures in
    ap (option_and_then (number_in 1 16)) word ∙ sym c.in-Some-number_in.ensures.number
