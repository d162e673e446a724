use Rattle.std.proofs.Common.{ℕ, ◌≡◌, ◌∙◌, ap, sym, codes, Some}
use Rattle.std.specs.Option.{option_and_then}
use Rattle.clap.specs.Words.{first_of, found_of, rows_of}
use Rattle.clap.proofs.WalkLemmas.{first_value-rows}
use Rattle.program_commands.specs.Number.{number_in}
use Rattle.command_line.proofs.words.check_plan.Goals as goal

pub returns-clause-values : goal.returns-clause-values
returns-clause-values c =
    let found = found_of c.args.values.now in
    let file = sym (first_value-rows found (codes "FILE")) ∙ sym c.in-Some.ensures in
    let word : first_of (codes "ARGS") (rows_of found) ≡ Some c.in-Some-get_str.word.now = sym (first_value-rows found (codes "ARGS")) ∙ sym c.in-Some-get_str.ensures in
    (file, ap (option_and_then (number_in 0 256)) word ∙ ap (λ (most : ℕ). number_in 0 most c.in-Some-get_str.word.now) (sym c.from.ensures) ∙ sym c.in-Some-number_in.ensures.number, c.in_ok-tables.ensures)
