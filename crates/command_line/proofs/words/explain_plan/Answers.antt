use Rattle.std.proofs.Common.{◌∙◌, ap, sym, codes, Some}
use Rattle.clap.specs.Words.{found_of}
use Rattle.clap.proofs.WalkLemmas.{first_value-rows}
use Rattle.command_line.proofs.words.explain_plan.Goals as goal

pub returns-in-Some-explain : goal.returns-in-Some-explain
returns-in-Some-explain c =
    sym (first_value-rows (found_of c.args.values.now) (codes "NUMBER")) ∙ sym c.in-Some.ensures ∙ ap Some (sym c.in-Some-explain.ensures)
