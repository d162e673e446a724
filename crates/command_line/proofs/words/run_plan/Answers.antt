use Rattle.std.proofs.Common.{◌∙◌, sym, codes}
use Rattle.clap.specs.Words.{found_of}
use Rattle.clap.proofs.WalkLemmas.{first_value-rows}
use Rattle.command_line.proofs.words.run_plan.Goals as goal

pub returns-clause-values : goal.returns-clause-values
returns-clause-values c =
    let file = sym (first_value-rows (found_of c.args.values.now) (codes "SCRIPT")) ∙ sym c.in-Some.ensures in
    (file, c.in_ok-executors.ensures.number, c.in_ok-log_limit.ensures.number)
