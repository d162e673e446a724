use Rattle.std.proofs.Common.{◌≡◌, ◌∙◌, ap, map}
use Rattle.clap.specs.Words.{App, is_simple, subcommand_of}
use Rattle.command_line.proofs.words.matches.Goals as goal

pub returns : goal.returns
returns g c =
    let command_is = c.in_ok-command.ensures in
    (c.in_ok-try_get_matches_from.ensures.matches (ap is_simple command_is)).1 ∙ ap (λ (a : App). subcommand_of a (map g.S.AsStr.text c.args.words.now)) command_is
