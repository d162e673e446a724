use Rattle.std.proofs.Common.{◌≡◌, ◌∙◌, ap, ap₂, codes}
use Rattle.clap.specs.Words.{app_of, new_app, with_rule}
use Rattle.clap.specs.Simple.{app_of_fields}
use Rattle.command_line.proofs.LocalLemmas.{ok_gives}
use Rattle.command_line.proofs.words.site_command.Goals as goal

pub returns : goal.returns
returns c =
    let about_is : app_of c.after_help.result ≡ new_app (codes "site") = ap app_of_fields c.after_help.ensures ∙ ap app_of_fields c.about.ensures ∙ c.new.ensures.app in
    ok_gives c.arg.result _ _ c.arg.ensures (λ command adds. adds.shape c.settings.ensures.local ∙ ap₂ with_rule about_is c.settings.ensures.rule)
