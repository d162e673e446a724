use Rattle.std.proofs.Common.{◌≡◌, ◌∙◌, ap, ap₂, codes}
use Rattle.clap.specs.Words.{app_of, new_app, with_rule}
use Rattle.clap.specs.Simple.{app_of_fields}
use Rattle.command_line.proofs.LocalLemmas.{ok_gives}
use Rattle.command_line.proofs.words.run_command.Goals as goal

pub returns : goal.returns
returns c =
    let about_is : app_of c.after_help.result ≡ new_app (codes "run") = ap app_of_fields c.after_help.ensures ∙ ap app_of_fields c.about.ensures ∙ c.new.ensures.app in
    let first_is = c.in_ok-command.ensures.shape c.script.ensures.local ∙ ap₂ with_rule about_is c.script.ensures.rule in
    let second_is = c.in_ok-command-2.ensures.shape c.executors_arg.ensures.local ∙ ap₂ with_rule first_is c.executors_arg.ensures.rule in
    ok_gives c.arg-3.result _ _ c.arg-3.ensures (λ command adds. adds.shape c.log_arg.ensures.local ∙ ap₂ with_rule second_is c.log_arg.ensures.rule)
