use Rattle.std.proofs.Common.{◌≡◌, ◌∙◌, ap, ap₂, true}
use Rattle.clap.specs.Words.{App, app_of, with_subcommand}
use Rattle.clap.specs.Simple.{app_of_fields}
use Rattle.command_line.specs.Plan.{named_command, command_line}
use Rattle.command_line.proofs.LocalLemmas.{ok_gives, third_is_off}
use Rattle.command_line.proofs.words.dsmdb_command.Goals as goal

abbrev having_version : App → App
having_version a = record a { top = record a.top { has_version = true } }

abbrev needing_command : App → App
needing_command a = record a { top = record a.top { subcommand_required = true } }

pub returns : goal.returns
returns c =
    let named_is : app_of c.about.result ≡ named_command = ap app_of_fields c.about.ensures ∙ c.new.ensures.app in
    let version_is : app_of c.version.result ≡ having_version named_command = ap app_of_fields c.version.ensures ∙ ap having_version named_is in
    let needs_is : app_of c.subcommand_required-dsmdb.result ≡ needing_command (having_version named_command) = ap app_of_fields c.subcommand_required-dsmdb.ensures ∙ ap needing_command version_is in
    let list_is = c.in_ok-list_command.ensures in
    let check_is = c.in_ok-check_command.ensures in
    let replay_is = c.in_ok-replay_command.ensures in
    let run_is = c.in_ok-run_command.ensures in
    let site_is = c.in_ok-site_command.ensures in
    let explain_is = c.in_ok-explain_command.ensures in
    let with_list_is = c.in_ok-with_list.ensures.shape (third_is_off _ _ _ _ (ap (λ (a : App). a.top.is_plain) list_is)) ∙ ap₂ with_subcommand needs_is (ap (λ (a : App). a.top) list_is) in
    let with_check_is = c.in_ok-with_check.ensures.shape (third_is_off _ _ _ _ (ap (λ (a : App). a.top.is_plain) check_is)) ∙ ap₂ with_subcommand with_list_is (ap (λ (a : App). a.top) check_is) in
    let with_replay_is = c.in_ok-with_replay.ensures.shape (third_is_off _ _ _ _ (ap (λ (a : App). a.top.is_plain) replay_is)) ∙ ap₂ with_subcommand with_check_is (ap (λ (a : App). a.top) replay_is) in
    let with_run_is = c.in_ok-with_run.ensures.shape (third_is_off _ _ _ _ (ap (λ (a : App). a.top.is_plain) run_is)) ∙ ap₂ with_subcommand with_replay_is (ap (λ (a : App). a.top) run_is) in
    let with_site_is = c.in_ok-with_site.ensures.shape (third_is_off _ _ _ _ (ap (λ (a : App). a.top.is_plain) site_is)) ∙ ap₂ with_subcommand with_run_is (ap (λ (a : App). a.top) site_is) in
    ok_gives c.subcommand-6.result _ _ c.subcommand-6.ensures (λ command adds. adds.shape (third_is_off _ _ _ _ (ap (λ (a : App). a.top.is_plain) explain_is)) ∙ ap₂ with_subcommand with_site_is (ap (λ (a : App). a.top) explain_is))
