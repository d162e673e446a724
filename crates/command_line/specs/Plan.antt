-- The command lines `dsmdb list FILE`, `dsmdb check FILE ARGS [T:W ...]`, `dsmdb replay SCRIPT`,
-- `dsmdb run SCRIPT --executors N --log N`, `dsmdb site SETTINGS` and `dsmdb explain NUMBER`, and what they ask for.
use Rattle.std.specs.Prelude.{◌≡◌, ◌≤◌, true, ℕ, List, [], ◌∷◌, codes, map, Option, Some, None}
use Rattle.std.specs.Option.{option_and_then, unwrap_or}
use Rattle.schema.specs.declared.limits.TheConstants.{MAX_ARGUMENTS, MAX_EXECUTORS, MAX_LOG}
use Rattle.clap.specs.Words.{App, Rule, Row, Text, all_of, first_of, new_app, new_rule, with_rule, with_subcommand}
use Rattle.clap.specs.declared.builder.ArgAction.TheVariants.{Set, Append}
use Rattle.program_commands.specs.Number.{number_in, table_word}
use Rattle.command_line.specs.declared.request.Plan.{Plan}
use Rattle.command_line.specs.declared.request.Plan.TheVariants as plan

-- ---- what is read

abbrev pub file_rule : Rule
file_rule = record (new_rule (codes "FILE")) { required = true; action = Some Set }

abbrev pub script_rule : Rule
script_rule = record (new_rule (codes "SCRIPT")) { required = true; action = Some Set }

abbrev pub settings_rule : Rule
settings_rule = record (new_rule (codes "SETTINGS")) { required = true; action = Some Set }

abbrev pub args_rule : Rule
args_rule = record (new_rule (codes "ARGS")) { required = true; action = Some Set }

-- as many words as there are behind the others
abbrev pub table_rule : Rule
table_rule = record (new_rule (codes "T:W")) { action = Some Append }

-- a number, one of which stands where none is given
abbrev pub option_rule : Text → Text → Rule
option_rule name number = record (new_rule name) { long = Some name; value_names = 1; defaults = number ∷ []; action = Some Set }

abbrev pub executors_rule : Rule
executors_rule = option_rule (codes "executors") (codes "4")

abbrev pub log_rule : Rule
log_rule = option_rule (codes "log") (codes "1048576")

abbrev pub number_rule : Rule
number_rule = record (new_rule (codes "NUMBER")) { required = true; action = Some Set }

abbrev pub list_line : App
list_line = with_rule (new_app (codes "list")) file_rule

abbrev pub check_line : App
check_line = with_rule (with_rule (with_rule (new_app (codes "check")) file_rule) args_rule) table_rule

abbrev pub replay_line : App
replay_line = with_rule (new_app (codes "replay")) script_rule

abbrev pub run_line : App
run_line = with_rule (with_rule (with_rule (new_app (codes "run")) script_rule) executors_rule) log_rule

abbrev pub site_line : App
site_line = with_rule (new_app (codes "site")) settings_rule

abbrev pub explain_line : App
explain_line = with_rule (new_app (codes "explain")) number_rule

abbrev pub named_command : App
named_command = new_app (codes "dsmdb")

-- a command is required, but for the flags `--help` and `--version`
abbrev pub command_line : App
command_line =
    let required = record named_command { top = record named_command.top { has_version = true; subcommand_required = true } } in
    with_subcommand (with_subcommand (with_subcommand (with_subcommand (with_subcommand (with_subcommand required
    list_line.top) check_line.top) replay_line.top) run_line.top) site_line.top) explain_line.top

-- ---- what it asks for

abbrev pub IsListOf : List Row → Plan → Type 0
IsListOf rows (plan.List file) = first_of (codes "FILE") rows ≡ Some file.now
IsListOf rows _ = ⊥

-- the number that the first value of this name gives, from least to most
abbrev pub number_of : List Row → Text → ℕ → ℕ → Option ℕ
number_of rows name least most = option_and_then (number_in least most) (first_of name rows)

-- ARGS reads as the length of the arguments, and the T:W words as the tables in order
abbrev pub IsCheckOf : List Row → Plan → Type 0
IsCheckOf rows (plan.Check file args_len tables) =
    (first_of (codes "FILE") rows ≡ Some file.now)
    × (number_of rows (codes "ARGS") 0 MAX_ARGUMENTS ≡ Some args_len)
    × (map table_word (unwrap_or (all_of (codes "T:W") rows) []) ≡ map (λ t. Some t) tables.items)
IsCheckOf rows _ = ⊥

abbrev pub IsReplayOf : List Row → Plan → Type 0
IsReplayOf rows (plan.Replay script) = first_of (codes "SCRIPT") rows ≡ Some script.now
IsReplayOf rows _ = ⊥

abbrev pub IsRunOf : List Row → Plan → Type 0
IsRunOf rows (plan.Run script executors log_limit) =
    (first_of (codes "SCRIPT") rows ≡ Some script.now)
    × (number_of rows (codes "executors") 1 MAX_EXECUTORS ≡ Some executors)
    × (number_of rows (codes "log") 1 MAX_LOG ≡ Some log_limit)
IsRunOf rows _ = ⊥

abbrev pub IsSiteOf : List Row → Plan → Type 0
IsSiteOf rows (plan.Site settings) = first_of (codes "SETTINGS") rows ≡ Some settings.now
IsSiteOf rows _ = ⊥

-- what is explained has the number that was asked for
abbrev pub IsExplainOf : List Row → Plan → Type 0
IsExplainOf rows (plan.Explain explanation) = first_of (codes "NUMBER") rows ≡ Some explanation.number.now
IsExplainOf rows _ = ⊥

-- the plan is the command that was met, with the values that were read for it
abbrev pub IsPlanOf : Option (Text × List Row) → Plan → Type 0
IsPlanOf None _ = ⊥
IsPlanOf (Some command) (plan.List file) = (command.0 ≡ codes "list") × IsListOf command.1 (plan.List file)
IsPlanOf (Some command) (plan.Check file args_len tables) = (command.0 ≡ codes "check") × IsCheckOf command.1 (plan.Check file args_len tables)
IsPlanOf (Some command) (plan.Replay script) = (command.0 ≡ codes "replay") × IsReplayOf command.1 (plan.Replay script)
IsPlanOf (Some command) (plan.Run script executors log_limit) = (command.0 ≡ codes "run") × IsRunOf command.1 (plan.Run script executors log_limit)
IsPlanOf (Some command) (plan.Site settings) = (command.0 ≡ codes "site") × IsSiteOf command.1 (plan.Site settings)
IsPlanOf (Some command) (plan.Explain explanation) = (command.0 ≡ codes "explain") × IsExplainOf command.1 (plan.Explain explanation)

-- arguments have at most 256 bytes; there are 1 to 16 executing threads, and 1 to 1,048,576 entries
abbrev pub IsWithinLimits : Plan → Type 0
IsWithinLimits (plan.Check file args_len tables) = args_len ≤ MAX_ARGUMENTS
IsWithinLimits (plan.Run script executors log_limit) = (1 ≤ executors) × (executors ≤ MAX_EXECUTORS) × (1 ≤ log_limit) × (log_limit ≤ MAX_LOG)
IsWithinLimits _ = Unit
