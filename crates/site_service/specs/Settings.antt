-- What the settings of sites say: lines that set something in scripts, but for the number of replicas, and once each the
-- lines `additions` and `origin`.
use Rattle.std.specs.Prelude.{ℕ, ◌==◌, nat_lt, Bool, true, false, not, is_some, ◌||◌, if◌then◌else◌, List, [], ◌∷◌, ◌++◌, length, codes, Option, Some, None, Result, Ok, Err}
use Rattle.std.specs.Option.{option_map}
use Rattle.std.specs.Str.{bytes_eq}
use Rattle.script.specs.declared.fault.LineFault.{LineFault}
use Rattle.script.specs.declared.fault.LineFault.TheVariants as fault
use Rattle.script.specs.declared.statements.Statement.TheVariants as statement
use Rattle.script.specs.declared.statements.Setting.TheVariants.{Replicas, Table, Request, Origin}
use Rattle.script.specs.Text.{lines_of, max_line}
use Rattle.script.specs.Line.{made_of, fields_say, says}
use Rattle.script.specs.Script as script
use Rattle.script.specs.Script.{ScriptSetting}
use Rattle.script.specs.declared.cause.FaultCause.{FaultCause}
use Rattle.script.specs.declared.cause.FaultCause.TheVariants.{Place, Session}
use Rattle.script.specs.declared.cause.ScriptFault.{ScriptFault}
use Rattle.script.specs.SettingsFault.{cause_of_line_fault}
use Rattle.script.specs.Settings.{ScriptSettings, no_settings, setting_after, then_with}
use Rattle.script.specs.Said.{fault_at, said_from}
use Rattle.site_model.specs.declared.origin.Origin.{Origin as OrderOrigin}
use Rattle.site_model.specs.Standing.{SiteSetting}
use Rattle.site_service.specs.declared.settings_line.SettingsWord.{SettingsWord}
use Rattle.site_service.specs.declared.settings_line.SettingsWord.TheVariants as word
use Rattle.site_service.specs.declared.settings_line.SettingsLine.{SettingsLine}
use Rattle.site_service.specs.declared.settings_line.SettingsLine.TheVariants.{Additions, Statement}
use Rattle.catalogue.specs.Catalogue.{system_setting}

-- ---- a line

-- the bytes of its names and programs are lists
abbrev pub SettingsRequest : Type 0
SettingsRequest = SettingsLine (List ℕ)

-- `additions`, or a word of scripts
abbrev pub word_of : List ℕ → Option SettingsWord
word_of text = if bytes_eq text (codes "additions") then Some word.Additions else option_map word.Script (script.word_of text)

-- `additions` has no fields; another word says what it says in a script
abbrev pub said_behind : SettingsWord → List (List ℕ) → Result SettingsRequest LineFault
said_behind word.Additions [] = Ok Additions
said_behind word.Additions fields = Err fault.FieldCount
said_behind (word.Script word) fields = made_of Statement (script.said_behind word fields)

-- what a line says, or the first of its faults
abbrev pub line_says : List ℕ → Result (Option SettingsRequest) LineFault
line_says line = says (fields_say word_of said_behind) max_line line

-- what is known of its numbers
abbrev pub IsWithinLimits : SettingsRequest → Type 0
IsWithinLimits Additions = Unit {0}
IsWithinLimits (Statement s) = script.IsWithinLimits s

-- ---- what is set so far

pub record SettingsSoFar : Type 0 where
  pub settings : ScriptSettings
  pub table_list : List (ℕ × ℕ)  -- the tables with their widths, in order of entry
  pub takes_additions : Bool
  pub origin : Option OrderOrigin

abbrev pub nothing_set : SettingsSoFar
nothing_set = record { settings = no_settings; table_list = []; takes_additions = false; origin = None }

-- `additions` stands once
abbrev pub with_additions : SettingsSoFar → Result SettingsSoFar FaultCause
with_additions s = if s.takes_additions then Err Place else Ok (record s { takes_additions = true })

-- `origin` stands once, and before all requests
abbrev pub with_origin : SettingsSoFar → OrderOrigin → Result SettingsSoFar FaultCause
with_origin s origin =
    if is_some s.origin || not (length s.settings.catalogue.requests == 0) then Err Place
    else Ok (record s { origin = Some origin })

-- a session of a greater number than those of the origin
abbrev pub is_beyond : Option OrderOrigin → ℕ → Bool
is_beyond None session = false
is_beyond (Some origin) session = nat_lt origin.sessions session

abbrev pub with_script_setting : SettingsSoFar → ScriptSetting → Result SettingsSoFar FaultCause
with_script_setting s setting =
    then_with (setting_after s.settings setting) (λ settings. Ok (record s { settings = settings }))

-- tables stand before the origin
abbrev pub with_table : SettingsSoFar → ℕ → ℕ → Result SettingsSoFar FaultCause
with_table s table width =
    if is_some s.origin then Err Place
    else then_with (setting_after s.settings (Table table width)) (λ settings.
    Ok (record s { settings = settings; table_list = s.table_list ++ (table, width) ∷ [] }))

-- a site has one replica
abbrev pub with_setting : SettingsSoFar → ScriptSetting → Result SettingsSoFar FaultCause
with_setting s (Replicas replicas) = Err Place
with_setting s (Origin strings sessions) = with_origin s (record { strings = strings; sessions = sessions })
with_setting s (Table table width) = with_table s table width
with_setting s (Request r) = if is_beyond s.origin r.session then Err Session else with_script_setting s (Request r)
with_setting s setting = with_script_setting s setting

-- with one more line, none of which acts
abbrev pub after_line : SettingsSoFar → Result (Option SettingsRequest) LineFault → Result SettingsSoFar FaultCause
after_line s (Err fault) = Err (cause_of_line_fault fault)
after_line s (Ok None) = Ok s
after_line s (Ok (Some Additions)) = with_additions s
after_line s (Ok (Some (Statement (statement.Setting setting)))) = with_setting s setting
after_line s (Ok (Some (Statement (statement.Action action)))) = Err Place

-- ---- whole settings

abbrev pub with_window : SettingsSoFar → Option ℕ → Result SiteSetting ScriptFault
with_window s None = Err (fault_at 0 Place)
with_window s (Some window) = Ok (record {
  setting = system_setting s.settings.catalogue window;
  table_list = s.table_list;
  takes_additions = s.takes_additions;
  origin = s.origin;
})

-- settings that end without a window are at fault as a whole
abbrev pub whole : SettingsSoFar → Result SiteSetting ScriptFault
whole s = with_window s s.settings.window

-- with one more line of these bytes
abbrev pub with_line : SettingsSoFar → List ℕ → Result SettingsSoFar FaultCause
with_line s line = after_line s (line_says line)

-- what settings of these bytes say, or their first fault
abbrev pub settings_say : List ℕ → Result SiteSetting ScriptFault
settings_say bytes = said_from with_line whole nothing_set 1 (lines_of bytes)
