-- What a line of a script says.
use Rattle.std.specs.Prelude.{ℕ, ◌≤◌, List, [], ◌∷◌, codes, Option, option_map, Result, Ok, Err}
use Rattle.std.specs.Option.{option_or}
use Rattle.schema.specs.declared.limits.TheConstants.{MAX_ARGUMENTS, MAX_REPLICAS, MAX_WINDOW}
use Rattle.script.specs.declared.fault.LineFault.{LineFault}
use Rattle.script.specs.declared.fault.LineFault.TheVariants as fault
use Rattle.script.specs.declared.statements.Statement.{Statement}
use Rattle.script.specs.declared.statements.Statement.TheVariants as statement
use Rattle.script.specs.declared.statements.Setting.{Setting}
use Rattle.script.specs.declared.statements.Setting.TheVariants.{Window, Replicas, Table, Procedure, Row, Request, Origin}
use Rattle.script.specs.declared.statements.Action.{Action}
use Rattle.script.specs.declared.statements.Action.TheVariants.{Begin, BeginNumbered, Add, Turn, Exec, Order, Deliver, Rows, Log, Entry, Rebuild}
use Rattle.script.specs.declared.word.Word.{Word}
use Rattle.script.specs.declared.word.Word.TheVariants as word
use Rattle.script.specs.declared.word.SettingWord.{SettingWord}
use Rattle.script.specs.declared.word.SettingWord.TheVariants as setting
use Rattle.script.specs.declared.word.ActionWord.{ActionWord}
use Rattle.script.specs.declared.word.ActionWord.TheVariants as act
use Rattle.script.specs.Text.{max_line, number_of, u8_of, u16_of, u32_of, u64_of, count_of, bytes_of_hex}
use Rattle.script.specs.Line.{word_spelled, one, two, three, four, made_of, procedure_said, request_said, fields_say, says}

-- the bytes of its names, programs and arguments are lists
abbrev pub ScriptStatement : Type 0
ScriptStatement = Statement (List ℕ)

abbrev pub ScriptSetting : Type 0
ScriptSetting = Setting (List ℕ)

abbrev pub ScriptAction : Type 0
ScriptAction = Action (List ℕ)

-- the words of lines that set something
abbrev pub setting_word_of : List ℕ → Option SettingWord
setting_word_of text = word_spelled (
    (codes "window", setting.Window) ∷ (codes "replicas", setting.Replicas) ∷ (codes "table", setting.Table)
    ∷ (codes "proc", setting.Proc) ∷ (codes "row", setting.Row) ∷ (codes "request", setting.Request)
    ∷ (codes "origin", setting.Origin) ∷ []) text

-- and of lines that act: that take steps, or print what there is
abbrev pub action_word_of : List ℕ → Option ActionWord
action_word_of text = word_spelled (
    (codes "begin", act.Begin) ∷ (codes "add", act.Add) ∷ (codes "turn", act.Turn) ∷ (codes "exec", act.Exec)
    ∷ (codes "order", act.Order) ∷ (codes "deliver", act.Deliver) ∷ (codes "rebuild", act.Rebuild)
    ∷ (codes "rows", act.Rows) ∷ (codes "log", act.Log) ∷ (codes "entry", act.Entry) ∷ []) text

abbrev pub word_of : List ℕ → Option Word
word_of text = option_or (option_map word.Setting (setting_word_of text)) (option_map word.Action (action_word_of text))

-- what a word says of the fields behind it, where the line sets something
unfoldable pub setting_said : SettingWord → List (List ℕ) → Result ScriptSetting LineFault
setting_said setting.Window (window ∷ []) = one Window (number_of 1 MAX_WINDOW window)
setting_said setting.Replicas (replicas ∷ []) = one Replicas (number_of 1 MAX_REPLICAS replicas)
setting_said setting.Table (table ∷ width ∷ []) = two Table (u8_of table) (u16_of width)
setting_said setting.Proc (name ∷ number ∷ args_len ∷ program ∷ []) = made_of Procedure (procedure_said name number args_len program)
setting_said setting.Row (table ∷ key ∷ row ∷ []) = three Row (u8_of table) (u64_of key) (bytes_of_hex row)
setting_said setting.Request (session ∷ sequence ∷ reply ∷ procedure ∷ args ∷ []) = made_of Request (request_said session sequence reply procedure args)
setting_said setting.Origin (strings ∷ sessions ∷ []) = two Origin (u64_of strings) (u32_of sessions)
setting_said _ _ = Err fault.FieldCount

-- a call that carries a request
abbrev pub numbered_said : List ℕ → List ℕ → List ℕ → List ℕ → List ℕ → Result ScriptAction LineFault
numbered_said replica name args session sequence =
    four (λ r bytes. BeginNumbered r name bytes) (u32_of replica) (bytes_of_hex args) (count_of session) (count_of sequence)

-- and where it acts
unfoldable pub action_said : ActionWord → List (List ℕ) → Result ScriptAction LineFault
action_said act.Begin (replica ∷ name ∷ args ∷ []) = two (λ r bytes. Begin r name bytes) (u32_of replica) (bytes_of_hex args)
action_said act.Begin (replica ∷ name ∷ args ∷ session ∷ sequence ∷ []) = numbered_said replica name args session sequence
action_said act.Add (name ∷ number ∷ args_len ∷ program ∷ []) = made_of Add (procedure_said name number args_len program)
action_said act.Turn (call ∷ most ∷ []) = two Turn (u32_of call) (count_of most)
action_said act.Exec (call ∷ []) = one Exec (u32_of call)
action_said act.Order (call ∷ []) = one Order (u32_of call)
action_said act.Deliver (replica ∷ most ∷ []) = two Deliver (u32_of replica) (count_of most)
action_said act.Rebuild (replica ∷ []) = one Rebuild (u32_of replica)
action_said act.Rows (replica ∷ []) = one Rows (u32_of replica)
action_said act.Log [] = Ok Log
action_said act.Entry (position ∷ []) = one Entry (u32_of position)
action_said _ _ = Err fault.FieldCount

-- what a word says of the fields behind it
abbrev pub said_behind : Word → List (List ℕ) → Result ScriptStatement LineFault
said_behind (word.Setting word) fields = made_of statement.Setting (setting_said word fields)
said_behind (word.Action word) fields = made_of statement.Action (action_said word fields)

-- what a line says: a statement, or nothing; or the first of its faults
abbrev pub line_says : List ℕ → Result (Option ScriptStatement) LineFault
line_says line = says (fields_say word_of said_behind) max_line line

-- what is known of the numbers of a setting
abbrev pub IsSettingWithinLimits : ScriptSetting → Type 0
IsSettingWithinLimits (Window window) = (1 ≤ window) × (window ≤ MAX_WINDOW)
IsSettingWithinLimits (Replicas replicas) = (1 ≤ replicas) × (replicas ≤ MAX_REPLICAS)
IsSettingWithinLimits (Table table width) = Unit {0}
IsSettingWithinLimits (Procedure p) = p.args_len ≤ MAX_ARGUMENTS
IsSettingWithinLimits (Row table key row) = Unit {0}
IsSettingWithinLimits (Request r) = 1 ≤ r.session
IsSettingWithinLimits (Origin strings sessions) = Unit {0}

-- of an action
abbrev pub IsActionWithinLimits : ScriptAction → Type 0
IsActionWithinLimits (BeginNumbered replica name args session sequence) = (1 ≤ session) × (1 ≤ sequence)
IsActionWithinLimits (Add p) = p.args_len ≤ MAX_ARGUMENTS
IsActionWithinLimits (Turn call most) = 1 ≤ most
IsActionWithinLimits (Deliver replica most) = 1 ≤ most
IsActionWithinLimits _ = Unit {0}

-- and of what a line says
abbrev pub IsWithinLimits : ScriptStatement → Type 0
IsWithinLimits (statement.Setting setting) = IsSettingWithinLimits setting
IsWithinLimits (statement.Action action) = IsActionWithinLimits action
