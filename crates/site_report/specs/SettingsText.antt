-- The lines of settings, as a site prints them and reads them.
use Rattle.std.specs.Prelude.{ℕ, Bool, if◌then◌else◌, List, [], ◌∷◌, ◌++◌, length, map, Option, Some, None, codes}
use Rattle.std.specs.List.{concat}
use Rattle.std.specs.FinMap.{entries}
use Rattle.std.specs.Fmt.{decimal}
use Rattle.hex.specs.Hex.{encode_lower}
use Rattle.bpf_bytes.specs.Spelling.{spelling}
use Rattle.schema.specs.Rows.{Key}
use Rattle.log_model.specs.Log.{Beginning, DoneRequest, StoredProcedure}
use Rattle.site_model.specs.declared.origin.Origin.{Origin}
use Rattle.site_model.specs.Standing.{SiteSetting}

-- bytes as a field: in hex, and `-` where there are none
abbrev pub hex_field : List ℕ → List ℕ
hex_field [] = codes "-"
hex_field (b ∷ bytes) = encode_lower (b ∷ bytes)

-- a number as a field behind another
abbrev pub next_number : ℕ → List ℕ
next_number n = codes " " ++ decimal n

-- the last field of a line
abbrev pub last_field : List ℕ → List ℕ
last_field bytes = codes " " ++ hex_field bytes ++ codes "\n"

-- ---- a line each

abbrev pub window_line : ℕ → List ℕ
window_line window = codes "window" ++ next_number window ++ codes "\n"

abbrev pub table_line : (ℕ × ℕ) → List ℕ
table_line table = codes "table" ++ next_number table.0 ++ next_number table.1 ++ codes "\n"

abbrev pub additions_line : List ℕ
additions_line = codes "additions\n"

abbrev pub origin_line : Origin → List ℕ
origin_line origin = codes "origin" ++ next_number origin.strings ++ next_number origin.sessions ++ codes "\n"

abbrev pub procedure_numbers : StoredProcedure → List ℕ
procedure_numbers p = next_number p.number ++ next_number p.args_len

abbrev pub procedure_line : StoredProcedure → List ℕ
procedure_line p = codes "proc " ++ p.name ++ procedure_numbers p ++ last_field (spelling p.program)

abbrev pub row_numbers : Key → List ℕ
row_numbers key = codes "row" ++ next_number key.0 ++ next_number key.1

abbrev pub row_setting_line : (Key × List ℕ) → List ℕ
row_setting_line row = row_numbers row.0 ++ last_field row.1

abbrev pub request_numbers : DoneRequest → List ℕ
request_numbers d =
    codes "request" ++ next_number d.request.session ++ next_number d.request.sequence ++ next_number d.reply
    ++ next_number d.procedure

abbrev pub request_line : DoneRequest → List ℕ
request_line d = request_numbers d ++ last_field d.args

-- ---- all lines of settings

abbrev pub additions_lines : Bool → List (List ℕ)
additions_lines takes_additions = if takes_additions then additions_line ∷ [] else []

abbrev pub origin_lines : Option Origin → List (List ℕ)
origin_lines None = []
origin_lines (Some origin) = origin_line origin ∷ []

-- those of what all sites have in common but for what the database begins with
abbrev pub first_lines : SiteSetting → List (List ℕ)
first_lines s =
    window_line s.setting.window ∷ map table_line s.table_list ++ (additions_lines s.takes_additions ++ origin_lines s.origin)

abbrev pub beginning_lines : Beginning → List (List ℕ)
beginning_lines b =
    map procedure_line b.procedures ++ (map row_setting_line (entries b.rows) ++ map request_line b.requests)

abbrev pub settings_lines : SiteSetting → List (List ℕ)
settings_lines s = first_lines s ++ beginning_lines s.setting.beginning

-- ---- a dump

-- behind the settings: the position at which they hold, and how many lines they are
abbrev pub line_count_line : ℕ → ℕ → List ℕ
line_count_line position lines = codes "position " ++ decimal position ++ codes " lines " ++ decimal lines ++ codes "\n"

abbrev pub dump_text : ℕ → SiteSetting → List ℕ
dump_text position s = concat (settings_lines s) ++ line_count_line position (length (settings_lines s))
