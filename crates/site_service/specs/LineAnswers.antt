-- What a site answers to the lines that are given to it, behind an order.
use Rattle.std.specs.Prelude.{◌≡◌, ◌⊎◌, IsTrue, ℕ, ◌+◌, ◌==◌, Bool, ◌||◌, if◌then◌else◌, List, [], ◌∷◌, ◌++◌, length, map, Option, Some, None, Result, Ok, Err}
use Rattle.std.specs.List.{concat}
use Rattle.std.specs.FinMap.{contains_key, entries}
use Rattle.schema.specs.Rows.{Key}
use Rattle.log_model.specs.Log.{rows_after}
use Rattle.log_model.specs.OpenRequest.{given_request}
use Rattle.log_entry.specs.Head.{NamedProcedure, head_of}
use Rattle.script.specs.declared.fault.LineFault.{LineFault}
use Rattle.site_model.specs.declared.origin.Origin.{Origin}
use Rattle.site_model.specs.Standing.{SiteSetting}
use Rattle.site_model.specs.Order.{Order, next_outcome, order_log, request_in}
use Rattle.site_model.specs.Answer.{Asked, addition_answer, call_answer, takes_memory}
use Rattle.site_model.specs.Next.{next_setting}
use Rattle.site_service.specs.declared.line.SiteLine.TheVariants.{Call, Add, Entry, Rows as RowsLine, Scan as ScanLine, Dump, Position}
use Rattle.site_service.specs.declared.line.Scan.{Scan}
use Rattle.site_service.specs.Lines.{SiteRequest}
use Rattle.site_report.specs.Answers.{entry_line, call_line, addition_line, position_line, row_text, row_count_line, fault_line}
use Rattle.site_report.specs.Answers.{order_full_line, no_memory_line, no_table_line}
use Rattle.site_report.specs.SettingsText.{dump_text}
use Rattle.site_service.specs.Scanned.{scanned_rows}
use Rattle.site_service.specs.declared.entry.TheConstants.{MAX_POSITION, MAX_STRINGS}

-- ---- the order behind a line

abbrev pub strings_before : Option Origin → ℕ
strings_before None = 0
strings_before (Some origin) = origin.strings

-- whether there is no position behind so many byte strings: in the order, or with those that came before it in 64 bits
abbrev pub is_full : SiteSetting → ℕ → Bool
is_full s count = (count == MAX_POSITION) || (strings_before s.origin + count == MAX_STRINGS)

-- with one more byte string, as long as there is a position for it
abbrev pub order_with_bytes : SiteSetting → Order → List ℕ → Order
order_with_bytes s order bytes = if is_full s (length order) then order else order ++ bytes ∷ []

-- only a byte string of the order changes it
abbrev pub order_with : SiteSetting → Order → SiteRequest → Order
order_with s order (Entry bytes) = order_with_bytes s order bytes
order_with s order request = order

abbrev pub order_behind : SiteSetting → Order → Result (Option SiteRequest) LineFault → Order
order_behind s order (Ok (Some request)) = order_with s order request
order_behind s order says = order

-- ---- answers

-- what became of the byte string at the next position
abbrev pub entry_answer : SiteSetting → Order → List ℕ → List ℕ
entry_answer s order bytes =
    if is_full s (length order) then order_full_line
    else entry_line (length order + 1) (next_outcome s order bytes) (request_in (head_of bytes))

-- each row, in the order of tables and keys, and how many there are
abbrev pub rows_text : ℕ → List (Key × List ℕ) → List ℕ
rows_text position rows = concat (map row_text rows) ++ row_count_line position (length rows)

-- the rows behind the order
abbrev pub rows_answer : SiteSetting → Order → List ℕ
rows_answer s order = rows_text (length order) (entries (rows_after s.setting (order_log s order) (length order)))

-- of the rows behind the order those that a scan asks for, where there is such a table
abbrev pub scan_answer : SiteSetting → Order → Scan → List ℕ
scan_answer s order scan =
    if contains_key s.setting.tables scan.table
    then rows_text (length order) (scanned_rows scan (rows_after s.setting (order_log s order) (length order)))
    else no_table_line

-- the settings of a database that goes on behind the order
abbrev pub dump_answer : SiteSetting → Order → List ℕ
dump_answer s order = dump_text (length order) (next_setting s order)

-- a call whose answer takes memory is refused where memory is wanting
abbrev pub IsCallAnswer : SiteSetting → Order → Asked → List ℕ → Type 0
IsCallAnswer s order asked text = (text ≡ call_line (call_answer s order asked))
    ⊎ ((text ≡ no_memory_line) × IsTrue (takes_memory (call_answer s order asked)))

-- a procedure that is to be added is refused where memory is wanting
abbrev pub IsAdditionAnswer : SiteSetting → NamedProcedure → List ℕ → Type 0
IsAdditionAnswer s p text = (text ≡ addition_line (addition_answer s p)) ⊎ (text ≡ no_memory_line)

-- to what a line asks for
abbrev pub IsAnswer : SiteSetting → Order → SiteRequest → List ℕ → Type 0
IsAnswer s order (Call name args session sequence) text =
    IsCallAnswer s order
    (record { name = name; args = args; request = given_request session sequence }) text
IsAnswer s order (Add p) text =
    IsAdditionAnswer s (record { number = p.number; args_len = p.args_len; name = p.name; bytes = p.program }) text
IsAnswer s order (Entry bytes) text = text ≡ entry_answer s order bytes
IsAnswer s order RowsLine text = text ≡ rows_answer s order
IsAnswer s order (ScanLine scan) text = text ≡ scan_answer s order scan
IsAnswer s order Dump text = text ≡ dump_answer s order
IsAnswer s order Position text = text ≡ position_line (length order)

-- to a line, by what it says: a line that says nothing isn't answered
abbrev pub IsLineAnswer : SiteSetting → Order → Result (Option SiteRequest) LineFault → List ℕ → Type 0
IsLineAnswer s order (Ok (Some request)) text = IsAnswer s order request text
IsLineAnswer s order (Ok None) text = text ≡ []
IsLineAnswer s order (Err fault) text = text ≡ fault_line fault
