-- What a line that is given to a site says.
use Rattle.std.specs.Prelude.{ℕ, ◌≤◌, List, [], ◌∷◌, codes, Option, Result, Ok, Err}
use Rattle.schema.specs.declared.limits.TheConstants.{MAX_ARGUMENTS}
use Rattle.script.specs.declared.fault.LineFault.{LineFault}
use Rattle.script.specs.declared.fault.LineFault.TheVariants as fault
use Rattle.script.specs.Line.{word_spelled, one, three, four, made_of, procedure_said, fields_say, says}
use Rattle.script.specs.Text.{u32_of, u8_of, u64_of, count_of, bytes_of_hex}
use Rattle.site_service.specs.declared.input.TheConstants.{MAX_SITE_LINE}
use Rattle.site_service.specs.declared.line.Scan.{Scan}
use Rattle.site_service.specs.declared.line.SiteLine.{SiteLine}
use Rattle.site_service.specs.declared.line.SiteLine.TheVariants.{Call, Add, Entry, Rows, Scan as ScanLine, Dump, Position}
use Rattle.site_service.specs.declared.word.Word.{Word}
use Rattle.site_service.specs.declared.word.Word.TheVariants as word

-- the bytes of its names, arguments, programs and entries are lists
abbrev pub SiteRequest : Type 0
SiteRequest = SiteLine (List ℕ)

abbrev pub word_of : List ℕ → Option Word
word_of text = word_spelled (
    (codes "call", word.Call) ∷ (codes "add", word.Add) ∷ (codes "entry", word.Entry) ∷ (codes "rows", word.Rows)
    ∷ (codes "scan", word.Scan) ∷ (codes "dump", word.Dump) ∷ (codes "position", word.Position) ∷ []) text

-- a call. Session and sequence number may be 0
abbrev pub call_of : List ℕ → List ℕ → List ℕ → List ℕ → Result SiteRequest LineFault
call_of name args session sequence = three (Call name) (bytes_of_hex args) (u32_of session) (u32_of sequence)

-- the rows that are asked for by the number of a table, the least and the greatest key, and how many they are at most
abbrev pub scan_of : List ℕ → List ℕ → List ℕ → List ℕ → Result Scan LineFault
scan_of table lo hi most =
    four (λ t l h m. record { table = t; lo = l; hi = h; most = m }) (u8_of table) (u64_of lo) (u64_of hi) (count_of most)

-- what a word asks for with the fields behind it
unfoldable pub request_behind : Word → List (List ℕ) → Result SiteRequest LineFault
request_behind word.Call (name ∷ args ∷ session ∷ sequence ∷ []) = call_of name args session sequence
request_behind word.Add (name ∷ number ∷ args_len ∷ program ∷ []) = made_of Add (procedure_said name number args_len program)
request_behind word.Entry (bytes ∷ []) = one Entry (bytes_of_hex bytes)
request_behind word.Rows [] = Ok Rows
request_behind word.Scan (table ∷ lo ∷ hi ∷ most ∷ []) = made_of ScanLine (scan_of table lo hi most)
request_behind word.Dump [] = Ok Dump
request_behind word.Position [] = Ok Position
request_behind _ _ = Err fault.FieldCount

-- what a line says: a request, or nothing; or the first of its faults
abbrev pub line_says : List ℕ → Result (Option SiteRequest) LineFault
line_says line = says (fields_say word_of request_behind) MAX_SITE_LINE line

-- what is known of the numbers of a request
abbrev pub IsWithinLimits : SiteRequest → Type 0
IsWithinLimits (Add p) = p.args_len ≤ MAX_ARGUMENTS
IsWithinLimits _ = Unit {0}
