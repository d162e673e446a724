-- Lines of settings as they are printed: they are read as what they say.
use Rattle.std.proofs.Common.{◌≡◌, ◌≢◌, ℕ, ◌+◌, ◌^◌, ◌==◌, ◌<◌, ◌≤◌, Bool, true, false, not, cond, List, [], ◌∷◌, ◌++◌, length, All, Option, Some, None, Result, Ok, Err, refl, sym, ap, subst, ◌∙◌, arith, append_assoc}
use Rattle.std.specs.Prelude.{codes, if◌then◌else◌}
use Rattle.std.specs.List.{onto_first}
use Rattle.std.specs.Fmt.{decimal}
use Rattle.std.proofs.lemmas.Bool.{and_from, le-leb}
use Rattle.std.proofs.lemmas.Bool.Decides.{nat_tests}
use Rattle.std.proofs.lemmas.List.{length-append}
use Rattle.std.proofs.lemmas.List.Elements.{All-append, All-cons, All-weaker}
use Rattle.std.proofs.lemmas.List.Splits.{length-slice_split, slice_split_none}
use Rattle.std.proofs.lemmas.List.Sums.{list_all-from_AllPass}
use Rattle.schema.specs.declared.limits.TheConstants.{MAX_ARGUMENTS, MAX_WINDOW}
use Rattle.schema.specs.Rows.{Key}
use Rattle.bpf_bytes.specs.Spelling.{spelling}
use Rattle.log_model.specs.Log.{DoneRequest, StoredProcedure}
use Rattle.log_model.specs.Name.{is_name}
use Rattle.script.specs.declared.fault.LineFault.{LineFault}
use Rattle.script.specs.declared.fault.LineFault.TheVariants as fault
use Rattle.script.specs.declared.procedure_fields.ProcedureFields.{ProcedureFields}
use Rattle.script.specs.declared.request_fields.RequestFields.{RequestFields}
use Rattle.script.specs.declared.statements.Statement.TheVariants as statement
use Rattle.script.specs.declared.statements.Setting.TheVariants.{Window, Table, Procedure, Row, Request, Origin}
use Rattle.script.specs.declared.word.Word.TheVariants as word
use Rattle.script.specs.declared.word.SettingWord.{SettingWord}
use Rattle.script.specs.declared.word.SettingWord.TheVariants as setting
use Rattle.script.specs.Line.{few_bytes, fields_say, five, made_of, one, said_by_fields, said_by_word, says, three, two}
use Rattle.script.specs.Text.{fields_of, is_printable, is_readable, is_skipped, max_line, number_of}
use Rattle.script.specs.Script.{ScriptSetting, setting_said}
use Rattle.site_model.specs.declared.origin.Origin.{Origin as OrderOrigin}
use Rattle.site_report.specs.SettingsText.{additions_line, hex_field, next_number, origin_line, procedure_line, request_line, row_setting_line, table_line, window_line}
use Rattle.site_service.specs.declared.settings_line.SettingsWord.{SettingsWord}
use Rattle.site_service.specs.declared.settings_line.SettingsWord.TheVariants as kind
use Rattle.site_service.specs.declared.settings_line.SettingsLine.TheVariants.{Additions, Statement}
use Rattle.site_service.specs.Settings.{SettingsRequest, line_says, said_behind, word_of}
use Rattle.script.proofs.NumberLemmas.{number_of-some}
use Rattle.site_service.proofs.FieldLemmas.{AreClear, IsClear, clear_field, clear_name, clear_number, clear_word, field_again, length-hex_field, short_name, short_number}

-- ---- fields, joined by spaces

onto_push : (x : ℕ) (parts : List (List ℕ)) (field : List ℕ) → 0 < length parts → onto_first x (parts ++ field ∷ []) ≡ onto_first x parts ++ field ∷ []
onto_push x [] field some = absurd (omega arith)
onto_push x (part ∷ parts) field some = refl

some_fields : (line : List ℕ) → 0 < length (fields_of line)
some_fields line = omega (arith, length-slice_split (λ b. b == 32) line)

no_space : (b : ℕ) → IsClear b → (b == 32) ≡ false
no_space b is = let low = is.0 in grind (arith, nat_tests)

one_field : (field : List ℕ) → AreClear field → fields_of field ≡ field ∷ []
one_field field are = slice_split_none (λ b. b == 32) field (All-weaker IsClear (λ b. (b == 32) ≡ false) no_space field are)

fields_push : (line field : List ℕ) → AreClear field → fields_of (line ++ (32 ∷ field)) ≡ fields_of line ++ field ∷ []
fields_push [] field are = ap (λ (xs : List (List ℕ)). [] ∷ xs) (one_field field are)
fields_push (b ∷ line) field are =
    elim (b == 32) as (λ t. cond t ([] ∷ fields_of (line ++ (32 ∷ field))) (onto_first b (fields_of (line ++ (32 ∷ field)))) ≡ cond t ([] ∷ fields_of line) (onto_first b (fields_of line)) ++ field ∷ []) [
      | true ↦ ap (λ (xs : List (List ℕ)). [] ∷ xs) (fields_push line field are)
      | false ↦ ap (onto_first b) (fields_push line field are) ∙ onto_push b (fields_of line) field (some_fields line)
    ]

-- ---- a line and its fields

-- a line of printable characters, at most so many, that is no comment, with these fields
pub record IsLine (line : List ℕ) (fields : List (List ℕ)) (most : ℕ) : Type 0 where
  pub short : length line ≤ most
  pub printable : All (λ b. is_printable b ≡ true) line
  pub first : ℕ
  pub rest : List ℕ
  pub begins : line ≡ first ∷ rest
  pub kept : (first == 35) ≡ false
  pub split : fields_of line ≡ fields

clear_printable : (b : ℕ) → IsClear b → is_printable b ≡ true
clear_printable b is = and_from _ _ (le-leb 32 b (let low = is.0 in omega arith)) (le-leb b 126 is.1)

printable_field : (field : List ℕ) → AreClear field → All (λ b. is_printable b ≡ true) field
printable_field field are = All-weaker IsClear (λ b. is_printable b ≡ true) clear_printable field are

pub with_field : (line field : List ℕ) (fields : List (List ℕ)) (most more : ℕ) → IsLine line fields most → AreClear field → length field ≤ more → IsLine (line ++ (32 ∷ field)) (fields ++ field ∷ []) (most + (1 + more))
with_field line field fields most more is are few =
    let short = is.short in record {
      short = omega (arith, length-append line (32 ∷ field));
      printable = All-append (λ b. is_printable b ≡ true) line (32 ∷ field) is.printable (All-cons (λ b. is_printable b ≡ true) 32 field refl (printable_field field are));
      first = is.first;
      rest = is.rest ++ (32 ∷ field);
      begins = ap (λ (xs : List ℕ). xs ++ (32 ∷ field)) is.begins;
      kept = is.kept;
      split = fields_push line field are ∙ ap (λ (xs : List (List ℕ)). xs ++ field ∷ []) is.split;
    }

pub with_number : (line : List ℕ) (n : ℕ) (fields : List (List ℕ)) (most : ℕ) → IsLine line fields most → n < 2 ^ 64 → IsLine (line ++ next_number n) (fields ++ decimal n ∷ []) (most + (1 + 20))
with_number line n fields most is small = with_field line (decimal n) fields most 20 is (clear_number n small) (short_number n small)

-- a line that has one field
word_line : (b : ℕ) (rest : List ℕ) (most : ℕ) → AreClear (b ∷ rest) → (b == 35) ≡ false → length (b ∷ rest) ≤ most → IsLine (b ∷ rest) ((b ∷ rest) ∷ []) most
word_line b rest most are no_comment few = record {
  short = few;
  printable = printable_field (b ∷ rest) are;
  first = b;
  rest = rest;
  begins = refl;
  kept = no_comment;
  split = one_field (b ∷ rest) are;
}

-- ---- what a line says

not_skipped : (line : List ℕ) (fields : List (List ℕ)) (most : ℕ) → IsLine line fields most → is_skipped line ≡ false
not_skipped line fields most is =
    let begins = is.begins in
    let kept = is.kept in
    subst (λ (l : List ℕ). is_skipped l ≡ false) (sym begins) (grind (arith, nat_tests))

readable : (line : List ℕ) (fields : List (List ℕ)) (most : ℕ) → IsLine line fields most → most ≤ max_line → is_readable max_line line ≡ true
readable line fields most is few =
    let short = is.short in
    and_from _ _ (le-leb (length line) max_line (omega arith)) (list_all-from_AllPass is_printable line is.printable)

says_of : {X : Type 0} (say : List (List ℕ) → Result X LineFault) (line : List ℕ) (fields : List (List ℕ)) (most : ℕ) → IsLine line fields most → most ≤ max_line → says say max_line line ≡ made_of Some (say fields)
unfolding says
says_of say line fields most is few =
    λ i. said_by_fields say (cond (not (readable line fields most is few i)) (Err fault.Bytes) (cond (not_skipped line fields most is i) (Ok None) (Ok (Some (is.split i)))))

setting_line : (line first : List ℕ) (fields : List (List ℕ)) (most : ℕ) (w : SettingWord) (x : ScriptSetting) → IsLine line (first ∷ fields) most → most ≤ max_line → word_of first ≡ Some (kind.Script (word.Setting w)) → setting_said w fields ≡ Ok x
    → line_says line ≡ Ok (Some (Statement (statement.Setting x)))
setting_line line first fields most w x is few named said =
    says_of (fields_say word_of said_behind) line (first ∷ fields) most is few
    ∙ ap (λ (o : Option SettingsWord). made_of Some (said_by_word said_behind o fields)) named
    ∙ ap (λ (r : Result ScriptSetting LineFault). made_of Some (made_of Statement (made_of statement.Setting r))) said

number_again : (least most n : ℕ) → n < 2 ^ 64 → least ≤ n → n ≤ most → number_of least most (decimal n) ≡ Some n
number_again least most n small low high = number_of-some least most n (decimal n) small refl low high

-- ---- each line of settings

-- a line as it is printed, and what it says
pub record Prints (line : List ℕ) (x : SettingsRequest) : Type 0 where
  pub text : List ℕ
  pub is : line ≡ text ++ 10 ∷ []
  pub no_end : All (λ b. b ≢ 10) text
  pub says : line_says text ≡ Ok (Some x)

not_end : (b : ℕ) → is_printable b ≡ true → b ≢ 10
not_end b e same = absurd (let bad : is_printable 10 ≡ true = ap is_printable (sym same) ∙ e in cc)

printed : (line text first : List ℕ) (fields : List (List ℕ)) (most : ℕ) (w : SettingWord) (x : ScriptSetting) → line ≡ text ++ 10 ∷ [] → IsLine text (first ∷ fields) most → most ≤ max_line → word_of first ≡ Some (kind.Script (word.Setting w)) → setting_said w fields ≡ Ok x
    → Prints line (Statement (statement.Setting x))
printed line text first fields most w x same is few named said = record {
  text = text;
  is = same;
  no_end = All-weaker (λ b. is_printable b ≡ true) (λ b. b ≢ 10) not_end text is.printable;
  says = setting_line text first fields most w x is few named said;
}

pub window_printed : (n : ℕ) → 1 ≤ n → n ≤ MAX_WINDOW → Prints (window_line n) (Statement (statement.Setting (Window n)))
unfolding setting_said
window_printed n low high =
    printed (window_line n) (codes "window" ++ next_number n) (codes "window") (decimal n ∷ []) (6 + (1 + 20)) setting.Window (Window n) refl
    (with_number (codes "window") n (codes "window" ∷ []) 6 (word_line 119 (codes "indow") 6 (clear_word (codes "window") refl) refl (omega arith)) (omega arith)) (omega arith) refl said
  where
    said : setting_said setting.Window (decimal n ∷ []) ≡ Ok (Window n)
    said = ap (one Window) (number_again 1 MAX_WINDOW n (omega arith) low high)

pub table_printed : (table width : ℕ) → table < 2 ^ 8 → width < 2 ^ 16 → Prints (table_line (table, width)) (Statement (statement.Setting (Table table width)))
unfolding setting_said
table_printed table width few wide =
    printed (table_line (table, width)) (codes "table" ++ next_number table ++ next_number width) (codes "table") (decimal table ∷ decimal width ∷ []) (5 + (1 + 20) + (1 + 20)) setting.Table (Table table width) refl
    (with_number (codes "table" ++ next_number table) width (codes "table" ∷ decimal table ∷ []) (5 + (1 + 20))
    (with_number (codes "table") table (codes "table" ∷ []) 5 (word_line 116 (codes "able") 5 (clear_word (codes "table") refl) refl (omega arith)) (omega arith)) (omega arith)) (omega arith) refl said
  where
    said : setting_said setting.Table (decimal table ∷ decimal width ∷ []) ≡ Ok (Table table width)
    said = λ i. two Table (number_again 0 255 table (omega arith) (omega arith) (omega arith) i) (number_again 0 65535 width (omega arith) (omega arith) (omega arith) i)

pub origin_printed : (origin : OrderOrigin) → origin.strings < 2 ^ 64 → origin.sessions < 2 ^ 32 → Prints (origin_line origin) (Statement (statement.Setting (Origin origin.strings origin.sessions)))
unfolding setting_said
origin_printed origin many few =
    printed (origin_line origin) (codes "origin" ++ next_number origin.strings ++ next_number origin.sessions) (codes "origin") (decimal origin.strings ∷ decimal origin.sessions ∷ []) (6 + (1 + 20) + (1 + 20)) setting.Origin (Origin origin.strings origin.sessions) refl
    (with_number (codes "origin" ++ next_number origin.strings) origin.sessions (codes "origin" ∷ decimal origin.strings ∷ []) (6 + (1 + 20))
    (with_number (codes "origin") origin.strings (codes "origin" ∷ []) 6 (word_line 111 (codes "rigin") 6 (clear_word (codes "origin") refl) refl (omega arith)) many) (omega arith)) (omega arith) refl said
  where
    said : setting_said setting.Origin (decimal origin.strings ∷ decimal origin.sessions ∷ []) ≡ Ok (Origin origin.strings origin.sessions)
    said = λ i. two Origin (number_again 0 18446744073709551615 origin.strings many (omega arith) (omega arith) i) (number_again 0 4294967295 origin.sessions (omega arith) (omega arith) (omega arith) i)

-- `additions` stands alone
pub additions_printed : Prints additions_line Additions
additions_printed = record {
  text = codes "additions";
  is = refl;
  no_end = All-weaker (λ b. is_printable b ≡ true) (λ b. b ≢ 10) not_end (codes "additions") is.printable;
  says = says_of (fields_say word_of said_behind) (codes "additions") (codes "additions" ∷ []) 9 is (omega arith);
}
  where
    is : IsLine (codes "additions") (codes "additions" ∷ []) 9
    is = word_line 97 (codes "dditions") 9 (clear_word (codes "additions") refl) refl (omega arith)

row_text : Key → List ℕ → List ℕ
row_text key row = (codes "row" ++ next_number key.0 ++ next_number key.1) ++ (32 ∷ hex_field row)

row_line_is : (key : Key) (row : List ℕ) → row_setting_line (key, row) ≡ row_text key row ++ 10 ∷ []
unfolding row_text
row_line_is key row = sym (append_assoc (codes "row" ++ next_number key.0 ++ next_number key.1) (32 ∷ hex_field row) (10 ∷ []))

pub row_printed : (key : Key) (row : List ℕ) → key.0 < 2 ^ 8 → key.1 < 2 ^ 64 → All (λ b. b < 256) row → length row ≤ 128 → Prints (row_setting_line (key, row)) (Statement (statement.Setting (Row key.0 key.1 row)))
unfolding setting_said row_text
row_printed key row few fits are short =
    printed (row_setting_line (key, row)) (row_text key row) (codes "row") (decimal key.0 ∷ decimal key.1 ∷ hex_field row ∷ []) (3 + (1 + 20) + (1 + 20) + (1 + 257)) setting.Row (Row key.0 key.1 row) (row_line_is key row)
    (with_field (codes "row" ++ next_number key.0 ++ next_number key.1) (hex_field row) (codes "row" ∷ decimal key.0 ∷ decimal key.1 ∷ []) (3 + (1 + 20) + (1 + 20)) 257
    (with_number (codes "row" ++ next_number key.0) key.1 (codes "row" ∷ decimal key.0 ∷ []) (3 + (1 + 20))
    (with_number (codes "row") key.0 (codes "row" ∷ []) 3 (word_line 114 (codes "ow") 3 (clear_word (codes "row") refl) refl (omega arith)) (omega arith)) fits)
    (clear_field row are) (omega (arith, length-hex_field row))) (omega arith) refl said
  where
    said : setting_said setting.Row (decimal key.0 ∷ decimal key.1 ∷ hex_field row ∷ []) ≡ Ok (Row key.0 key.1 row)
    said = λ i. three Row (number_again 0 255 key.0 (omega arith) (omega arith) (omega arith) i) (number_again 0 18446744073709551615 key.1 fits (omega arith) (omega arith) i) (field_again row are i)

-- ---- procedures

-- what a procedure's numbers and program have to be for its line
pub record FitsProcedureLine (p : StoredProcedure) (bytes : List ℕ) : Type 0 where
  pub name : is_name p.name ≡ true
  pub number : p.number < 2 ^ 16
  pub args_len : p.args_len ≤ MAX_ARGUMENTS
  pub spelled : spelling p.program ≡ bytes
  pub bytes_are : All (λ b. b < 256) bytes
  pub short : length bytes ≤ 32768

procedure_text : StoredProcedure → List ℕ → List ℕ
procedure_text p bytes = (codes "proc" ++ (32 ∷ p.name) ++ next_number p.number ++ next_number p.args_len) ++ (32 ∷ hex_field bytes)

procedure_line_is : (p : StoredProcedure) → procedure_line p ≡ procedure_text p (spelling p.program) ++ 10 ∷ []
unfolding procedure_text
procedure_line_is p =
    ap (λ (xs : List ℕ). xs ++ (32 ∷ hex_field (spelling p.program) ++ 10 ∷ [])) (sym (append_assoc (codes "proc " ++ p.name) (next_number p.number) (next_number p.args_len)))
    ∙ sym (append_assoc (codes "proc" ++ (32 ∷ p.name) ++ next_number p.number ++ next_number p.args_len) (32 ∷ hex_field (spelling p.program)) (10 ∷ []))

abbrev pub fields_of_procedure : StoredProcedure → List ℕ → ProcedureFields (List ℕ)
fields_of_procedure p bytes = record { name = p.name; number = p.number; args_len = p.args_len; program = bytes }

pub procedure_printed : (p : StoredProcedure) (bytes : List ℕ) → FitsProcedureLine p bytes → Prints (procedure_line p) (Statement (statement.Setting (Procedure (fields_of_procedure p bytes))))
unfolding setting_said procedure_text
procedure_printed p bytes fits =
    let number = fits.number in
    let args_len = fits.args_len in
    let short = fits.short in
    printed (procedure_line p) (procedure_text p bytes) (codes "proc") (p.name ∷ decimal p.number ∷ decimal p.args_len ∷ hex_field bytes ∷ []) (4 + (1 + 32) + (1 + 20) + (1 + 20) + (1 + 65537)) setting.Proc (Procedure (fields_of_procedure p bytes)) (procedure_line_is p ∙ ap (λ (xs : List ℕ). procedure_text p xs ++ 10 ∷ []) fits.spelled)
    (with_field (codes "proc" ++ (32 ∷ p.name) ++ next_number p.number ++ next_number p.args_len) (hex_field bytes) (codes "proc" ∷ p.name ∷ decimal p.number ∷ decimal p.args_len ∷ []) (4 + (1 + 32) + (1 + 20) + (1 + 20)) 65537
    (with_number (codes "proc" ++ (32 ∷ p.name) ++ next_number p.number) p.args_len (codes "proc" ∷ p.name ∷ decimal p.number ∷ []) (4 + (1 + 32) + (1 + 20))
    (with_number (codes "proc" ++ (32 ∷ p.name)) p.number (codes "proc" ∷ p.name ∷ []) (4 + (1 + 32))
    (with_field (codes "proc") p.name (codes "proc" ∷ []) 4 32 (word_line 112 (codes "roc") 4 (clear_word (codes "proc") refl) refl (omega arith)) (clear_name p.name fits.name) (short_name p.name fits.name))
    (omega arith)) (omega arith))
    (clear_field bytes fits.bytes_are) (omega (arith, length-hex_field bytes))) (omega arith) refl said
  where
    said : setting_said setting.Proc (p.name ∷ decimal p.number ∷ decimal p.args_len ∷ hex_field bytes ∷ []) ≡ Ok (Procedure (fields_of_procedure p bytes))
    said =
        let number = fits.number in
        let args_len = fits.args_len in
        λ i. made_of Procedure (three (λ n len program. record { name = p.name; number = n; args_len = len; program = program }) (number_again 0 65535 p.number (omega arith) (omega arith) (omega arith) i)
        (number_again 0 MAX_ARGUMENTS p.args_len (omega arith) (omega arith) (omega arith) i) (field_again bytes fits.bytes_are i))

-- ---- requests

pub record FitsRequestLine (d : DoneRequest) : Type 0 where
  pub session_from : 1 ≤ d.request.session
  pub session_to : d.request.session < 2 ^ 32
  pub sequence : d.request.sequence < 2 ^ 32
  pub reply : d.reply < 2 ^ 64
  pub procedure : d.procedure < 2 ^ 16
  pub args : length d.args ≤ MAX_ARGUMENTS
  pub args_are : All (λ b. b < 256) d.args

abbrev pub fields_of_request : DoneRequest → RequestFields (List ℕ)
fields_of_request d = record { session = d.request.session; sequence = d.request.sequence; reply = d.reply; procedure = d.procedure; args = d.args }

request_text : DoneRequest → List ℕ
request_text d = (codes "request" ++ next_number d.request.session ++ next_number d.request.sequence ++ next_number d.reply ++ next_number d.procedure) ++ (32 ∷ hex_field d.args)

request_line_is : (d : DoneRequest) → request_line d ≡ request_text d ++ 10 ∷ []
unfolding request_text
request_line_is d = sym (append_assoc (codes "request" ++ next_number d.request.session ++ next_number d.request.sequence ++ next_number d.reply ++ next_number d.procedure) (32 ∷ hex_field d.args) (10 ∷ []))

few_again : (bytes : List ℕ) → length bytes ≤ MAX_ARGUMENTS → few_bytes (Some bytes) ≡ Some bytes
few_again bytes few = ap (λ (b : Bool). if b then Some bytes else None) (le-leb (length bytes) MAX_ARGUMENTS few)

pub request_printed : (d : DoneRequest) → FitsRequestLine d → Prints (request_line d) (Statement (statement.Setting (Request (fields_of_request d))))
unfolding setting_said request_text
request_printed d fits =
    let session = fits.session_to in
    let sequence = fits.sequence in
    let procedure = fits.procedure in
    let args = fits.args in
    printed (request_line d) (request_text d) (codes "request") (decimal d.request.session ∷ decimal d.request.sequence ∷ decimal d.reply ∷ decimal d.procedure ∷ hex_field d.args ∷ []) (7 + (1 + 20) + (1 + 20) + (1 + 20) + (1 + 20) + (1 + 513)) setting.Request (Request (fields_of_request d)) (request_line_is d)
    (with_field (codes "request" ++ next_number d.request.session ++ next_number d.request.sequence ++ next_number d.reply ++ next_number d.procedure) (hex_field d.args) (codes "request" ∷ decimal d.request.session ∷ decimal d.request.sequence ∷ decimal d.reply ∷ decimal d.procedure ∷ []) (7 + (1 + 20) + (1 + 20) + (1 + 20) + (1 + 20)) 513
    (with_number (codes "request" ++ next_number d.request.session ++ next_number d.request.sequence ++ next_number d.reply) d.procedure (codes "request" ∷ decimal d.request.session ∷ decimal d.request.sequence ∷ decimal d.reply ∷ []) (7 + (1 + 20) + (1 + 20) + (1 + 20))
    (with_number (codes "request" ++ next_number d.request.session ++ next_number d.request.sequence) d.reply (codes "request" ∷ decimal d.request.session ∷ decimal d.request.sequence ∷ []) (7 + (1 + 20) + (1 + 20))
    (with_number (codes "request" ++ next_number d.request.session) d.request.sequence (codes "request" ∷ decimal d.request.session ∷ []) (7 + (1 + 20))
    (with_number (codes "request") d.request.session (codes "request" ∷ []) 7 (word_line 114 (codes "equest") 7 (clear_word (codes "request") refl) refl (omega arith))
    (omega arith)) (omega arith)) fits.reply) (omega arith))
    (clear_field d.args fits.args_are) (omega (arith, length-hex_field d.args))) (omega arith) refl said
  where
    said : setting_said setting.Request (decimal d.request.session ∷ decimal d.request.sequence ∷ decimal d.reply ∷ decimal d.procedure ∷ hex_field d.args ∷ []) ≡ Ok (Request (fields_of_request d))
    said =
        let from = fits.session_from in
        let session = fits.session_to in
        let sequence = fits.sequence in
        let procedure = fits.procedure in
        let bytes = ap few_bytes (field_again d.args fits.args_are) ∙ few_again d.args fits.args in
        λ i. made_of Request (five (λ s q v n bytes. record { session = s; sequence = q; reply = v; procedure = n; args = bytes })
        (number_again 1 4294967295 d.request.session (omega arith) from (omega arith) i) (number_again 0 4294967295 d.request.sequence (omega arith) (omega arith) (omega arith) i)
        (number_again 0 18446744073709551615 d.reply fits.reply (omega arith) (omega arith) i) (number_again 0 65535 d.procedure (omega arith) (omega arith) (omega arith) i) (bytes i))
