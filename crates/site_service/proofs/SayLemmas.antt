-- What a line of settings says fits its fields.
use Rattle.std.proofs.Common.{◌≡◌, ℕ, ◌≤◌, ◌<◌, ◌^◌, ◌==◌, nat_le, Bool, true, false, ◌&&◌, List, [], ◌∷◌, length, All, Option, Some, None, Result, Ok, Err, refl, sym, ap, subst, ◌∙◌, arith}
use Rattle.std.specs.Prelude.{codes, if◌then◌else◌}
use Rattle.std.specs.Result.{result_ok}
use Rattle.std.specs.Fmt.{decimal}
use Rattle.std.specs.Str.{bytes_eq}
use Rattle.std.specs.Str.Parse.{digits_value}
use Rattle.std.proofs.lemmas.Bool.{and_parts, leb-true}
use Rattle.std.proofs.lemmas.List.Elements.{All-from_get_or, All-nil}
use Rattle.hex.specs.declared.error.FromHexError.{FromHexError}
use Rattle.hex.specs.Hex.{decode_of}
use Rattle.hex.proofs.HexLemmas.{decode_of-ok}
use Rattle.schema.specs.declared.limits.TheConstants.{MAX_ARGUMENTS, MAX_REPLICAS, MAX_WINDOW}
use Rattle.script.specs.declared.fault.LineFault.{LineFault}
use Rattle.script.specs.declared.procedure_fields.ProcedureFields.{ProcedureFields}
use Rattle.script.specs.declared.request_fields.RequestFields.{RequestFields}
use Rattle.script.specs.declared.statements.Statement.TheVariants as statement
use Rattle.script.specs.declared.statements.Setting.TheVariants.{Window, Replicas, Table, Procedure, Row, Request, Origin}
use Rattle.script.specs.declared.word.Word.TheVariants as word
use Rattle.script.specs.declared.word.SettingWord.{SettingWord}
use Rattle.script.specs.declared.word.SettingWord.TheVariants as setting
use Rattle.script.specs.Line.{few_bytes, fields_said, fields_say, five, made_of, one, said_by_fields, said_by_word, says, three, two}
use Rattle.script.specs.Text.{bytes_of_hex, count_of, max_line, number_of, u16_of, u32_of, u64_of, u8_of}
use Rattle.script.specs.Script.{ScriptAction, ScriptSetting, ScriptStatement, setting_said}
use Rattle.script.specs.Script as script
use Rattle.script.specs.Settings.{done_of}
use Rattle.site_service.specs.declared.settings_line.SettingsWord.{SettingsWord}
use Rattle.site_service.specs.declared.settings_line.SettingsWord.TheVariants as kind
use Rattle.site_service.specs.declared.settings_line.SettingsLine.TheVariants.{Additions, Statement}
use Rattle.site_service.specs.Settings.{SettingsRequest, line_says, said_behind, word_of}
use Rattle.site_service.proofs.PrintedLemmas.{FitsRequestLine}

-- ---- fields

number_fits : (least most : ℕ) (field : List ℕ) (n : ℕ) → number_of least most field ≡ Some n → (least ≤ n) × (n ≤ most)
unfolding number_of
number_fits least most field n = by_test (digits_value 10 field) (bytes_eq field (decimal (digits_value 10 field)) && (nat_le least (digits_value 10 field) && nat_le (digits_value 10 field) most)) refl
  where
    by_test : (k : ℕ) (b : Bool) → (bytes_eq field (decimal k) && (nat_le least k && nat_le k most)) ≡ b → (if b then Some k else None) ≡ Some n → (least ≤ n) × (n ≤ most)
    by_test k false is e = absurd cc
    by_test k true is e =
        let same : k ≡ n = cc in
        let within = and_parts (nat_le least k) (nat_le k most) (and_parts (bytes_eq field (decimal k)) (nat_le least k && nat_le k most) is).1 in
        let low = leb-true least k within.0 in
        let high = leb-true k most within.1 in
        (omega arith, omega arith)

pub bytes_fit : (field bytes : List ℕ) → bytes_of_hex field ≡ Some bytes → All (λ b. b < 256) bytes
unfolding bytes_of_hex
bytes_fit field bytes = by_tests (bytes_eq field (codes "-")) (length field == 0)
  where
    decoded : (r : Result (List ℕ) FromHexError) → decode_of field ≡ r → result_ok r ≡ Some bytes → All (λ b. b < 256) bytes
    decoded (Err fault) is e = absurd cc
    decoded (Ok read) is e =
        let same : read ≡ bytes = cc in
        subst (All (λ b. b < 256)) same (All-from_get_or (λ b. b < 256) read 0 (λ i within. (decode_of-ok field read is).3 i))

    by_tests : (a b : Bool) → (if a then Some [] else if b then None else result_ok (decode_of field)) ≡ Some bytes → All (λ b. b < 256) bytes
    by_tests true b e = subst (All (λ b. b < 256)) (let same : [] ≡ bytes = cc in same) (All-nil (λ b. b < 256))
    by_tests false true e = absurd cc
    by_tests false false e = decoded (decode_of field) refl e

few_fit : (o : Option (List ℕ)) (bytes : List ℕ) → few_bytes o ≡ Some bytes → (o ≡ Some bytes) × (length bytes ≤ MAX_ARGUMENTS)
few_fit None bytes e = absurd cc
few_fit (Some read) bytes e = by_test (nat_le (length read) MAX_ARGUMENTS) refl e
  where
    by_test : (b : Bool) → nat_le (length read) MAX_ARGUMENTS ≡ b → (if b then Some read else None) ≡ Some bytes → (Some read ≡ Some bytes) × (length bytes ≤ MAX_ARGUMENTS)
    by_test false is e = absurd cc
    by_test true is e = (e, subst (λ (xs : List ℕ). length xs ≤ MAX_ARGUMENTS) (let same : read ≡ bytes = cc in same) (leb-true (length read) MAX_ARGUMENTS is))

-- ---- what is made of fields

pub made_from : {X Y : Type 0} (make : X → Y) (r : Result X LineFault) (y : Y) → made_of make r ≡ Ok y → (x : X) × (r ≡ Ok x) × (y ≡ make x)
made_from make (Err fault) y e = absurd cc
made_from make (Ok x) y e = (x, refl, let same : make x ≡ y = cc in sym same)

pub one_from : {X R : Type 0} (make : X → R) (o : Option X) (r : R) → one make o ≡ Ok r → (x : X) × (o ≡ Some x) × (r ≡ make x)
one_from make None r e = absurd cc
one_from make (Some x) r e = (x, refl, let same : make x ≡ r = cc in sym same)

two_from : {X Y R : Type 0} (make : X → Y → R) (o : Option X) (p : Option Y) (r : R) → two make o p ≡ Ok r → (x : X) × (y : Y) × (o ≡ Some x) × (p ≡ Some y) × (r ≡ make x y)
two_from make None p r e = absurd cc
two_from make (Some x) None r e = absurd cc
two_from make (Some x) (Some y) r e = (x, y, refl, refl, let same : make x y ≡ r = cc in sym same)

pub three_from : {X Y Z R : Type 0} (make : X → Y → Z → R) (o : Option X) (p : Option Y) (q : Option Z) (r : R) → three make o p q ≡ Ok r → (x : X) × (y : Y) × (z : Z) × (o ≡ Some x) × (p ≡ Some y) × (q ≡ Some z) × (r ≡ make x y z)
three_from make None p q r e = absurd cc
three_from make (Some x) None q r e = absurd cc
three_from make (Some x) (Some y) None r e = absurd cc
three_from make (Some x) (Some y) (Some z) r e = (x, y, z, refl, refl, refl, let same : make x y z ≡ r = cc in sym same)

-- ---- a setting

-- the numbers and the bytes of a setting fit their fields
abbrev pub FitsSetting : ScriptSetting → Type 0
FitsSetting (Window window) = (1 ≤ window) × (window ≤ MAX_WINDOW)
FitsSetting (Replicas replicas) = Unit {0}
FitsSetting (Table table width) = Unit {0}
FitsSetting (Procedure p) = (p.number < 2 ^ 16) × (p.args_len ≤ MAX_ARGUMENTS) × All (λ b. b < 256) p.program
FitsSetting (Row table key row) = (key < 2 ^ 64) × All (λ b. b < 256) row
FitsSetting (Request r) = FitsRequestLine (done_of r)
FitsSetting (Origin strings sessions) = (strings < 2 ^ 64) × (sessions < 2 ^ 32)

window_fits : (field : List ℕ) (x : ScriptSetting) → one Window (number_of 1 MAX_WINDOW field) ≡ Ok x → FitsSetting x
window_fits field x e =
    let (n, is, same) = one_from Window (number_of 1 MAX_WINDOW field) x e in
    subst FitsSetting (sym same) (number_fits 1 MAX_WINDOW field n is)

replicas_fits : (field : List ℕ) (x : ScriptSetting) → one Replicas (number_of 1 MAX_REPLICAS field) ≡ Ok x → FitsSetting x
replicas_fits field x e = let (n, is, same) = one_from Replicas (number_of 1 MAX_REPLICAS field) x e in subst FitsSetting (sym same) tt

table_fits : (table width : List ℕ) (x : ScriptSetting) → two Table (u8_of table) (u16_of width) ≡ Ok x → FitsSetting x
table_fits table width x e = let (t, w, is, wide, same) = two_from Table (u8_of table) (u16_of width) x e in subst FitsSetting (sym same) tt

origin_fits : (strings sessions : List ℕ) (x : ScriptSetting) → two Origin (u64_of strings) (u32_of sessions) ≡ Ok x → FitsSetting x
origin_fits strings sessions x e =
    let (b, n, many, few, same) = two_from Origin (u64_of strings) (u32_of sessions) x e in
    let most = (number_fits 0 18446744073709551615 strings b many).1 in
    let least = (number_fits 0 4294967295 sessions n few).1 in
    subst FitsSetting (sym same) (omega arith, omega arith)

row_fits : (table key row : List ℕ) (x : ScriptSetting) → three Row (u8_of table) (u64_of key) (bytes_of_hex row) ≡ Ok x → FitsSetting x
row_fits table key row x e =
    let (t, k, bytes, is_table, is_key, is_row, same) = three_from Row (u8_of table) (u64_of key) (bytes_of_hex row) x e in
    let most = (number_fits 0 18446744073709551615 key k is_key).1 in
    subst FitsSetting (sym same) (omega arith, bytes_fit row bytes is_row)

abbrev make_procedure : List ℕ → ℕ → ℕ → List ℕ → ProcedureFields (List ℕ)
make_procedure name n len bytes = record { name = name; number = n; args_len = len; program = bytes }

fields_of_procedure_fit : (name number args_len program : List ℕ) (a b : Option ℕ) (o : Option (List ℕ)) → u16_of number ≡ a → number_of 0 MAX_ARGUMENTS args_len ≡ b → bytes_of_hex program ≡ o
    → (p : ProcedureFields (List ℕ)) → three (make_procedure name) a b o ≡ Ok p → FitsSetting (Procedure p)
fields_of_procedure_fit name number args_len program (Some n) (Some len) (Some bytes) ea eb eo p e =
    let same : make_procedure name n len bytes ≡ p = cc in
    let most = (number_fits 0 65535 number n ea).1 in
    subst (λ (q : ProcedureFields (List ℕ)). FitsSetting (Procedure q)) same (omega arith, (number_fits 0 MAX_ARGUMENTS args_len len eb).1, bytes_fit program bytes eo)
fields_of_procedure_fit name number args_len program _ _ _ ea eb eo p e = absurd cc

procedure_fits : (name number args_len program : List ℕ) (x : ScriptSetting) → made_of Procedure (three (make_procedure name) (u16_of number) (number_of 0 MAX_ARGUMENTS args_len) (bytes_of_hex program)) ≡ Ok x → FitsSetting x
procedure_fits name number args_len program x e =
    let (p, made, same) = made_from Procedure (three (make_procedure name) (u16_of number) (number_of 0 MAX_ARGUMENTS args_len) (bytes_of_hex program)) x e in
    subst FitsSetting (sym same) (fields_of_procedure_fit name number args_len program (u16_of number) (number_of 0 MAX_ARGUMENTS args_len) (bytes_of_hex program) refl refl refl p made)

abbrev make_request : ℕ → ℕ → ℕ → ℕ → List ℕ → RequestFields (List ℕ)
make_request s q v n bytes = record { session = s; sequence = q; reply = v; procedure = n; args = bytes }

request_of_fields : (session sequence reply procedure args : List ℕ) (a b c d : Option ℕ) (o : Option (List ℕ)) → count_of session ≡ a → u32_of sequence ≡ b → u64_of reply ≡ c → u16_of procedure ≡ d → few_bytes (bytes_of_hex args) ≡ o
    → (r : RequestFields (List ℕ)) → five make_request a b c d o ≡ Ok r → FitsRequestLine (done_of r)
request_of_fields session sequence reply procedure args (Some s) (Some q) (Some v) (Some n) (Some bytes) ea eb ec ed eo r e =
    let same : make_request s q v n bytes ≡ r = cc in
    let is_session = number_fits 1 4294967295 session s ea in
    let is_sequence = number_fits 0 4294967295 sequence q eb in
    let is_reply = number_fits 0 18446744073709551615 reply v ec in
    let is_procedure = number_fits 0 65535 procedure n ed in
    let few = few_fit (bytes_of_hex args) bytes eo in
    let s_to = is_session.1 in
    let q_to = is_sequence.1 in
    let v_to = is_reply.1 in
    let n_to = is_procedure.1 in
    subst (λ (f : RequestFields (List ℕ)). FitsRequestLine (done_of f)) same (record {
      session_from = is_session.0;
      session_to = omega arith;
      sequence = omega arith;
      reply = omega arith;
      procedure = omega arith;
      args = few.1;
      args_are = bytes_fit args bytes few.0;
    })
request_of_fields session sequence reply procedure args _ _ _ _ _ ea eb ec ed eo r e = absurd cc

request_fits : (session sequence reply procedure args : List ℕ) (x : ScriptSetting)
    → made_of Request (five make_request (count_of session) (u32_of sequence) (u64_of reply) (u16_of procedure) (few_bytes (bytes_of_hex args))) ≡ Ok x → FitsSetting x
request_fits session sequence reply procedure args x e =
    let (r, made, same) = made_from Request (five make_request (count_of session) (u32_of sequence) (u64_of reply) (u16_of procedure) (few_bytes (bytes_of_hex args))) x e in
    subst FitsSetting (sym same) (request_of_fields session sequence reply procedure args (count_of session) (u32_of sequence) (u64_of reply) (u16_of procedure) (few_bytes (bytes_of_hex args)) refl refl refl refl refl r made)

setting_fits : (w : SettingWord) (fields : List (List ℕ)) (x : ScriptSetting) → setting_said w fields ≡ Ok x → FitsSetting x
unfolding setting_said
setting_fits setting.Window (window ∷ []) x e = window_fits window x e
setting_fits setting.Replicas (replicas ∷ []) x e = replicas_fits replicas x e
setting_fits setting.Table (table ∷ width ∷ []) x e = table_fits table width x e
setting_fits setting.Proc (name ∷ number ∷ args_len ∷ program ∷ []) x e = procedure_fits name number args_len program x e
setting_fits setting.Row (table ∷ key ∷ row ∷ []) x e = row_fits table key row x e
setting_fits setting.Request (session ∷ sequence ∷ reply ∷ procedure ∷ args ∷ []) x e = request_fits session sequence reply procedure args x e
setting_fits setting.Origin (strings ∷ sessions ∷ []) x e = origin_fits strings sessions x e
setting_fits _ _ x e = absurd cc

-- ---- a line

abbrev pub FitsRequest : SettingsRequest → Type 0
FitsRequest Additions = Unit {0}
FitsRequest (Statement (statement.Setting x)) = FitsSetting x
FitsRequest (Statement (statement.Action a)) = Unit {0}

word_fits : (w : SettingsWord) (fields : List (List ℕ)) (x : SettingsRequest) → said_behind w fields ≡ Ok x → FitsRequest x
word_fits kind.Additions [] x e = subst FitsRequest (let same : Additions ≡ x = cc in same) tt
word_fits kind.Additions (field ∷ fields) x e = absurd cc
word_fits (kind.Script (word.Setting w)) fields x e =
    let (s, made, same) = made_from Statement (made_of statement.Setting (setting_said w fields)) x e in
    let (y, said, is) = made_from statement.Setting (setting_said w fields) s made in
    subst FitsRequest (sym (same ∙ ap Statement is)) (setting_fits w fields y said)
word_fits (kind.Script (word.Action w)) fields x e =
    let (s, made, same) = made_from Statement (made_of statement.Action (script.action_said w fields)) x e in
    let (y, said, is) = made_from statement.Action (script.action_said w fields) s made in
    subst FitsRequest (sym (same ∙ ap Statement is)) tt

fields_fit : (fields : List (List ℕ)) (x : SettingsRequest) → fields_say word_of said_behind fields ≡ Ok x → FitsRequest x
fields_fit [] x e = absurd cc
fields_fit (first ∷ fields) x e = by_word (word_of first) e
  where
    by_word : (o : Option SettingsWord) → said_by_word said_behind o fields ≡ Ok x → FitsRequest x
    by_word None e = absurd cc
    by_word (Some w) e = word_fits w fields x e

-- what a line says fits
pub line_fits : (line : List ℕ) (x : SettingsRequest) → line_says line ≡ Ok (Some x) → FitsRequest x
unfolding says
line_fits line x = by_fields (fields_said max_line line)
  where
    by_fields : (r : Result (Option (List (List ℕ))) LineFault) → said_by_fields (fields_say word_of said_behind) r ≡ Ok (Some x) → FitsRequest x
    by_fields (Err fault) e = absurd cc
    by_fields (Ok None) e = absurd (let same : None ≡ Some x = cc in cc)
    by_fields (Ok (Some fields)) e =
        let (y, said, same) = made_from Some (fields_say word_of said_behind fields) (Some x) e in
        subst FitsRequest (let back : x ≡ y = cc in sym back) (fields_fit fields y said)
