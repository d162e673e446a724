-- Settings that lines say are within limits: their procedures are accepted, their rows are of their tables, their requests rise.
use Rattle.std.proofs.Common.{◌≡◌, ℕ, ◌+◌, ◌≤◌, ◌<◌, ◌==◌, Bool, true, false, not, ◌||◌, is_some, List, [], ◌∷◌, ◌++◌, length, All, Option, Some, None, Result, Ok, Err, refl, sym, ap, subst, ◌∙◌, arith, append_assoc, append-nil}
use Rattle.std.specs.Prelude.{IsSome, if◌then◌else◌}
use Rattle.std.specs.Option.{option_or}
use Rattle.std.specs.FinMap.{empty, get, insert}
use Rattle.std.proofs.lemmas.Bool.Decides.{nat_tests}
use Rattle.schema.specs.declared.limits.TheConstants.{MAX_WINDOW}
use Rattle.schema.specs.Rows.{AreRows, IsRow}
use Rattle.schema.specs.Schema.{Tables, schema_of, with_pairs}
use Rattle.schema.proofs.RowsLemmas.{no_rows, rows_with_put}
use Rattle.bpf_bytes.specs.Decoding.{program_of}
use Rattle.bpf_verify.specs.Flow.{Procedure as Accepted}
use Rattle.log_model.specs.Log.{Catalogue, DoneRequest, StoredProcedure}
use Rattle.log_model.specs.Name.{is_name}
use Rattle.catalogue.specs.Catalogue.{SystemCatalogue, stored_of, system_setting}
use Rattle.catalogue.specs.declared.fault.CatalogueFault.{CatalogueFault}
use Rattle.catalogue.specs.declared.fault.CatalogueFault.TheVariants.{NameTaken, NumberTaken, NameShape, ForeignSchema}
use Rattle.catalogue.specs.declared.request_fault.RequestFault.TheVariants.{Order as RequestOrder}
use Rattle.catalogue.specs.declared.row_fault.RowFault.{RowFault}
use Rattle.catalogue.specs.declared.row_fault.RowFault.TheVariants.{Width}
use Rattle.catalogue.specs.Fault.{fault_of, is_next_session, order_fault, row_fault_of, width_fault}
use Rattle.script.specs.declared.cause.FaultCause.{FaultCause}
use Rattle.script.specs.declared.cause.FaultCause.TheVariants as cause
use Rattle.script.specs.declared.fault.LineFault.{LineFault}
use Rattle.script.specs.declared.procedure_fields.ProcedureFields.{ProcedureFields}
use Rattle.script.specs.declared.request_fields.RequestFields.{RequestFields}
use Rattle.script.specs.declared.statements.Statement.TheVariants as statement
use Rattle.script.specs.declared.statements.Setting.TheVariants.{Window, Replicas, Table, Procedure, Row, Request, Origin}
use Rattle.script.specs.Said.{said_from, unless_faulty}
use Rattle.script.specs.Script.{ScriptSetting}
use Rattle.script.specs.Settings.{ScriptSettings, caused, done_of, has_only_tables, once, only_tables, program_for, setting_after, stored, then_with, unless_fault, unless_row_fault, verified, with_procedure, with_request, with_row}
use Rattle.script.specs.Settings as script
use Rattle.script.specs.Text.{lines_of}
use Rattle.script.proofs.AcceptanceLemmas.{accepted_where_verified}
use Rattle.script.proofs.TableLemmas.{schema_of-append}
use Rattle.site_model.specs.declared.origin.Origin.{Origin as OrderOrigin}
use Rattle.site_model.specs.Standing.{SiteSetting}
use Rattle.site_laws.proofs.DecodingLemmas.{decoded_is_program}
use Rattle.site_laws.proofs.SpelledLemmas.{decoded_is_spelled}
use Rattle.site_service.specs.declared.settings_line.SettingsLine.TheVariants.{Additions, Statement}
use Rattle.site_service.specs.Settings.{SettingsRequest, SettingsSoFar, after_line, is_beyond, line_says, nothing_set, settings_say, whole, with_additions, with_line, with_origin, with_script_setting, with_setting, with_table, with_window}
use Rattle.site_service.proofs.SayLemmas.{FitsSetting, line_fits}
use Rattle.site_service.proofs.Told.{AreDoneFrom, AreToldFrom, FitsOrigin, IsTold, IsToldProcedure, IsToldRequest, IsWellTold}

abbrev FitsWindow : Option ℕ → Type 0
FitsWindow None = Unit {0}
FitsWindow (Some window) = (1 ≤ window) × (window ≤ MAX_WINDOW)

-- ---- one more procedure, one more request

pub told_push : (tables : Tables) (before ps : Catalogue) (p : StoredProcedure) → AreToldFrom tables before ps → IsToldProcedure tables (before ++ ps) p → AreToldFrom tables before (ps ++ p ∷ [])
told_push tables before [] p told is = (subst (λ (l : Catalogue). IsToldProcedure tables l p) (append-nil before) is, tt)
told_push tables before (q ∷ ps) p told is = (told.0, told_push tables (before ++ q ∷ []) ps p told.1 (subst (λ (l : Catalogue). IsToldProcedure tables l p) (sym (append_assoc before (q ∷ []) ps)) is))

done_push : (origin : Option OrderOrigin) (before ds : List DoneRequest) (d : DoneRequest) → AreDoneFrom origin before ds → IsToldRequest origin (before ++ ds) d → AreDoneFrom origin before (ds ++ d ∷ [])
done_push origin before [] d told is = (subst (λ (l : List DoneRequest). IsToldRequest origin l d) (append-nil before) is, tt)
done_push origin before (q ∷ ds) d told is = (told.0, done_push origin (before ++ q ∷ []) ds d told.1 (subst (λ (l : List DoneRequest). IsToldRequest origin l d) (sym (append_assoc before (q ∷ []) ds)) is))

-- ---- what is known of a catalogue

record Holds (origin : Option OrderOrigin) (c : SystemCatalogue) : Type 0 where
  procedures : AreToldFrom c.tables [] c.procedures
  rows : AreRows c.tables c.rows
  requests : AreDoneFrom origin [] c.requests

then_from : {X Y : Type 0} (r : Result X FaultCause) (next : X → Result Y FaultCause) (y : Y) → then_with r next ≡ Ok y → (x : X) × (r ≡ Ok x) × (next x ≡ Ok y)
then_from (Ok x) next y e = (x, refl, e)
then_from (Err fault) next y e = absurd cc

caused_from : {X E : Type 0} (make : E → FaultCause) (r : Result X E) (x : X) → caused make r ≡ Ok x → r ≡ Ok x
caused_from make (Ok y) x e = ap Ok (let same : y ≡ x = cc in same)
caused_from make (Err fault) x e = absurd cc

ok_is : {X E : Type 0} (x y : X) → ◌≡◌ {A = Result X E} (Ok x) (Ok y) → x ≡ y
ok_is x y e = cc

-- ---- procedures

no_fault_from : {X Y : Type 0} (a : Option X) (b : Option Y) (n t : Bool) → (if is_some a then Some NameTaken else if is_some b then Some NumberTaken else if not n then Some NameShape else if not t then Some ForeignSchema else None) ≡ None
    → (a ≡ None) × (b ≡ None) × (n ≡ true)
no_fault_from (Some x) b n t e = absurd cc
no_fault_from None (Some y) n t e = absurd cc
no_fault_from None None false t e = absurd cc
no_fault_from None None true false e = absurd cc
no_fault_from None None true true e = (refl, refl, refl)

unless_from : (c d : SystemCatalogue) (o : Option CatalogueFault) → unless_fault c o ≡ Ok d → (o ≡ None) × (c ≡ d)
unless_from c d (Some fault) e = absurd cc
unless_from c d None e = (refl, ok_is c d e)

with_procedure_holds : (origin : Option OrderOrigin) (c d : SystemCatalogue) (p : ProcedureFields (List ℕ)) → FitsSetting (Procedure p) → Holds origin c → with_procedure c p.name p.number p.args_len p.program ≡ Ok d → (d.tables ≡ c.tables) × Holds origin d
unfolding with_procedure
with_procedure_holds origin c d p fits holds e =
    let (program, is_program, behind) = then_from (caused cause.Program (program_of p.program)) (λ program. then_with (verified (program_for c.tables p.args_len program)) (stored c p.name p.number)) d e in
    let decoded = caused_from cause.Program (program_of p.program) program is_program in
    let (accepted, is_verified, is_stored) = then_from (verified (program_for c.tables p.args_len program)) (stored c p.name p.number) d behind in
    let (same, is_accepted) = accepted_where_verified (program_for c.tables p.args_len program) accepted is_verified in
    let (none, made) = unless_from (record c { procedures = c.procedures ++ stored_of p.name p.number accepted ∷ [] }) d (fault_of c p.name p.number accepted.tables) is_stored in
    let (new_name, new_number, is_name) = no_fault_from _ _ _ _ none in
    let spelled = decoded_is_spelled p.program program fits.2 decoded in
    let q : StoredProcedure = stored_of p.name p.number (program_for c.tables p.args_len program) in
    let well : IsWellTold c.tables q = record {
      name = is_name;
      number = fits.0;
      args_len = fits.1;
      program = decoded_is_program p.program program decoded;
      decoded = ap program_of spelled ∙ decoded;
      bytes = subst (All (λ b. b < 256)) (sym spelled) fits.2;
      accepted = is_accepted;
    } in
    let next : SystemCatalogue = record c { procedures = c.procedures ++ q ∷ [] } in
    let all : Holds origin next = record {
      procedures = told_push c.tables [] c.procedures q holds.procedures (record { well = well; new_name = new_name; new_number = new_number });
      rows = holds.rows;
      requests = holds.requests;
    } in
    let is : next ≡ d = ap (λ (a : Accepted). record c { procedures = c.procedures ++ stored_of p.name p.number a ∷ [] }) (sym same) ∙ made in
    subst (λ (x : SystemCatalogue). (x.tables ≡ c.tables) × Holds origin x) is (refl, all)

-- ---- rows

row_unless_from : (c d : SystemCatalogue) (o : Option RowFault) → unless_row_fault c o ≡ Ok d → (o ≡ None) × (c ≡ d)
row_unless_from c d (Some fault) e = absurd cc
row_unless_from c d None e = (refl, ok_is c d e)

width_from : (o : Option ℕ) (many : ℕ) (later : Option RowFault) → option_or (width_fault o many) later ≡ None → o ≡ Some many
width_from None many later e = absurd cc
width_from (Some width) many later e = by_test (width == many) refl e
  where
    by_test : (b : Bool) → (width == many) ≡ b → option_or (if b then None else Some Width) later ≡ None → Some width ≡ Some many
    by_test false is e = absurd cc
    by_test true is e = ap Some (let same : width ≡ many = grind (arith, nat_tests) in same)

with_row_holds : (origin : Option OrderOrigin) (c d : SystemCatalogue) (table key : ℕ) (row : List ℕ) → FitsSetting (Row table key row) → Holds origin c → with_row c (table, key) row ≡ Ok d → (d.tables ≡ c.tables) × Holds origin d
with_row_holds origin c d table key row fits holds e =
    let (none, made) = row_unless_from (record c { rows = insert c.rows (table, key) row }) d (row_fault_of c.tables c.rows (table, key) row) e in
    let width = width_from (get c.tables table) (length row) (order_fault c.rows (table, key)) none in
    let there : IsSome (get c.tables table) = subst (λ (o : Option ℕ). IsSome o) (sym width) refl in
    let is : IsRow c.tables table key row = record { at_key = record { table_is = there; key_fits = fits.0 }; width = width; each_byte = fits.1 } in
    let next : SystemCatalogue = record c { rows = insert c.rows (table, key) row } in
    let all : Holds origin next = record { procedures = holds.procedures; rows = rows_with_put c.tables c.rows table key row is holds.rows; requests = holds.requests } in
    subst (λ (x : SystemCatalogue). (x.tables ≡ c.tables) × Holds origin x) made (refl, all)

-- ---- requests

with_request_holds : (origin : Option OrderOrigin) (c d : SystemCatalogue) (r : RequestFields (List ℕ)) → FitsSetting (Request r) → is_beyond origin r.session ≡ false → Holds origin c → with_request c r ≡ Ok d → (d.tables ≡ c.tables) × Holds origin d
with_request_holds origin c d r fits within holds = by_test (is_next_session c.requests r.session) refl
  where
    by_test : (b : Bool) → is_next_session c.requests r.session ≡ b → (if b then Ok (record c { requests = c.requests ++ done_of r ∷ [] }) else Err (cause.Request RequestOrder)) ≡ Ok d → (d.tables ≡ c.tables) × Holds origin d
    by_test false is e = absurd cc
    by_test true is e =
        let next : SystemCatalogue = record c { requests = c.requests ++ done_of r ∷ [] } in
        let all : Holds origin next = record {
          procedures = holds.procedures;
          rows = holds.rows;
          requests = done_push origin [] c.requests (done_of r) holds.requests (record { fits = fits; next = is; numbered = within });
        } in
        subst (λ (x : SystemCatalogue). (x.tables ≡ c.tables) × Holds origin x) (ok_is next d e) (refl, all)

-- ---- what is set so far

record IsSoFar (t : SettingsSoFar) : Type 0 where
  window : FitsWindow t.settings.window
  tables : schema_of t.table_list ≡ Ok t.settings.catalogue.tables
  origin : FitsOrigin t.origin
  holds : Holds t.origin t.settings.catalogue

-- with another catalogue of the same tables
abbrev with_catalogue : SettingsSoFar → SystemCatalogue → SettingsSoFar
with_catalogue t c = record t { settings = record t.settings { catalogue = c } }

-- what a line that changes the catalogue alone comes to
by_catalogue : (t u : SettingsSoFar) (r : Result SystemCatalogue FaultCause) → IsSoFar t → ((d : SystemCatalogue) → r ≡ Ok d → (d.tables ≡ t.settings.catalogue.tables) × Holds t.origin d)
    → then_with (then_with r (λ c. Ok (record t.settings { catalogue = c }))) (λ settings. Ok (record t { settings = settings })) ≡ Ok u → IsSoFar u
by_catalogue t u (Err fault) is holds e = absurd cc
by_catalogue t u (Ok d) is holds e =
    let (same, all) = holds d refl in
    subst IsSoFar (ok_is (with_catalogue t d) u e)
    (record { window = is.window; tables = is.tables ∙ ap Ok (sym same); origin = is.origin; holds = all })

-- a window
with_window_holds : (t u : SettingsSoFar) (n : ℕ) → FitsSetting (Window n) → IsSoFar t → with_script_setting t (Window n) ≡ Ok u → IsSoFar u
unfolding setting_after
with_window_holds t u n fits is e = by_window t.settings.window e
  where
    by_window : (o : Option ℕ) → then_with (then_with (once o n) (λ window. Ok (record t.settings { window = window }))) (λ settings. Ok (record t { settings = settings })) ≡ Ok u → IsSoFar u
    by_window (Some m) e = absurd cc
    by_window None e =
        subst IsSoFar (ok_is (record t { settings = record t.settings { window = Some n } }) u e)
        (record { window = fits; tables = is.tables; origin = is.origin; holds = is.holds })

-- a table
only_from : (c d : SystemCatalogue) (table width : ℕ) → script.with_table c table width ≡ Ok d → (tables : Tables) × (with_pairs ((table, width) ∷ []) c.tables ≡ Ok tables) × (d ≡ record { tables = tables; rows = empty; requests = []; procedures = [] })
only_from c d table width = by_test (has_only_tables c)
  where
    by_test : (b : Bool) → (if b then then_with (caused cause.Table (with_pairs ((table, width) ∷ []) c.tables)) only_tables else Err cause.Place) ≡ Ok d
        → (tables : Tables) × (with_pairs ((table, width) ∷ []) c.tables ≡ Ok tables) × (d ≡ record { tables = tables; rows = empty; requests = []; procedures = [] })
    by_test false e = absurd cc
    by_test true e =
        let (tables, made, only) = then_from (caused cause.Table (with_pairs ((table, width) ∷ []) c.tables)) only_tables d e in
        (tables, caused_from cause.Table (with_pairs ((table, width) ∷ []) c.tables) tables made, sym (ok_is (record { tables = tables; rows = empty; requests = []; procedures = [] }) d only))

with_table_holds : (t u : SettingsSoFar) (table width : ℕ) → IsSoFar t → with_table t table width ≡ Ok u → IsSoFar u
unfolding setting_after
with_table_holds t u table width is = by_origin (is_some t.origin)
  where
    by_origin : (b : Bool)
        → (if b then Err cause.Place else then_with (setting_after t.settings (Table table width)) (λ settings. Ok (record t { settings = settings; table_list = t.table_list ++ (table, width) ∷ [] }))) ≡ Ok u → IsSoFar u
    by_origin true e = absurd cc
    by_origin false e =
        let (settings, made, whole) = then_from (setting_after t.settings (Table table width)) (λ settings. Ok (record t { settings = settings; table_list = t.table_list ++ (table, width) ∷ [] })) u e in
        let (d, is_table, catalogue) = then_from (script.with_table t.settings.catalogue table width) (λ c. Ok (record t.settings { catalogue = c })) settings made in
        let (tables, pair, only) = only_from t.settings.catalogue d table width is_table in
        let next : SystemCatalogue → SettingsSoFar = λ c. record t { settings = record t.settings { catalogue = c }; table_list = t.table_list ++ (table, width) ∷ [] } in
        let same : next d ≡ u = ap (λ (s : ScriptSettings). record t { settings = s; table_list = t.table_list ++ (table, width) ∷ [] }) (ok_is (record t.settings { catalogue = d }) settings catalogue)
        ∙ ok_is (record t { settings = settings; table_list = t.table_list ++ (table, width) ∷ [] }) u whole in
        subst IsSoFar (ap next (sym only) ∙ same) (record {
          window = is.window;
          tables = schema_of-append t.table_list ((table, width) ∷ []) t.settings.catalogue.tables is.tables ∙ pair;
          origin = is.origin;
          holds = record { procedures = tt; rows = no_rows tables; requests = tt };
        })

-- an origin, which stands before all requests
no_requests : (origin other : Option OrderOrigin) (ds : List DoneRequest) → (length ds == 0) ≡ true → AreDoneFrom origin [] ds → AreDoneFrom other [] ds
no_requests origin other [] e are = tt
no_requests origin other (d ∷ ds) e are = absurd (grind (arith, nat_tests))

with_origin_holds : (t u : SettingsSoFar) (origin : OrderOrigin) → FitsOrigin (Some origin) → IsSoFar t → with_origin t origin ≡ Ok u → IsSoFar u
with_origin_holds t u origin fits is = by_tests (is_some t.origin) (length t.settings.catalogue.requests == 0) refl
  where
    by_tests : (a b : Bool) → (length t.settings.catalogue.requests == 0) ≡ b → (if a || not b then Err cause.Place else Ok (record t { origin = Some origin })) ≡ Ok u → IsSoFar u
    by_tests true b eb e = absurd cc
    by_tests false false eb e = absurd cc
    by_tests false true eb e =
        subst IsSoFar (ok_is (record t { origin = Some origin }) u e) (record {
          window = is.window;
          tables = is.tables;
          origin = fits;
          holds = record { procedures = is.holds.procedures; rows = is.holds.rows; requests = no_requests t.origin (Some origin) t.settings.catalogue.requests eb is.holds.requests };
        })

with_additions_holds : (t u : SettingsSoFar) → IsSoFar t → with_additions t ≡ Ok u → IsSoFar u
with_additions_holds t u is = by_test t.takes_additions
  where
    by_test : (b : Bool) → (if b then Err cause.Place else Ok (record t { takes_additions = true })) ≡ Ok u → IsSoFar u
    by_test true e = absurd cc
    by_test false e = subst IsSoFar (ok_is (record t { takes_additions = true }) u e) (record { window = is.window; tables = is.tables; origin = is.origin; holds = is.holds })

with_request_line_holds : (t u : SettingsSoFar) (r : RequestFields (List ℕ)) → FitsSetting (Request r) → IsSoFar t → with_setting t (Request r) ≡ Ok u → IsSoFar u
unfolding setting_after
with_request_line_holds t u r fits is = by_test (is_beyond t.origin r.session) refl
  where
    by_test : (b : Bool) → is_beyond t.origin r.session ≡ b → (if b then Err cause.Session else with_script_setting t (Request r)) ≡ Ok u → IsSoFar u
    by_test true beyond e = absurd cc
    by_test false within e = by_catalogue t u (with_request t.settings.catalogue r) is (λ d made. with_request_holds t.origin t.settings.catalogue d r fits within is.holds made) e

with_setting_holds : (t u : SettingsSoFar) (x : ScriptSetting) → FitsSetting x → IsSoFar t → with_setting t x ≡ Ok u → IsSoFar u
unfolding setting_after
with_setting_holds t u (Window n) fits is e = with_window_holds t u n fits is e
with_setting_holds t u (Replicas n) fits is e = absurd cc
with_setting_holds t u (Table table width) fits is e = with_table_holds t u table width is e
with_setting_holds t u (Procedure p) fits is e =
    by_catalogue t u (with_procedure t.settings.catalogue p.name p.number p.args_len p.program) is (λ d made. with_procedure_holds t.origin t.settings.catalogue d p fits is.holds made) e
with_setting_holds t u (Row table key row) fits is e = by_catalogue t u (with_row t.settings.catalogue (table, key) row) is (λ d made. with_row_holds t.origin t.settings.catalogue d table key row fits is.holds made) e
with_setting_holds t u (Request r) fits is e = with_request_line_holds t u r fits is e
with_setting_holds t u (Origin strings sessions) fits is e = with_origin_holds t u (record { strings = strings; sessions = sessions }) fits is e

-- ---- lines

line_holds : (t u : SettingsSoFar) (line : List ℕ) → IsSoFar t → with_line t line ≡ Ok u → IsSoFar u
line_holds t u line is = by_line (line_says line) refl
  where
    by_line : (r : Result (Option SettingsRequest) LineFault) → line_says line ≡ r → after_line t r ≡ Ok u → IsSoFar u
    by_line (Err fault) said e = absurd cc
    by_line (Ok None) said e = subst IsSoFar (ok_is t u e) is
    by_line (Ok (Some Additions)) said e = with_additions_holds t u is e
    by_line (Ok (Some (Statement (statement.Setting x)))) said e = with_setting_holds t u x (line_fits line (Statement (statement.Setting x)) said) is e
    by_line (Ok (Some (Statement (statement.Action a)))) said e = absurd cc

whole_is_told : (t : SettingsSoFar) (s : SiteSetting) → IsSoFar t → whole t ≡ Ok s → IsTold s
whole_is_told t s is = by_window t.settings.window is.window
  where
    by_window : (o : Option ℕ) → FitsWindow o → with_window t o ≡ Ok s → IsTold s
    by_window None fits e = absurd cc
    by_window (Some window) fits e =
        subst IsTold (ok_is (record { setting = system_setting t.settings.catalogue window; table_list = t.table_list; takes_additions = t.takes_additions; origin = t.origin }) s e) (record {
          window_from = fits.0;
          window_to = fits.1;
          tables = is.tables;
          origin = is.origin;
          procedures = is.holds.procedures;
          rows = is.holds.rows;
          requests = is.holds.requests;
        })

lines_hold : (t : SettingsSoFar) (number : ℕ) (lines : List (List ℕ)) (s : SiteSetting) → IsSoFar t → said_from with_line whole t number lines ≡ Ok s → IsTold s
unfolding said_from
lines_hold t number [] s is e = whole_is_told t s is e
lines_hold t number (line ∷ lines) s is e = by_next (λ u made rest. lines_hold u (number + 1) lines s (line_holds t u line is made) rest) (with_line t line) refl e
  where
    by_next : ((u : SettingsSoFar) → with_line t line ≡ Ok u → said_from with_line whole u (number + 1) lines ≡ Ok s → IsTold s) → (r : Result SettingsSoFar FaultCause) → with_line t line ≡ r
        → unless_faulty number r (λ next. said_from with_line whole next (number + 1) lines) ≡ Ok s → IsTold s
    by_next later (Err fault) made e = absurd cc
    by_next later (Ok u) made e = later u made e

-- settings that lines say are within limits
pub said_is_told : (bytes : List ℕ) (s : SiteSetting) → settings_say bytes ≡ Ok s → IsTold s
said_is_told bytes s e = lines_hold nothing_set 1 (lines_of bytes) s (record { window = tt; tables = refl; origin = tt; holds = record { procedures = tt; rows = no_rows empty; requests = tt } }) e
