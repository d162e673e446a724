-- Settings are read back from their lines.
use Rattle.std.proofs.Common.{◌≡◌, ℕ, ◌≤◌, ◌==◌, nat_le, Bool, true, false, not, ◌&&◌, is_some, List, [], ◌∷◌, ◌++◌, length, map, Option, Some, None, Result, Ok, Err, refl, sym, ap, subst, ◌∙◌, arith, append_assoc, append-nil}
use Rattle.std.specs.Prelude.{T, if◌then◌else◌}
use Rattle.std.specs.List.{AllByRecursion, concat, list_all}
use Rattle.std.specs.Option.{option_or}
use Rattle.std.proofs.lemmas.Bool.Decides.{nat_tests}
use Rattle.std.specs.Ordering.{is_lt}
use Rattle.std.specs.FinMap.{empty, entries, entries_sorted, get, insert, is_sorted, len-empty, len-entries, same_entries_map}
use Rattle.std.proofs.lemmas.Bool.{and_parts, leb-true}
use Rattle.schema.specs.declared.fault.SchemaFault.{SchemaFault}
use Rattle.schema.specs.declared.fault.SchemaFault.TheVariants.{TableNumber, Width, RepeatedTable}
use Rattle.schema.specs.declared.limits.TheConstants.{MAX_TABLE, MAX_WIDTH}
use Rattle.schema.specs.Rows.{AreRows, IsRow, Key, Rows, is_behind, key_cmp, key_cmp_total}
use Rattle.schema.specs.Schema.{AreTables, Tables, fault_of, fault_or, with_pairs}
use Rattle.schema.proofs.EqualLemmas.{same_schema}
use Rattle.schema.proofs.SchemaLemmas.{no_tables, tables_added}
use Rattle.bpf_code.specs.Program.{Program}
use Rattle.bpf_bytes.specs.declared.fault.DecodeFault.{DecodeFault}
use Rattle.bpf_bytes.specs.Spelling.{spelling}
use Rattle.bpf_verify.specs.Flow.{Procedure as Accepted}
use Rattle.log_model.specs.Log.{Catalogue, DoneRequest, StoredProcedure}
use Rattle.catalogue.specs.Catalogue.{SystemCatalogue, accepted_of}
use Rattle.catalogue.specs.declared.fault.CatalogueFault.{CatalogueFault}
use Rattle.catalogue.specs.declared.fault.CatalogueFault.TheVariants.{NameTaken, NumberTaken, NameShape, ForeignSchema}
use Rattle.catalogue.specs.declared.row_fault.RowFault.{RowFault}
use Rattle.catalogue.specs.declared.row_fault.RowFault.TheVariants.{Width as RowWidth, Order}
use Rattle.catalogue.specs.Fault.{is_next_session, order_fault, row_fault_of, width_fault}
use Rattle.catalogue.specs.declared.request_fault.RequestFault.TheVariants.{Order as RequestOrder}
use Rattle.catalogue.specs.Fault as catalogue_fault
use Rattle.script.specs.declared.cause.FaultCause.{FaultCause}
use Rattle.script.specs.declared.cause.FaultCause.TheVariants as cause
use Rattle.script.specs.declared.statements.Statement.TheVariants as statement
use Rattle.script.specs.declared.statements.Setting.TheVariants.{Window, Table, Procedure, Row, Request, Origin}
use Rattle.script.specs.Settings.{caused, only_tables, program_for, setting_after, stored, then_with, unless_fault, unless_row_fault, verified, with_procedure}
use Rattle.script.proofs.AcceptanceLemmas.{verified_accepted}
use Rattle.site_model.specs.declared.origin.Origin.{Origin as OrderOrigin}
use Rattle.site_model.specs.Standing.{SiteSetting}
use Rattle.site_laws.proofs.DecodingLemmas.{whole_length}
use Rattle.site_report.specs.SettingsText.{additions_lines, beginning_lines, first_lines, origin_lines, procedure_line, request_line, row_setting_line, settings_lines, table_line, window_line}
use Rattle.site_service.specs.declared.settings_line.SettingsLine.TheVariants.{Additions, Statement}
use Rattle.site_service.specs.Settings.{SettingsSoFar, after_line, nothing_set, settings_say, whole}
use Rattle.site_service.proofs.PrintedLemmas.{additions_printed, fields_of_procedure, fields_of_request, origin_printed, procedure_printed, request_printed, row_printed, table_printed, window_printed}
use Rattle.site_laws.proofs.RisingLemmas.{each_is_found, insert_last, is_last, true_is}
use Rattle.site_service.proofs.LeadLemmas.{Leads, leads_by, leads_nowhere, leads_on, said_where_led}
use Rattle.site_service.proofs.Told.{AreDoneFrom, AreToldFrom, FitsOrigin, IsTold, IsToldProcedure}

-- ---- tables

-- with a window and these tables
abbrev with_tables : ℕ → Tables → List (ℕ × ℕ) → SettingsSoFar
with_tables window tables list = record {
  settings = record { window = Some window; replicas = None; catalogue = record { tables = tables; rows = empty; requests = []; procedures = [] } };
  table_list = list;
  takes_additions = false;
  origin = None;
}

-- a table that has no fault: its numbers fit their fields
record IsNewTable (tables : Tables) (table width : ℕ) : Type 0 where
  none : fault_of tables table width ≡ None
  table_to : table ≤ MAX_TABLE
  width_to : width ≤ MAX_WIDTH

new_table : (tables : Tables) (table width : ℕ) → fault_of tables table width ≡ None → IsNewTable tables table width
new_table tables table width e = by_tests (nat_le 1 table && nat_le table MAX_TABLE) refl (nat_le 1 width && nat_le width MAX_WIDTH) refl (is_some (get tables table)) e
  where
    by_tests : (a : Bool) → (nat_le 1 table && nat_le table MAX_TABLE) ≡ a → (b : Bool) → (nat_le 1 width && nat_le width MAX_WIDTH) ≡ b → (t : Bool)
        → (if not a then Some TableNumber else if not b then Some Width else if t then Some RepeatedTable else None) ≡ None → IsNewTable tables table width
    by_tests false ea b eb t h = absurd cc
    by_tests true ea false eb t h = absurd cc
    by_tests true ea true eb true h = absurd cc
    by_tests true ea true eb false h =
        record { none = e; table_to = leb-true table MAX_TABLE (and_parts (nat_le 1 table) _ ea).1; width_to = leb-true width MAX_WIDTH (and_parts (nat_le 1 width) _ eb).1 }

no_fault : (fault : Option SchemaFault) (r : Result Tables SchemaFault) (tables : Tables) → fault_or fault r ≡ Ok tables → (fault ≡ None) × (r ≡ Ok tables)
no_fault (Some f) r tables e = absurd cc
no_fault None r tables e = (refl, e)

abbrev none_there : Rows
none_there = empty

no_rows : length (entries none_there) ≡ 0
no_rows = sym (len-entries none_there) ∙ len-empty key_cmp (List ℕ)

with_one_table : (window : ℕ) (tables : Tables) (list : List (ℕ × ℕ)) (table width : ℕ) → fault_of tables table width ≡ None
    → after_line (with_tables window tables list) (Ok (Some (Statement (statement.Setting (Table table width))))) ≡ Ok (with_tables window (insert tables table width) (list ++ (table, width) ∷ []))
unfolding setting_after
with_one_table window tables list table width none = λ i. by_both (no_rows i) (none i)
  where
    by_both : ℕ → Option SchemaFault → Result SettingsSoFar FaultCause
    by_both n fault =
        then_with (then_with (if (n == 0) && (length (with_tables window tables list).settings.catalogue.requests == 0) && (length (with_tables window tables list).settings.catalogue.procedures == 0) then then_with (caused cause.Table (fault_or fault (Ok (insert tables table width)))) only_tables else Err cause.Place)
        (λ catalogue. Ok (record (with_tables window tables list).settings { catalogue = catalogue })))
        (λ settings. Ok (record (with_tables window tables list) { settings = settings; table_list = list ++ (table, width) ∷ [] }))

lead_tables : (window : ℕ) (pairs : List (ℕ × ℕ)) (before tables : Tables) (list : List (ℕ × ℕ)) → with_pairs pairs before ≡ Ok tables → Leads (with_tables window before list) (map table_line pairs) (with_tables window tables (list ++ pairs))
lead_tables window [] before tables list e =
    let same : before ≡ tables = cc in
    subst (λ (t : Tables). Leads (with_tables window before list) [] (with_tables window t (list ++ []))) same
    (subst (λ (l : List (ℕ × ℕ)). Leads (with_tables window before list) [] (with_tables window before l)) (sym (append-nil list)) (leads_nowhere (with_tables window before list)))
lead_tables window ((table, width) ∷ pairs) before tables list e =
    let parts = no_fault (fault_of before table width) (with_pairs pairs (insert before table width)) tables e in
    let new = new_table before table width parts.0 in
    let most = new.table_to in
    let wide = new.width_to in
    leads_by (with_tables window before list) (with_tables window (insert before table width) (list ++ (table, width) ∷ [])) (with_tables window tables (list ++ (table, width) ∷ pairs)) (table_line (table, width)) (map table_line pairs) (Statement (statement.Setting (Table table width)))
    (table_printed table width (omega arith) (omega arith)) (with_one_table window before list table width parts.0)
    (subst (λ (l : List (ℕ × ℕ)). Leads (with_tables window (insert before table width) (list ++ (table, width) ∷ [])) (map table_line pairs) (with_tables window tables l)) (append_assoc list ((table, width) ∷ []) pairs)
    (lead_tables window pairs (insert before table width) tables (list ++ (table, width) ∷ []) parts.1))

-- tables of which lines tell are tables
tables_from : (pairs : List (ℕ × ℕ)) (before tables : Tables) → with_pairs pairs before ≡ Ok tables → AreTables before → AreTables tables
tables_from [] before tables e are = subst AreTables (let same : before ≡ tables = cc in same) are
tables_from ((table, width) ∷ pairs) before tables e are =
    let parts = no_fault (fault_of before table width) (with_pairs pairs (insert before table width)) tables e in
    tables_from pairs (insert before table width) tables parts.1 (tables_added before table width are parts.0)

pub are_tables : (s : SiteSetting) → IsTold s → AreTables s.setting.tables
are_tables s told = tables_from s.table_list empty s.setting.tables told.tables (no_tables [] refl)

-- ---- additions and the origin

abbrev first_set : SiteSetting → Bool → Option OrderOrigin → SettingsSoFar
first_set s additions origin = record {
  settings = record { window = Some s.setting.window; replicas = None; catalogue = record { tables = s.setting.tables; rows = empty; requests = []; procedures = [] } };
  table_list = s.table_list;
  takes_additions = additions;
  origin = origin;
}

lead_additions : (s : SiteSetting) (takes : Bool) → Leads (first_set s false None) (additions_lines takes) (first_set s takes None)
lead_additions s false = leads_nowhere (first_set s false None)
lead_additions s true = leads_by (first_set s false None) (first_set s true None) (first_set s true None) _ [] Additions additions_printed refl (leads_nowhere (first_set s true None))

lead_origin : (s : SiteSetting) (origin : Option OrderOrigin) → FitsOrigin origin → Leads (first_set s s.takes_additions None) (origin_lines origin) (first_set s s.takes_additions origin)
lead_origin s None fits = leads_nowhere (first_set s s.takes_additions None)
lead_origin s (Some origin) fits =
    leads_by (first_set s s.takes_additions None) (first_set s s.takes_additions (Some origin)) (first_set s s.takes_additions (Some origin)) _ [] (Statement (statement.Setting (Origin origin.strings origin.sessions))) (origin_printed origin fits.0 fits.1) refl
    (leads_nowhere (first_set s s.takes_additions (Some origin)))

-- ---- what the database begins with

abbrev so_far : SiteSetting → Rows → List DoneRequest → Catalogue → SettingsSoFar
so_far s rows requests procedures = record {
  settings = record { window = Some s.setting.window; replicas = None; catalogue = record { tables = s.setting.tables; rows = rows; requests = requests; procedures = procedures } };
  table_list = s.table_list;
  takes_additions = s.takes_additions;
  origin = s.origin;
}

-- a procedure is stored where nothing is against it
no_catalogue_fault : (c : SystemCatalogue) (p : StoredProcedure) → IsToldProcedure c.tables c.procedures p → catalogue_fault.fault_of c p.name p.number c.tables ≡ None
no_catalogue_fault c p told =
    λ i. by_tests (is_some (told.new_name i)) (is_some (told.new_number i)) (told.well.name i) (same_schema c.tables c.tables refl i)
  where
    by_tests : Bool → Bool → Bool → Bool → Option CatalogueFault
    by_tests a b n t = if a then Some NameTaken else if b then Some NumberTaken else if not n then Some NameShape else if not t then Some ForeignSchema else None

one_procedure : (c : SystemCatalogue) (p : StoredProcedure) → IsToldProcedure c.tables c.procedures p → with_procedure c p.name p.number p.args_len (spelling p.program) ≡ Ok (record c { procedures = c.procedures ++ p ∷ [] })
unfolding with_procedure
one_procedure c p told =
    ap (λ (r : Result Program DecodeFault). then_with (caused cause.Program r) (λ program. then_with (verified (program_for c.tables p.args_len program)) (stored c p.name p.number))) told.well.decoded
    ∙ ap (λ (r : Result Accepted FaultCause). then_with r (stored c p.name p.number)) (verified_accepted (accepted_of c.tables p) told.well.accepted)
    ∙ ap (unless_fault (record c { procedures = c.procedures ++ p ∷ [] })) (no_catalogue_fault c p told)

lead_procedures : (s : SiteSetting) (before ps : Catalogue) → AreToldFrom s.setting.tables before ps → Leads (so_far s empty [] before) (map procedure_line ps) (so_far s empty [] (before ++ ps))
unfolding setting_after
lead_procedures s before [] told = subst (λ (l : Catalogue). Leads (so_far s empty [] before) [] (so_far s empty [] l)) (sym (append-nil before)) (leads_nowhere (so_far s empty [] before))
lead_procedures s before (p ∷ ps) told =
    let well = told.0.well in
    let long = whole_length (spelling p.program) p.program well.decoded in
    leads_by (so_far s empty [] before) (so_far s empty [] (before ++ p ∷ [])) (so_far s empty [] (before ++ p ∷ ps)) (procedure_line p) (map procedure_line ps) (Statement (statement.Setting (Procedure (fields_of_procedure p (spelling p.program)))))
    (procedure_printed p (spelling p.program) (record { name = well.name; number = well.number; args_len = well.args_len; spelled = refl; bytes_are = well.bytes; short = omega arith }))
    (ap (λ (r : Result SystemCatalogue FaultCause). then_with (then_with r (λ catalogue. Ok (record (so_far s empty [] before).settings { catalogue = catalogue }))) (λ settings. Ok (record (so_far s empty [] before) { settings = settings })))
    (one_procedure (so_far s empty [] before).settings.catalogue p told.0))
    (subst (λ (l : Catalogue). Leads (so_far s empty [] (before ++ p ∷ [])) (map procedure_line ps) (so_far s empty [] l)) (append_assoc before (p ∷ []) ps) (lead_procedures s (before ++ p ∷ []) ps told.1))

-- ---- rows

Rises : List (Key × List ℕ) → Type 0
Rises es = T (is_sorted key_cmp es)

AreRowsOf : Tables → List (Key × List ℕ) → Type 0
AreRowsOf tables es = AllByRecursion (λ e. IsRow tables e.0.0 e.0.1 e.1) es

no_row_fault : (tables : Tables) (m : Rows) (before : List (Key × List ℕ)) (key : Key) (row : List ℕ) → entries m ≡ before → IsRow tables key.0 key.1 row → T (list_all (λ k. is_lt (key_cmp k key)) (map (λ e. e.0) before)) → row_fault_of tables m key row ≡ None
no_row_fault tables m before key row is fits last =
    let same : (length row == length row) ≡ true = grind (arith, nat_tests) in
    let behind : is_behind m key ≡ true = ap (λ (es : List (Key × List ℕ)). list_all (λ k. is_lt (key_cmp k key)) (map (λ e. e.0) es)) is ∙ true_is _ last in
    ap (λ (o : Option ℕ). option_or (width_fault o (length row)) (order_fault m key)) fits.width
    ∙ λ i. option_or (if same i then None else Some RowWidth) (if behind i then None else Some Order)

lead_rows : (s : SiteSetting) → AreTables s.setting.tables → (ps : Catalogue) (m : Rows) (before es : List (Key × List ℕ)) → entries m ≡ before → Rises (before ++ es) → AreRowsOf s.setting.tables es
    → (n : Rows) × (entries n ≡ before ++ es) × Leads (so_far s m [] ps) (map row_setting_line es) (so_far s n [] ps)
unfolding setting_after Rises AreRowsOf
lead_rows s tables ps m before [] is rises rows = (m, is ∙ sym (append-nil before), leads_nowhere (so_far s m [] ps))
lead_rows s tables ps m before ((key, row) ∷ es) is rises rows =
    let last = is_last key_cmp before es (key, row) rises in
    let fits = rows.0 in
    let table = tables key.0 (length row) fits.width in
    let most = table.table_to in
    let wide = table.width_to in
    let rest = lead_rows s tables ps (insert m key row) (before ++ (key, row) ∷ []) es (insert_last key_cmp key_cmp_total m before key row is last)
    (subst (λ (l : List (Key × List ℕ)). T (is_sorted key_cmp l)) (sym (append_assoc before ((key, row) ∷ []) es)) rises) rows.1 in (
      rest.0,
      rest.1 ∙ append_assoc before ((key, row) ∷ []) es,
      leads_by (so_far s m [] ps) (so_far s (insert m key row) [] ps) (so_far s rest.0 [] ps) (row_setting_line (key, row)) (map row_setting_line es) (Statement (statement.Setting (Row key.0 key.1 row)))
          (row_printed key row (omega arith) fits.at_key.key_fits fits.each_byte (omega arith))
          (ap (λ (fault : Option RowFault). then_with (then_with (unless_row_fault (record (so_far s m [] ps).settings.catalogue { rows = insert m key row }) fault) (λ catalogue. Ok (record (so_far s m [] ps).settings { catalogue = catalogue }))) (λ settings. Ok (record (so_far s m [] ps) { settings = settings })))
          (no_row_fault s.setting.tables m before key row is fits last))
          rest.2,
    )

rows_of : (tables : Tables) (rows : Rows) → AreRows tables rows → AreRowsOf tables (entries rows)
unfolding AreRowsOf
rows_of tables rows are = all (entries rows) (each_is_found key_cmp key_cmp_total rows)
  where
    all : (es : List (Key × List ℕ)) → AllByRecursion (λ e. get rows e.0 ≡ Some e.1) es → AllByRecursion (λ e. IsRow tables e.0.0 e.0.1 e.1) es
    all [] found = tt
    all (e ∷ es) found = (are e.0.0 e.0.1 e.1 found.0, all es found.1)

-- ---- requests

lead_requests : (s : SiteSetting) (rows : Rows) (ps : Catalogue) (before ds : List DoneRequest) → AreDoneFrom s.origin before ds → Leads (so_far s rows before ps) (map request_line ds) (so_far s rows (before ++ ds) ps)
unfolding setting_after
lead_requests s rows ps before [] told = subst (λ (l : List DoneRequest). Leads (so_far s rows before ps) [] (so_far s rows l ps)) (sym (append-nil before)) (leads_nowhere (so_far s rows before ps))
lead_requests s rows ps before (d ∷ ds) told =
    leads_by (so_far s rows before ps) (so_far s rows (before ++ d ∷ []) ps) (so_far s rows (before ++ d ∷ ds) ps) (request_line d) (map request_line ds) (Statement (statement.Setting (Request (fields_of_request d))))
    (request_printed d told.0.fits)
    (λ i. by_tests (told.0.numbered i) (told.0.next i))
    (subst (λ (l : List DoneRequest). Leads (so_far s rows (before ++ d ∷ []) ps) (map request_line ds) (so_far s rows l ps)) (append_assoc before (d ∷ []) ds) (lead_requests s rows ps (before ++ d ∷ []) ds told.1))
  where
    by_tests : Bool → Bool → Result SettingsSoFar FaultCause
    by_tests beyond next =
        if beyond then Err cause.Session
        else then_with (then_with (if next then Ok (record (so_far s rows before ps).settings.catalogue { requests = before ++ d ∷ [] }) else Err (cause.Request RequestOrder)) (λ catalogue. Ok (record (so_far s rows before ps).settings { catalogue = catalogue })))
        (λ settings. Ok (record (so_far s rows before ps) { settings = settings }))

-- ---- the whole

lead_first : (s : SiteSetting) → IsTold s → Leads nothing_set (first_lines s) (so_far s empty [] [])
unfolding setting_after
lead_first s told =
    leads_by nothing_set (with_tables s.setting.window empty []) (so_far s empty [] []) (window_line s.setting.window) (map table_line s.table_list ++ (additions_lines s.takes_additions ++ origin_lines s.origin)) (Statement (statement.Setting (Window s.setting.window)))
    (window_printed s.setting.window told.window_from told.window_to) refl
    (leads_on (with_tables s.setting.window empty []) (with_tables s.setting.window s.setting.tables s.table_list) (so_far s empty [] []) (map table_line s.table_list) (additions_lines s.takes_additions ++ origin_lines s.origin)
    (lead_tables s.setting.window s.table_list empty s.setting.tables [] told.tables)
    (leads_on (first_set s false None) (first_set s s.takes_additions None) (so_far s empty [] []) (additions_lines s.takes_additions) (origin_lines s.origin) (lead_additions s s.takes_additions) (lead_origin s s.origin told.origin)))

-- settings that lines can say are what their lines say
pub read_back : (s : SiteSetting) → IsTold s → settings_say (concat (settings_lines s)) ≡ Ok s
unfolding Rises
read_back s told =
    let b = s.setting.beginning in
    let (n, same, rows) = lead_rows s (are_tables s told) b.procedures empty [] (entries b.rows) no_entries (entries_sorted b.rows) (rows_of s.setting.tables b.rows told.rows) in
    said_where_led (settings_lines s) (so_far s n b.requests b.procedures)
    (leads_on nothing_set (so_far s empty [] []) (so_far s n b.requests b.procedures) (first_lines s) (beginning_lines b) (lead_first s told)
    (leads_on (so_far s empty [] []) (so_far s empty [] b.procedures) (so_far s n b.requests b.procedures) (map procedure_line b.procedures) (map row_setting_line (entries b.rows) ++ map request_line b.requests) (lead_procedures s [] b.procedures told.procedures)
    (leads_on (so_far s empty [] b.procedures) (so_far s n [] b.procedures) (so_far s n b.requests b.procedures) (map row_setting_line (entries b.rows)) (map request_line b.requests) rows (lead_requests s n b.procedures [] b.requests told.requests))))
    ∙ ap (λ (m : Rows). whole (so_far s m b.requests b.procedures)) (same_entries_map n b.rows same)
  where
    no_entries : entries none_there ≡ []
    no_entries = nothing_in (entries none_there) no_rows
      where
        nothing_in : (es : List (Key × List ℕ)) → length es ≡ 0 → es ≡ []
        nothing_in [] e = refl
        nothing_in (x ∷ es) e = absurd (omega arith)
