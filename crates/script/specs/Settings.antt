-- What the setting lines of a script have set so far.
use Rattle.std.specs.Prelude.{ℕ, ◌≤◌, ◌==◌, ◌&&◌, Bool, if◌then◌else◌, List, [], ◌∷◌, ◌++◌, length, Option, Some, None, Result, Ok, Err, IfSome, refl}
use Rattle.std.specs.Coded.{Coded, code_by, coded×, coded_ℕ, coded_option}
use Rattle.std.specs.FinMap.{empty, entries, insert}
use Rattle.schema.specs.declared.limits.TheConstants.{MAX_REPLICAS, MAX_WINDOW}
use Rattle.bpf_code.specs.Program.{Program}
use Rattle.bpf_bytes.specs.Decoding.{program_of}
use Rattle.schema.specs.Schema.{Tables, with_pairs}
use Rattle.schema.specs.Rows.{Key}
use Rattle.bpf_verify.specs.declared.refusal.Refusal.{Refusal}
use Rattle.bpf_verify.specs.Flow.{Procedure}
use Rattle.log_model.specs.Log.{DoneRequest}
use Rattle.catalogue.specs.declared.fault.CatalogueFault.{CatalogueFault}
use Rattle.catalogue.specs.declared.row_fault.RowFault.{RowFault}
use Rattle.catalogue.specs.declared.request_fault.RequestFault.TheVariants.{Order}
use Rattle.catalogue.specs.Catalogue.{stored_of}
pub use Rattle.catalogue.specs.Catalogue.{SystemCatalogue}
use Rattle.catalogue.specs.Held.{catalogue_code}
use Rattle.catalogue.specs.Fault.{fault_of, row_fault_of, is_next_session}
use Rattle.script.specs.declared.request_fields.RequestFields.{RequestFields}
use Rattle.script.specs.declared.statements.Setting.TheVariants as setting
use Rattle.script.specs.Script.{ScriptSetting}
use Rattle.script.specs.declared.cause.FaultCause.{FaultCause}
use Rattle.script.specs.declared.cause.FaultCause.TheVariants as cause
use Rattle.script.specs.Acceptance.{refusal_of}

pub record ScriptSettings : Type 0 where
  pub window : Option ℕ
  pub replicas : Option ℕ
  pub catalogue : SystemCatalogue

-- before the first line
abbrev pub no_settings : ScriptSettings
no_settings = record { window = None; replicas = None; catalogue = record { tables = empty; rows = empty; requests = []; procedures = [] } }

-- ---- what may be at fault

-- the same, with a cause where it is at fault
abbrev pub caused : {X E : Type 0} → (E → FaultCause) → Result X E → Result X FaultCause
caused cause (Ok x) = Ok x
caused cause (Err fault) = Err (cause fault)

-- what follows where nothing is at fault
abbrev pub then_with : {X Y : Type 0} → Result X FaultCause → (X → Result Y FaultCause) → Result Y FaultCause
then_with (Ok x) next = next x
then_with (Err cause) next = Err cause

-- ---- tables and procedures

-- these tables, and nothing else
abbrev pub only_tables : Tables → Result SystemCatalogue FaultCause
only_tables tables = Ok (record { tables = tables; rows = empty; requests = []; procedures = [] })

abbrev pub has_only_tables : SystemCatalogue → Bool
has_only_tables c = (length (entries c.rows) == 0) && (length c.requests == 0) && (length c.procedures == 0)

-- with one more table, which stands before all rows, requests and procedures
abbrev pub with_table : SystemCatalogue → ℕ → ℕ → Result SystemCatalogue FaultCause
with_table c table width =
    if has_only_tables c then then_with (caused cause.Table (with_pairs ((table, width) ∷ []) c.tables)) only_tables
    else Err cause.Place

abbrev pub unless_refused : Procedure → Option Refusal → Result Procedure FaultCause
unless_refused p None = Ok p
unless_refused p (Some refusal) = Err (cause.Refused refusal)

-- a procedure, where it is accepted
abbrev pub verified : Procedure → Result Procedure FaultCause
verified p = unless_refused p (refusal_of p)

abbrev pub unless_fault : SystemCatalogue → Option CatalogueFault → Result SystemCatalogue FaultCause
unless_fault c None = Ok c
unless_fault c (Some fault) = Err (cause.Procedure fault)

-- with an accepted procedure behind the others
abbrev pub stored : SystemCatalogue → List ℕ → ℕ → Procedure → Result SystemCatalogue FaultCause
stored c name number p =
    unless_fault (record c { procedures = c.procedures ++ stored_of name number p ∷ [] }) (fault_of c name number p.tables)

abbrev pub program_for : Tables → ℕ → Program → Procedure
program_for tables args_len program = record { program = program; tables = tables; args_len = args_len }

-- with one more procedure: its bytes are a program, which is accepted for the tables and can be stored
unfoldable pub with_procedure : SystemCatalogue → List ℕ → ℕ → ℕ → List ℕ → Result SystemCatalogue FaultCause
with_procedure c name number args_len bytes =
    then_with (caused cause.Program (program_of bytes)) (λ program.
    then_with (verified (program_for c.tables args_len program)) (stored c name number))

-- ---- rows and requests

abbrev pub unless_row_fault : SystemCatalogue → Option RowFault → Result SystemCatalogue FaultCause
unless_row_fault c None = Ok c
unless_row_fault c (Some fault) = Err (cause.Row fault)

-- with one more row behind the others
abbrev pub with_row : SystemCatalogue → Key → List ℕ → Result SystemCatalogue FaultCause
with_row c key row =
    unless_row_fault (record c { rows = insert c.rows key row }) (row_fault_of c.tables c.rows key row)

abbrev pub done_of : RequestFields (List ℕ) → DoneRequest
done_of r = record { request = record { session = r.session; sequence = r.sequence }; reply = r.reply; procedure = r.procedure; args = r.args }

-- with one more request that was done, behind the others
abbrev pub with_request : SystemCatalogue → RequestFields (List ℕ) → Result SystemCatalogue FaultCause
with_request c r =
    if is_next_session c.requests r.session then Ok (record c { requests = c.requests ++ done_of r ∷ [] })
    else Err (cause.Request Order)

-- ---- settings

-- what is given once
abbrev pub once : Option ℕ → ℕ → Result (Option ℕ) FaultCause
once None n = Ok (Some n)
once (Some _) n = Err cause.Place

-- the settings after one more line; an origin is of sites alone
unfoldable pub setting_after : ScriptSettings → ScriptSetting → Result ScriptSettings FaultCause
setting_after s (setting.Window window) = then_with (once s.window window) (λ window. Ok (record s { window = window }))
setting_after s (setting.Replicas replicas) = then_with (once s.replicas replicas) (λ replicas. Ok (record s { replicas = replicas }))
setting_after s (setting.Table table width) =
    then_with (with_table s.catalogue table width) (λ catalogue. Ok (record s { catalogue = catalogue }))
setting_after s (setting.Procedure p) =
    then_with (with_procedure s.catalogue p.name p.number p.args_len p.program) (λ catalogue. Ok (record s { catalogue = catalogue }))
setting_after s (setting.Row table key row) =
    then_with (with_row s.catalogue (table, key) row) (λ catalogue. Ok (record s { catalogue = catalogue }))
setting_after s (setting.Request r) = then_with (with_request s.catalogue r) (λ catalogue. Ok (record s { catalogue = catalogue }))
setting_after s (setting.Origin strings sessions) = Err cause.Place

-- what is known of all settings
pub record AreWithinLimits (window replicas : Option ℕ) : Type 0 where
  pub window_from : IfSome window (λ n. 1 ≤ n)
  pub window_to : IfSome window (λ n. n ≤ MAX_WINDOW)
  pub replicas_from : IfSome replicas (λ n. 1 ≤ n)
  pub replicas_to : IfSome replicas (λ n. n ≤ MAX_REPLICAS)

-- ---- how settings are told from others, as the checker needs it

abbrev pub settings_code : Coded ScriptSettings
settings_code = code_by (Option ℕ × (Option ℕ × SystemCatalogue))
    (coded× (coded_option coded_ℕ) (coded× (coded_option coded_ℕ) catalogue_code))
    (λ s. (s.window, (s.replicas, s.catalogue)))
    (λ c. record { window = c.0; replicas = c.1.0; catalogue = c.1.1 })
    (λ _. refl)
