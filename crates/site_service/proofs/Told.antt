-- What is known of the settings that lines say.
use Rattle.std.proofs.Common.{◌≡◌, ◌≤◌, ◌<◌, ◌^◌, true, false, List, [], ◌∷◌, ◌++◌, All, Option, Some, None, Ok}
use Rattle.schema.specs.declared.limits.TheConstants.{MAX_ARGUMENTS, MAX_WINDOW}
use Rattle.schema.specs.Schema.{Tables, schema_of}
use Rattle.schema.specs.Rows.{AreRows}
use Rattle.bpf_code.specs.Program.{IsProgram}
use Rattle.bpf_bytes.specs.Decoding.{program_of}
use Rattle.bpf_bytes.specs.Spelling.{spelling}
use Rattle.bpf_verify.specs.Flow.{IsAccepted}
use Rattle.log_model.specs.Log.{Catalogue, DoneRequest, StoredProcedure, by_name, by_number}
use Rattle.log_model.specs.Name.{is_name}
use Rattle.catalogue.specs.Catalogue.{accepted_of}
use Rattle.catalogue.specs.Fault.{is_next_session}
use Rattle.site_model.specs.declared.origin.Origin.{Origin}
use Rattle.site_model.specs.Standing.{SiteSetting}
use Rattle.site_service.specs.Settings.{is_beyond}
use Rattle.site_service.proofs.PrintedLemmas.{FitsRequestLine}

-- a procedure whose numbers fit their fields, whose program is spelled by bytes that decode to it, and is accepted
pub record IsWellTold (tables : Tables) (p : StoredProcedure) : Type 0 where
  pub name : is_name p.name ≡ true
  pub number : p.number < 2 ^ 16
  pub args_len : p.args_len ≤ MAX_ARGUMENTS
  pub program : IsProgram p.program
  pub decoded : program_of (spelling p.program) ≡ Ok p.program
  pub bytes : All (λ b. b < 256) (spelling p.program)
  pub accepted : IsAccepted (accepted_of tables p)

-- and whose name and number none before it has
pub record IsToldProcedure (tables : Tables) (before : Catalogue) (p : StoredProcedure) : Type 0 where
  pub well : IsWellTold tables p
  pub new_name : by_name before p.name ≡ None
  pub new_number : by_number before p.number ≡ None

-- procedures, each behind these and those before it
abbrev pub AreToldFrom : Tables → Catalogue → Catalogue → Type 0
AreToldFrom tables before [] = Unit {0}
AreToldFrom tables before (p ∷ ps) = IsToldProcedure tables before p × AreToldFrom tables (before ++ p ∷ []) ps

-- a request that fits its fields, of a session behind that of the last one, and of none above those of the origin
pub record IsToldRequest (origin : Option Origin) (before : List DoneRequest) (d : DoneRequest) : Type 0 where
  pub fits : FitsRequestLine d
  pub next : is_next_session before d.request.session ≡ true
  pub numbered : is_beyond origin d.request.session ≡ false

abbrev pub AreDoneFrom : Option Origin → List DoneRequest → List DoneRequest → Type 0
AreDoneFrom origin before [] = Unit {0}
AreDoneFrom origin before (d ∷ ds) = IsToldRequest origin before d × AreDoneFrom origin (before ++ d ∷ []) ds

abbrev pub FitsOrigin : Option Origin → Type 0
FitsOrigin None = Unit {0}
FitsOrigin (Some origin) = (origin.strings < 2 ^ 64) × (origin.sessions < 2 ^ 32)

pub record IsTold (s : SiteSetting) : Type 0 where
  pub window_from : 1 ≤ s.setting.window
  pub window_to : s.setting.window ≤ MAX_WINDOW
  pub tables : schema_of s.table_list ≡ Ok s.setting.tables
  pub origin : FitsOrigin s.origin
  pub procedures : AreToldFrom s.setting.tables [] s.setting.beginning.procedures
  pub rows : AreRows s.setting.tables s.setting.beginning.rows
  pub requests : AreDoneFrom s.origin [] s.setting.beginning.requests
