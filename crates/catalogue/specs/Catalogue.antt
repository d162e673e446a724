-- The catalogue of a database: its tables, the rows that it begins with, the requests that were done before, and its stored
-- procedures in order of entry.
use Rattle.std.specs.Prelude.{◌≡◌, ℕ, List, All, map, nat_eq, true}
use Rattle.std.specs.List.{IsDistinct}
use Rattle.std.specs.Str.{bytes_eq}
use Rattle.bpf_code.specs.Program.{IsProgram}
use Rattle.schema.specs.Schema.{Tables, AreTables}
use Rattle.schema.specs.Rows.{Rows, AreRows}
use Rattle.bpf_verify.specs.Flow.{Procedure, IsAccepted}
use Rattle.log_model.specs.Log.{StoredProcedure, Catalogue, DoneRequest, Beginning, Setting}
use Rattle.log_model.specs.Name.{is_name}
use Rattle.catalogue.specs.Stored.{ListedProcedure}
pub use Rattle.log_model.specs.Log.{by_name}
pub use Rattle.catalogue.specs.Stored.{stored_of}

pub record SystemCatalogue : Type 0 where
  pub tables : Tables
  pub rows : Rows
  pub requests : List DoneRequest  -- in order of entry
  pub procedures : Catalogue

-- what a database with this catalogue has before its log
abbrev pub beginning_of : SystemCatalogue → Beginning
beginning_of catalogue = record { rows = catalogue.rows; procedures = catalogue.procedures; requests = catalogue.requests }

-- what all replicas of a database with this catalogue have in common, under a window
abbrev pub system_setting : SystemCatalogue → ℕ → Setting
system_setting catalogue window = record { tables = catalogue.tables; beginning = beginning_of catalogue; window = window }

-- the program of a stored procedure, as it is accepted for some tables
abbrev pub accepted_of : Tables → StoredProcedure → Procedure
accepted_of tables p = record { program = p.program; tables = tables; args_len = p.args_len }

-- a stored procedure as it is listed
abbrev pub listed_of : Tables → StoredProcedure → ListedProcedure
listed_of tables p = record { name = p.name; number = p.number; accepted = accepted_of tables p }

-- the verifier accepted the program, for these tables
pub record IsAcceptedFor (tables : Tables) (p : Procedure) : Type 0 where
  pub own : p.tables ≡ tables
  pub program : IsProgram p.program
  pub accepted : IsAccepted p

-- what is known of every catalogue: each row is one of its tables; each procedure was accepted for its tables, no two have a
-- number or a name in common, and each name is one
pub record IsCatalogue (c : SystemCatalogue) : Type 0 where
  pub tables : AreTables c.tables
  pub rows : AreRows c.tables c.rows
  pub procedures : All (λ p. IsAcceptedFor c.tables (accepted_of c.tables p)) c.procedures
  pub numbers : IsDistinct nat_eq (map (λ p. p.number) c.procedures)
  pub names : IsDistinct bytes_eq (map (λ p. p.name) c.procedures)
  pub shapes : All (λ p. is_name p.name ≡ true) c.procedures
