-- Orders of byte strings, over the settings that sites have.
use Rattle.std.specs.Prelude.{ℕ, ◌<◌, ◌≤◌, ◌^◌, nat_eq, List, map, length, All}
use Rattle.std.specs.List.{IsDistinct}
use Rattle.bpf_code.specs.Program.{IsProgram}
use Rattle.schema.specs.declared.limits.TheConstants.{MAX_ARGUMENTS}
use Rattle.schema.specs.Schema.{AreTables}
use Rattle.schema.specs.Rows.{Rows}
use Rattle.log_model.specs.Log.{Catalogue, Setting, StoredProcedure, procedures_after, rows_after}
use Rattle.log_model.specs.Fit.{BeginsSafely}
use Rattle.site_model.specs.Standing.{SiteSetting}
use Rattle.site_model.specs.Order.{Order, order_log}

-- tables of a schema; it begins with procedures that are safe over them and with rows of them
pub record IsSafeSetting (w : Setting) : Type 0 where
  pub tables : AreTables w.tables
  pub begins : BeginsSafely w

-- no two procedures at first have a number in common
abbrev pub HasDistinctNumbers : Setting → Type 0
HasDistinctNumbers w = IsDistinct nat_eq (map (λ p. p.number) w.beginning.procedures)

-- its number fits its field, the length of its arguments is within the limit, and its program is one
pub record FitsFields (p : StoredProcedure) : Type 0 where
  pub number : p.number < 2 ^ 16
  pub arguments : p.args_len ≤ MAX_ARGUMENTS
  pub program : IsProgram p.program

-- a setting as sites have them
pub record IsSiteSetting (w : Setting) : Type 0 where
  pub safe : IsSafeSetting w
  pub distinct : HasDistinctNumbers w
  pub procedures : All FitsFields w.beginning.procedures

abbrev pub IsBytes : List ℕ → Type 0
IsBytes bytes = All (λ b. b < 256) bytes

-- each of its strings has bytes alone
abbrev pub IsOfBytes : Order → Type 0
IsOfBytes order = All IsBytes order

-- the rows and the procedures behind an order
abbrev pub rows_behind : SiteSetting → Order → Rows
rows_behind s order = rows_after s.setting (order_log s order) (length order)

abbrev pub procedures_behind : SiteSetting → Order → Catalogue
procedures_behind s order = procedures_after s.setting (order_log s order) (length order)
