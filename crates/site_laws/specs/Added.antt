-- A byte string that adds a procedure.
use Rattle.std.specs.Prelude.{◌≡◌, ℕ, ◌≤◌, true, List, Some, None}
use Rattle.bpf_code.specs.Program.{Program}
use Rattle.schema.specs.declared.limits.TheConstants.{MAX_ARGUMENTS}
use Rattle.log_model.specs.Log.{StoredProcedure, by_name, by_number}
use Rattle.log_model.specs.Name.{is_name}
use Rattle.program_checks.specs.ProgramCheck.{Passed}
use Rattle.program_checks.specs.Check.{check_of}
use Rattle.log_entry.specs.Head.{NamedProcedure, AdditionHead, head_of}
use Rattle.site_model.specs.Standing.{SiteSetting}
use Rattle.site_model.specs.Order.{Order}
use Rattle.site_model.specs.Answer.{stored_as}
use Rattle.site_laws.specs.Orders.{procedures_behind}

-- where additions are taken, the bytes are that of a procedure whose name has the shape of one and whose program is
-- accepted, for arguments of a length within the limit
pub record NamesProcedure (s : SiteSetting) (bytes : List ℕ) (p : StoredProcedure) : Type 0 where
  pub taken : s.takes_additions ≡ true
  pub named : NamedProcedure
  pub head : head_of bytes ≡ Some (AdditionHead named)
  pub name : is_name named.name ≡ true
  pub arguments : named.args_len ≤ MAX_ARGUMENTS
  pub program : Program
  pub accepted : check_of s.setting.tables named.args_len named.bytes ≡ Passed program
  pub is : p ≡ stored_as named program

-- and no procedure behind the order has its name or its number
pub record AddsProcedure (s : SiteSetting) (order : Order) (bytes : List ℕ) (p : StoredProcedure) : Type 0 where
  pub names : NamesProcedure s bytes p
  pub new_name : by_name (procedures_behind s order) p.name ≡ None
  pub new_number : by_number (procedures_behind s order) p.number ≡ None
