-- What an addition is answered, and what was seen of the log then.
use Rattle.std.specs.Prelude.{◌≡◌, ℕ, ◌<◌, ◌≤◌, false, List, [], ◌∷◌, ◌++◌, length, Option, Some, None}
use Rattle.schema.specs.declared.limits.TheConstants.{MAX_ARGUMENTS}
use Rattle.bpf_code.specs.Program.{Program as Code}
use Rattle.schema.specs.Schema.{Tables}
use Rattle.log_model.specs.Log.{Setting}
use Rattle.log_model.specs.Name.{is_name}
use Rattle.catalogue.specs.Stored.{ListedProcedure}
use Rattle.log_entry.specs.declared.entry.Entry.{Entry as LogEntry}
use Rattle.log_entry.specs.declared.entry.Entry.TheVariants as entry
use Rattle.program_checks.specs.ProgramCheck.{Passed, Failed}
use Rattle.program_checks.specs.Check.{check_of}
use Rattle.locked_replica.specs.Ordered.{IsOrderedAddition}
use Rattle.served_replicas.specs.declared.add.ProgramRefusal.TheVariants.{ArgumentsLimit, Fault}
use Rattle.served_replicas.specs.declared.add.Added.{Added}
use Rattle.served_replicas.specs.declared.add.Added.TheVariants.{Ordered, Full, NoMemory, Program, Name}

-- what is to be added: a procedure with the bytes of its program
pub record AskedAddition : Type 0 where
  pub name : List ℕ
  pub number : ℕ
  pub args_len : ℕ
  pub bytes : List ℕ

-- this is the procedure that is to be added: its name is one, and its program is that of the bytes, accepted for the tables and
-- for arguments of so many bytes, at most 256
pub record IsAskedFor (tables : Tables) (a : AskedAddition) (p : ListedProcedure) : Type 0 where
  pub name : p.name ≡ a.name
  pub number : p.number ≡ a.number
  pub args_len : p.accepted.args_len ≡ a.args_len
  pub program : check_of tables a.args_len a.bytes ≡ Passed p.accepted.program
  pub ordered : IsOrderedAddition tables p

-- the procedure that is to be added is the last entry that was seen, at this position
pub record IsAddedAt {A : Type 0} (w : Setting) (a : AskedAddition) (position : ℕ) (seen : List (LogEntry A)) : Type 0 where
  pub procedure : ListedProcedure
  pub asked : IsAskedFor w.tables a procedure
  pub before : List (LogEntry A)
  pub list : seen ≡ before ++ entry.Addition procedure ∷ []
  pub place : position ≡ length seen

-- why nothing is ordered. The length of the arguments is tested first, then the program, then the name; where all three pass the
-- log may be full
abbrev pub IsNotAdded : Setting → AskedAddition → Added → Type 0
IsNotAdded w a (Ordered position) = ⊥
IsNotAdded w a Full = (p : ListedProcedure) × IsAskedFor w.tables a p
IsNotAdded w a NoMemory = a.args_len ≤ MAX_ARGUMENTS
IsNotAdded w a (Program ArgumentsLimit) = MAX_ARGUMENTS < a.args_len
IsNotAdded w a (Program (Fault fault)) = (a.args_len ≤ MAX_ARGUMENTS) × (check_of w.tables a.args_len a.bytes ≡ Failed fault)
IsNotAdded w a Name =
    (a.args_len ≤ MAX_ARGUMENTS) × ((program : Code) × (check_of w.tables a.args_len a.bytes ≡ Passed program)) × (is_name a.name ≡ false)

-- what each answer says, with what was seen of the log: something exactly where the procedure is ordered
abbrev pub IsAddedAnswer : {A : Type 0} → Setting → AskedAddition → Added → Option (List (LogEntry A)) → Type 0
IsAddedAnswer w a (Ordered position) (Some seen) = IsAddedAt w a position seen
IsAddedAnswer w a added None = IsNotAdded w a added
IsAddedAnswer w a added (Some seen) = ⊥
