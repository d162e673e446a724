-- What is asked of a setting and of the items of its log.
use Rattle.std.specs.Prelude.{◌≡◌, ℕ, ◌<◌, ◌≤◌, List, length, All, Some}
use Rattle.std.specs.Option.{IsSomeAnd}
use Rattle.std.specs.List.{AllByRecursion}
use Rattle.schema.specs.Schema.{Tables}
use Rattle.schema.specs.Rows.{Rows, AreRows}
use Rattle.bpf_semantics.specs.Run.{run}
use Rattle.bpf_semantics.specs.Path.{longest_path}
use Rattle.log_model.specs.Log.{StoredProcedure, Catalogue, Setting, Call, Item, CallItem, AdditionItem, Log, by_number, procedures_after}

-- arguments that a procedure takes
pub record AreArguments (p : StoredProcedure) (args : List ℕ) : Type 0 where
  pub count : length args ≡ p.args_len
  pub each_byte : All (λ b. b < 256) args

-- on arguments that it takes and rows of the schema the procedure has a run, which isn't longer than its longest path and
-- leaves rows of the schema. Of an accepted procedure that is so
abbrev pub IsSafe : Tables → StoredProcedure → Type 0
IsSafe tables p = (args : List ℕ) (rows : Rows) → AreArguments p args → AreRows tables rows
    → IsSomeAnd (run p.program tables args rows) (λ r. (r.steps ≤ longest_path p.program) × AreRows tables r.effect)

-- each of these procedures is safe
abbrev pub AreSafe : Tables → Catalogue → Type 0
AreSafe tables procedures = (number : ℕ) (p : StoredProcedure) → by_number procedures number ≡ Some p → IsSafe tables p

-- a setting begins with safe procedures and rows of its tables
pub record BeginsSafely (w : Setting) : Type 0 where
  pub procedures : AreSafe w.tables w.beginning.procedures
  pub rows : AreRows w.tables w.beginning.rows

-- a call of one of these procedures, with arguments that it takes
pub record IsCallOf (procedures : Catalogue) (call : Call) : Type 0 where
  pub procedure : StoredProcedure
  pub known : by_number procedures call.procedure ≡ Some procedure
  pub arguments : AreArguments procedure call.args

-- a call of one of the procedures of its snapshot
abbrev pub IsCall : Setting → Log → Call → Type 0
IsCall w log call = IsCallOf (procedures_after w log call.snapshot) call

-- an added procedure is safe
abbrev pub IsItem : Setting → Log → Item → Type 0
IsItem w log (CallItem call) = IsCall w log call
IsItem w log (AdditionItem p) = IsSafe w.tables p

abbrev pub AreItems : Setting → Log → Type 0
AreItems w log = AllByRecursion (IsItem w log) log

-- ---- logs that have calls of no procedure besides, which do nothing

-- where one of these has its number, the call has arguments that it takes
abbrev pub FitsProcedures : Catalogue → Call → Type 0
FitsProcedures procedures call = (p : StoredProcedure) → by_number procedures call.procedure ≡ Some p → AreArguments p call.args

-- a call fits the procedures of its snapshot; an added procedure is safe
abbrev pub FitsLog : Setting → Log → Item → Type 0
FitsLog w log (CallItem call) = FitsProcedures (procedures_after w log call.snapshot) call
FitsLog w log (AdditionItem p) = IsSafe w.tables p

abbrev pub AllFitLog : Setting → Log → Type 0
AllFitLog w log = AllByRecursion (FitsLog w log) log
