-- A call that came to its end.
use Rattle.std.specs.Prelude.{◌≡◌, ℕ, List, Option, Some}
use Rattle.schema.specs.declared.look.Look.{Look}
use Rattle.schema.specs.Rows.{Rows, Writes}
use Rattle.bpf_semantics.specs.Run.{Run, run}
use Rattle.bpf_verify.specs.Flow.{Procedure}

-- the procedure's run on these arguments and rows has so many steps, this reply, these looks and writes and this cancel
-- code
pub record CompletesIn (p : Procedure) (args : List ℕ) (rows : Rows) (steps reply : ℕ) (looks : List Look) (writes : Writes) (cancel_code : Option ℕ) : Type 0 where
  pub r : Run
  pub is_run : run p.program p.tables args rows ≡ Some r
  pub length : r.steps ≡ steps
  pub replied : r.reply ≡ reply
  pub looked : r.looks ≡ looks
  pub wrote : r.writes ≡ writes
  pub cancelled : r.cancel_code ≡ cancel_code
